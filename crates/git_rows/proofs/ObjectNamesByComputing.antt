-- Texts that are object names, by computing.
use Rattle.std.proofs.Common.{◌≡◌, ℕ, List, length, refl, Ok}
use Rattle.hex.specs.Hex.{decode_of, decode_pairs}
use Rattle.git_names.specs.ObjectName.{IsObjectName, IsPadded, ObjectName, name_bytes}
use Rattle.git_names.specs.ObjectFormat.{digits_of}
use Rattle.git_names.specs.declared.object_format.Format.{Format}
use Rattle.git_names.specs.declared.object_format.Format.TheVariants.{Sha1}
use Rattle.git_rows.specs.Worked.{all_a, all_b, name_a, name_b}

-- the text is an object name
pub object_name_by : (format : Format) (text : List ℕ) (id : ObjectName) → length text ≡ digits_of format → id.format ≡ format
    → decode_of text ≡ Ok (name_bytes id) → IsPadded id → IsObjectName format text id
object_name_by format text id count same decodes padded = record { count = count; of_format = same; decodes = decodes; padded = padded }

-- forty times the letter a, in lower case
pub all_a_is_name : IsObjectName Sha1 all_a name_a
unfolding decode_pairs
all_a_is_name = object_name_by Sha1 all_a name_a refl refl refl refl

pub all_b_is_name : IsObjectName Sha1 all_b name_b
unfolding decode_pairs
all_b_is_name = object_name_by Sha1 all_b name_b refl refl refl refl
