-- The name of an object format, and the length of its object names.
use Rattle.std.specs.Prelude.{◌≢◌, ℕ, List, codes}
use Rattle.git_names.specs.declared.object_format.Format.{Format}
use Rattle.git_names.specs.declared.object_format.Format.TheVariants.{Sha1, Sha256}

-- how many bytes an object name of this format has
abbrev pub width_of : Format → ℕ
width_of Sha1 = 20
width_of Sha256 = 32

-- how many hexadecimal digits an object name has
abbrev pub digits_of : Format → ℕ
digits_of Sha1 = 40
digits_of Sha256 = 64

-- the protocol's name for the format
abbrev pub name_of : Format → List ℕ
name_of Sha1 = codes "sha1"
name_of Sha256 = codes "sha256"

-- the text is the name of no format
abbrev pub NamesNoFormat : List ℕ → Type 0
NamesNoFormat text = (format : Format) → text ≢ name_of format
