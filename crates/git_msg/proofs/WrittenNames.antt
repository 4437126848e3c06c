-- The length of the written forms of object names, and their meaning.
use Rattle.std.proofs.Common.{arith, ◌≡◌, ℕ, ◌≤◌, List, length, subst}
use Rattle.git_names.specs.ObjectFormat.{digits_of}
use Rattle.git_names.specs.ObjectName.{ObjectName, IsObjectName, hex_of}
use Rattle.git_names.specs.declared.object_format.Format.{Format}
use Rattle.git_names.specs.declared.object_format.Format.TheVariants.{Sha1, Sha256}
use Rattle.git_names.proofs.ObjectNames.{IsOid-of_text, reads_back-hex_of}
use Rattle.git_msg.specs.Arguments.{IsNameIn}

pub digits_at_most : (format : Format) → digits_of format ≤ 64
digits_at_most Sha1 = omega arith
digits_at_most Sha256 = omega arith

-- the written form of a name of the format reads back as that name
pub hex_of-reads_back : (format : Format) (id : ObjectName) → IsNameIn format id → IsObjectName format (hex_of id) id
hex_of-reads_back format id h = subst (λ (f : Format). IsObjectName f (hex_of id) id) h.of_format (reads_back-hex_of id h.is_oid)

-- a text of an object name has the format of the name
pub named_in : (format : Format) (text : List ℕ) (id : ObjectName) → IsObjectName format text id → IsNameIn format id
named_in format text id h = record { of_format = h.of_format; is_oid = IsOid-of_text format text id h }

pub length-hex_of : (format : Format) (id : ObjectName) → IsNameIn format id → length (hex_of id) ≡ digits_of format
length-hex_of format id h = (hex_of-reads_back format id h).count

pub hex_of-at_most : (format : Format) (id : ObjectName) → IsNameIn format id → length (hex_of id) ≤ 64
hex_of-at_most format id h = omega (arith, length-hex_of format id h, digits_at_most format)

digits_at_least : (format : Format) → 40 ≤ digits_of format
digits_at_least Sha1 = omega arith
digits_at_least Sha256 = omega arith

pub hex_of-at_least : (format : Format) (id : ObjectName) → IsNameIn format id → 40 ≤ length (hex_of id)
hex_of-at_least format id h = omega (arith, length-hex_of format id h, digits_at_least format)
