-- The digits of an object, as they are written.
use Rattle.std.specs.Prelude.{◌≡◌, ℕ, List}
use Rattle.git_names.specs.ObjectName.{IsObjectName, ObjectName, hex_of}
use Rattle.git_names.specs.declared.object_format.Format.{Format}

-- the text names an object, and these are its digits in lower case
pub record SpellsId (format : Format) (text digits : List ℕ) : Type 0 where
  pub id : ObjectName
  pub named : IsObjectName format text id
  pub written : digits ≡ hex_of id
