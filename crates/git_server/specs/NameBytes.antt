-- The numbers of bytes of names.
use Rattle.std.specs.Prelude.{ℕ, List, Option, Some, None, length}

-- the number of bytes of a name, or none
abbrev pub name_bytes : Option (List ℕ) → ℕ
name_bytes None = 0
name_bytes (Some name) = length name
