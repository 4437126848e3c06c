-- How a clause sees a reference name that borrows its bytes.
use Rattle.std.specs.Prelude.{ℕ, List}
use Rattle.git_names.specs.declared.reference.RefName.{RefName}

-- its text
abbrev pub name_bytes : RefName → List ℕ
name_bytes name = name.text.now
