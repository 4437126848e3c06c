-- Attributes of reference lines.
use Rattle.std.proofs.Common.{rules, ◌≡◌, ℕ, false, List, ◌++◌, codes, take}
use Rattle.std.specs.Str.{bytes_eq}
use Rattle.git_names.specs.ObjectName.{ObjectName, IsObjectName}
use Rattle.git_names.specs.RefName.{IsRefName}
use Rattle.git_names.specs.declared.object_format.Format.{Format}
use Rattle.git_msg.specs.References.{IsAttribute}
use Rattle.git_rows.proofs.TextsByComputing.{begins_otherwise}

-- an attribute with this target
pub target_passes : (format : Format) (name : List ℕ) → IsRefName name → IsAttribute format (codes "symref-target:" ++ name)
target_passes format name h = search rules

-- an attribute with this peeled object
pub peeled_passes : (format : Format) (text : List ℕ) (id : ObjectName) → IsObjectName format text id → IsAttribute format (codes "peeled:" ++ text)
peeled_passes format text id h = search rules

-- an attribute of another key
pub other_passes : (format : Format) (word : List ℕ) → bytes_eq (take 14 word) (codes "symref-target:") ≡ false
    → bytes_eq (take 7 word) (codes "peeled:") ≡ false → IsAttribute format word
other_passes format word a b = record {
  target = λ value e. absurd (begins_otherwise (codes "symref-target:") word a value e);
  peeled = λ value e. absurd (begins_otherwise (codes "peeled:") word b value e);
}
