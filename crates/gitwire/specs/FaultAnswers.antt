-- What users see of errors, by their numbers.
use Rattle.std.specs.Prelude.{◌≡◌, ◌≢◌, ℕ, List, Option, Some, None}
use Rattle.git_pkt.specs.FaultNames.{fault_text, kind_number}
use Rattle.git_pkt.specs.declared.fault.Kind.{Kind}
use Rattle.gitwire.specs.Buffers.{Puts}

-- the kind with this number, or none has it
abbrev pub IsKindOf : ℕ → Option Kind → Type 0
IsKindOf number None = (kind : Kind) → kind_number kind ≢ number
IsKindOf number (Some kind) = kind_number kind ≡ number

-- the text of a kind is in the buffer; or there is none, and nothing is written
abbrev pub PutsOf : (Kind → List ℕ) → Option Kind → List ℕ → ℕ → List ℕ → Type 0
PutsOf text None buffer answer filled = (answer ≡ 0) × (filled ≡ buffer)
PutsOf text (Some kind) buffer answer filled = Puts (text kind) buffer answer filled

-- what users see of the error with this number
abbrev pub AnnouncesText : ℕ → ℕ → List ℕ → ℕ → List ℕ → Type 0
AnnouncesText number offset buffer answer filled =
    (kind : Option Kind) × IsKindOf number kind × PutsOf (λ kind. fault_text (record { kind = kind; offset = offset })) kind buffer answer filled
