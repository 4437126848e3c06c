-- The order of refusals, as a list of checks: the first check that fails is the refusal.
use Rattle.std.specs.Prelude.{◌≡◌, ◌⊎◌, List, [], ◌∷◌}
use Rattle.git_pkt.specs.declared.fault.Kind.{Kind}

-- a check: what it refuses, with which error, and what passes it
pub record Check : Type 1 where
  pub refuses : Kind → Type 0
  pub passes : Type 0

-- passes if P holds, and refuses with this error if Q holds
abbrev pub check : Type 0 → Type 0 → Kind → Check
check P Q name = record { refuses = λ kind. Q × (kind ≡ name); passes = P }

-- refuses if Q holds
abbrev pub unless : Type 0 → Kind → Check
unless Q name = check (¬ Q) Q name

-- some check refuses with this error, and those before it pass
abbrev pub Refuses : List Check → Kind → Type 0
Refuses [] kind = ⊥
Refuses (c ∷ cs) kind = c.refuses kind ⊎ (c.passes × Refuses cs kind)

-- all checks pass
abbrev pub Passes : List Check → Type 0
Passes [] = Unit {0}
Passes (c ∷ cs) = c.passes × Passes cs
