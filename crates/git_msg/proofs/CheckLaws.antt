-- Checks in order: what passes them is not refused, and they refuse with one error.
use Rattle.std.proofs.Common.{◌≡◌, List, [], ◌∷◌, sym, ◌∙◌, inl, inr}
use Rattle.git_pkt.specs.declared.fault.Kind.{Kind}
use Rattle.git_msg.specs.Checks.{Check, check, Refuses, Passes}

-- for each check, passing and refusing exclude each other, and it refuses with one error
pub record IsFair (c : Check) : Type 0 where
  pub apart : (kind : Kind) → c.passes → c.refuses kind → ⊥
  pub single : (kind other : Kind) → c.refuses kind → c.refuses other → kind ≡ other

unfoldable pub AllFair : List Check → Type 0
AllFair [] = Unit {0}
AllFair (c ∷ cs) = IsFair c × AllFair cs

pub passes_or_refuses : (cs : List Check) → AllFair cs → (kind : Kind) → Passes cs → Refuses cs kind → ⊥
unfolding AllFair
passes_or_refuses [] fair kind p r = r
passes_or_refuses (c ∷ cs) fair kind p (inl r) = fair.0.apart kind p.0 r
passes_or_refuses (c ∷ cs) fair kind p (inr r) = passes_or_refuses cs fair.1 kind p.1 r.1

pub one_name : (cs : List Check) → AllFair cs → (kind other : Kind) → Refuses cs kind → Refuses cs other → kind ≡ other
unfolding AllFair
one_name [] fair kind other r s = absurd r
one_name (c ∷ cs) fair kind other (inl r) (inl s) = fair.0.single kind other r s
one_name (c ∷ cs) fair kind other (inl r) (inr s) = absurd (fair.0.apart kind s.0 r)
one_name (c ∷ cs) fair kind other (inr r) (inl s) = absurd (fair.0.apart other r.0 s)
one_name (c ∷ cs) fair kind other (inr r) (inr s) = one_name cs fair.1 kind other r.1 s.1

-- a check with a single error
pub fair_check : (P Q : Type 0) (name : Kind) → (P → Q → ⊥) → IsFair (check P Q name)
fair_check P Q name h = record { apart = λ kind p r. h p r.0; single = λ kind other r s. r.1 ∙ sym s.1 }
