-- A reference line is accepted or refused, never both, and it has one error.
use Rattle.std.proofs.Common.{arith, ◌≡◌, ℕ, Option, Some, None, List, [], ◌∷◌, ◌++◌, refl, ap, sym, ◌∙◌, slice_index, codes, rules}
use Rattle.git_names.specs.ObjectName.{ObjectName}
use Rattle.git_names.specs.declared.object_format.Format.{Format}
use Rattle.git_pkt.specs.declared.fault.Kind.{Kind}
use Rattle.git_pkt.specs.declared.fault.Kind.TheVariants.{BadLine, BadObjectName, BadRefName}
use Rattle.git_msg.specs.Checks.{Passes}
use Rattle.git_msg.specs.References.{Ref, IsAttribute, IsAttributeFault, IsIdText, IsNoIdText, IsReferenceLine, IsReferenceFault, attribute_checks}
use Rattle.git_msg.specs.References.{reference_checks}
use Rattle.git_msg.proofs.CheckLaws.{AllFair, passes_or_refuses, one_name, fair_check}

attribute_apart : (format : Format) (word : List ℕ) (kind : Kind) → IsAttribute format word → IsAttributeFault format word kind → ⊥
attribute_apart format word BadRefName h fault = fault.holds (h.target fault.value fault.spelled)
attribute_apart format word BadObjectName h fault = let t = h.peeled fault.value fault.spelled in fault.holds t.0 t.1
attribute_apart format word kind h fault = fault

-- the two keys begin with different bytes
other_key : (word target peeled : List ℕ) → word ≡ codes "symref-target:" ++ target → word ≡ codes "peeled:" ++ peeled → ⊥
other_key word target peeled h k = let e = ap (λ (text : List ℕ). slice_index text 0) (sym h ∙ k) in omega arith

attribute_single : (format : Format) (word : List ℕ) (kind other : Kind) → IsAttributeFault format word kind → IsAttributeFault format word other
    → kind ≡ other
attribute_single format word BadRefName BadRefName h k = refl
attribute_single format word BadObjectName BadObjectName h k = refl
attribute_single format word BadRefName BadObjectName h k = absurd (other_key word h.value k.value h.spelled k.spelled)
attribute_single format word BadObjectName BadRefName h k = absurd (other_key word k.value h.value k.spelled h.spelled)
attribute_single format word BadRefName other h k = absurd k
attribute_single format word BadObjectName other h k = absurd k
attribute_single format word kind other h k = absurd h

fair_attributes : (format : Format) (words : List (List ℕ)) → AllFair (attribute_checks format words)
unfolding AllFair
fair_attributes format [] = tt
fair_attributes format (word ∷ words) =
    (record { apart = attribute_apart format word; single = attribute_single format word }, fair_attributes format words)

id_or_none : (format : Format) (word : List ℕ) (named : Option ObjectName) → IsIdText format word named → IsNoIdText format word → ⊥
id_or_none format word None h none = none.0 h
id_or_none format word (Some id) h none = none.1 id h

fair_reference : (format : Format) (words : List (List ℕ)) → AllFair (reference_checks format words)
unfolding AllFair
fair_reference format [] = (fair_check ⊥ (Unit {0}) BadLine (λ p q. p), tt)
fair_reference format (word ∷ []) = (fair_check ⊥ (Unit {0}) BadLine (λ p q. p), tt)
fair_reference format (id ∷ name ∷ attributes) = search (rules, fair_check, id_or_none, fair_attributes)

-- a reference line passes its checks
line_passes : (format : Format) (text : List ℕ) (ref : Ref) → (h : IsReferenceLine format text ref)
    → Passes (reference_checks format (h.id ∷ ref.name ∷ h.attributes))
line_passes format text ref h = ((ref.id, h.id_is), (h.name_is, h.attributes_are.passes))

pub reference_or_fault : (format : Format) (text : List ℕ) (ref : Ref) (kind : Kind) → IsReferenceLine format text ref → IsReferenceFault format text kind → ⊥
reference_or_fault format text ref kind h fault = search (rules, passes_or_refuses, fair_reference, line_passes)

pub one_reference_fault : (format : Format) (text : List ℕ) (kind other : Kind) → IsReferenceFault format text kind → IsReferenceFault format text other
    → kind ≡ other
one_reference_fault format text kind other h k = one_name (reference_checks format _) (fair_reference format _) kind other h k
