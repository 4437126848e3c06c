-- What the moves of a run carry on: a fact of the bytes that a machine has used and given, and of its state. A machine that reads the input 0
-- and gives to the output 0 may state its `reaches` so; the laws of `Machine` about that are proved here.
use Rattle.std.specs.Prelude.{ℕ, Bool, List, [], ◌++◌}
use Rattle.std.proofs.Common.{sym, ap, ◌∙◌, append_assoc, append-nil, subst}
use Rattle.git_loop.specs.Moves.{Move, ended_after, given_to, used_of, ended_after-append, given_to-append, used_of-append}

-- `Holds setting used over given m` states that m has used and given these bytes, and whether its input has ended
module _ {S M : Type 0} (Holds : S → List ℕ → Bool → List ℕ → M → Type 0) where
  -- what held before these moves holds after them, with what they used and gave
  abbrev pub Carries : M → List Move → M → Type 0
  Carries old trace new =
      (setting : S) (used : List ℕ) (over : Bool) (given : List ℕ) → Holds setting used over given old
      → Holds setting (used ++ used_of 0 trace) (ended_after 0 over trace) (given ++ given_to 0 trace) new

  pub carries_itself : (m : M) → Carries m [] m
  carries_itself m setting used over given h =
      subst (λ (l : List ℕ). Holds setting l over (given ++ []) m) (sym (append-nil used))
      (subst (λ (l : List ℕ). Holds setting used over l m) (sym (append-nil given)) h)

  pub carries_further : (old middle new : M) (t u : List Move) → Carries old t middle → Carries middle u new → Carries old (t ++ u) new
  carries_further old middle new t u first second setting used over given h =
      let used_all = append_assoc used (used_of 0 t) (used_of 0 u) ∙ ap (λ (l : List ℕ). used ++ l) (sym (used_of-append 0 t u)) in
      let given_all = append_assoc given (given_to 0 t) (given_to 0 u) ∙ ap (λ (l : List ℕ). given ++ l) (sym (given_to-append 0 t u)) in
      subst (λ (b : Bool). Holds setting (used ++ used_of 0 (t ++ u)) b (given ++ given_to 0 (t ++ u)) new) (sym (ended_after-append 0 over t u))
      (subst (λ (l : List ℕ). Holds setting l (ended_after 0 (ended_after 0 over t) u) (given ++ given_to 0 (t ++ u)) new) used_all
      (subst (λ (l : List ℕ). Holds setting ((used ++ used_of 0 t) ++ used_of 0 u) (ended_after 0 (ended_after 0 over t) u) l new) given_all
      (second setting (used ++ used_of 0 t) (ended_after 0 over t) (given ++ given_to 0 t) (first setting used over given h))))
