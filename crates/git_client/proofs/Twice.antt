-- A step over the rest of a chunk, after the step that used the first part.
use Rattle.std.proofs.Common.{arith, ◌≡◌, ◌≢◌, inl, inr, ℕ, ◌+◌, ◌-◌, ◌≤◌, List, [], ◌++◌, length, take, drop, ap, sym, ◌∙◌, subst, refl, append_assoc}
use Rattle.std.proofs.lemmas.Grind.{common_steps}
use Rattle.git_pkt.proofs.Chunks.{take_joined}
use Rattle.git_client.specs.Events.{EventValue}
use Rattle.git_client.specs.Machine.Client.{Comes, ReceivesOn, IsPassed, LeavesStep}
use Rattle.git_client.specs.declared.client.Client.{Client}
use Rattle.git_client.specs.declared.client.Outcome.{Outcome}
use Rattle.git_client.specs.declared.client.Outcome.TheVariants.{More, Event, Passed, Failed}
use Rattle.git_client.proofs.Carries.{receives_twice}

left_length : (chunk : List ℕ) (used : ℕ) → used ≤ length chunk → length (take (length chunk - used) (drop used chunk)) ≡ length chunk - used
left_length chunk used within = grind (arith, common_steps)

module _ {A : Type 0} where
  pub receives_then : (a b c : Client A) (chunk : List ℕ) (used step : ℕ) (now : List EventValue) → used ≤ length chunk → ReceivesOn a (take used chunk) [] b
      → ReceivesOn b (take step (take (length chunk - used) (drop used chunk))) now c → ReceivesOn a (take (used + step) chunk) now c
  receives_then a b c chunk used step now within h k =
      subst (λ (l : List ℕ). ReceivesOn a l now c) (take_joined chunk used step within) (receives_twice a b c _ _ [] now h k)

  pub passed_then : (bytes chunk : List ℕ) (used step : ℕ) (new : Client A) → used ≤ length chunk
      → IsPassed bytes step (take (length chunk - used) (drop used chunk)) new → IsPassed bytes (used + step) chunk new
  passed_then bytes chunk used step new within p = record {
    front = take used chunk ++ p.front;
    lies = sym (take_joined chunk used step within) ∙ ap (λ (l : List ℕ). take used chunk ++ l) p.lies ∙ sym (append_assoc (take used chunk) p.front bytes);
    all = λ opened. elim (p.all opened) [ inl all ↦ inl (omega (arith, all, left_length chunk used within)) | inr last ↦ inr last ];
  }

  pub comes_then : (outcome : Outcome) (events : List EventValue) (chunk : List ℕ) (used step : ℕ) (new : Client A) → used ≤ length chunk
      → Comes outcome events step (take (length chunk - used) (drop used chunk)) new → Comes outcome events (used + step) chunk new
  comes_then More events chunk used step new within h = h
  comes_then Event events chunk used step new within h = h
  comes_then (Passed passed) events chunk used step new within (bytes, long, some, other, part, are) =
      (bytes, long, some, other, passed_then bytes chunk used step new within part, are)
  comes_then (Failed fault) events chunk used step new within h = h

  pub leaves_then : (outcome : Outcome) (chunk : List ℕ) (used step : ℕ) (new : Client A) → outcome ≢ More → used ≤ length chunk
      → LeavesStep outcome step (take (length chunk - used) (drop used chunk)) new → LeavesStep outcome (used + step) chunk new
  leaves_then More chunk used step new other within h = absurd (other refl)
  leaves_then Event chunk used step new other within h = (omega (arith, h.0), h.1, h.2)
  leaves_then (Passed passed) chunk used step new other within h = (omega (arith, h.0), h.1)
  leaves_then (Failed fault) chunk used step new other within h = (
    h.0,
    record {
      not_the_end = h.1.not_the_end;
      one_more = λ e. omega (arith, h.1.one_more e, left_length chunk used within);
    },
  )
