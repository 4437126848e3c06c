-- How a machine that judges a conversation ends where a response is refused, and which bytes show that.
use Rattle.std.proofs.Common.{arith, ◌≡◌, ◌≢◌, ℕ, ◌<◌, Bool, true, false, List, [], ◌∷◌, ◌++◌, length, take, drop, Some, Result}
use Rattle.std.proofs.Common.{Err, refl, sym, subst, ap, ◌∙◌, append_assoc, append-nil, length-append, length-drop}
use Rattle.std.proofs.Math.Seq.{take-add}
use Rattle.std.proofs.lemmas.List.{length-take}
use Rattle.git_pkt.specs.Streams.{IsTimely}
use Rattle.git_pkt.specs.declared.fault.Fault.{Fault}
use Rattle.git_pkt.specs.declared.fault.Kind.{Kind}
use Rattle.git_pkt.specs.declared.fault.Kind.TheVariants.{StreamTooLong, Truncated}
use Rattle.git_pkt.proofs.EngineLemmas.{timely, written_nothing}
use Rattle.git_client.specs.Parts.{Terms}
use Rattle.git_client.specs.Machine.Client.{ReceivesOn, fault_of}
use Rattle.git_client.specs.Machine.Gathered.{dropped, gathered}
use Rattle.git_client.specs.Machine.RunSteps.{ReceivesBytes}
use Rattle.git_client.specs.declared.client.Client.{Client}
use Rattle.git_client.specs.declared.receiving.Counts.{Counts}
use Rattle.git_client.proofs.ReceivedBytes.{received_to_fault}
use Rattle.git2show_lib.specs.Machine.CheckedStreams.{Checked, moved}
use Rattle.git2show_lib.specs.Machine.Checker.{IsOver, IsReceiving, form_of, unfailed}
use Rattle.git2show_lib.specs.Machine.CheckerTurns.{bytes_shown}
use Rattle.git2show_lib.specs.declared.checking.CheckFault.{CheckFault}
use Rattle.git2show_lib.specs.declared.checking.CheckFault.TheVariants.{Responses}
use Rattle.git2show_lib.specs.declared.judged_requests.JudgedRequests.{JudgedRequests}
use Rattle.git2show_lib.proofs.CheckerCut.{receives_plain, refused_within, response_within}
use Rattle.git2show_lib.proofs.CheckerSteps.{asked_further, further}

-- ---- what shows a fault

-- these bytes show a fault of the kind that was met after the first: a byte that is one too many is among them
pub record AreShown (kind : Kind) (used shown : List ℕ) : Type 0 where
  pub behind : List ℕ
  pub parts : shown ≡ used ++ behind
  pub one_more : kind ≡ StreamTooLong → 0 < length behind

pub shown_in : (kind : Kind) (used count : ℕ) (chunk : List ℕ) → count ≡ bytes_shown kind used → (kind ≡ StreamTooLong → used < length chunk)
    → AreShown kind (take used chunk) (take count chunk)
shown_in StreamTooLong used count chunk is more = record {
  behind = take 1 (drop used chunk);
  parts = ap (λ (n : ℕ). take n chunk) is ∙ take-add used 1 chunk;
  one_more = λ long. omega (arith, more long, length-take 1 (drop used chunk), length-drop used chunk);
}
shown_in kind used count chunk is more = record {
  behind = [];
  parts = ap (λ (n : ℕ). take n chunk) is ∙ sym (append-nil (take used chunk));
  one_more = λ long. absurd (cc);
}

module _ {A : Type 0} {t : Terms} {limit : ℕ} where
  -- a fault of the responses that a check met in time, it met where the bytes that show it were used, whatever comes after them
  pub checked_behind : {result : Result (Unit {0}) CheckFault} {requests_ended : Bool} {kind : Kind} {requests : List ℕ} (before : List ℕ) {used shown : List ℕ}
      (after : List ℕ) {lines : List ℕ} → AreShown kind used shown
      → ((unused : List ℕ) → IsTimely kind false unused
      → Checked A t limit result (unfailed requests_ended) (unfailed false) (requests ∷ ((before ++ used) ++ unused) ∷ []) (lines ∷ []))
      → kind ≢ Truncated
      → Checked A t limit result (unfailed requests_ended) (unfailed false) (requests ∷ ((before ++ shown) ++ after) ∷ []) (lines ∷ [])
  checked_behind {result} {requests_ended} {kind} {requests} before {used} {shown} after {lines} s checked other =
      let same : (before ++ shown) ++ after ≡ (before ++ used) ++ (s.behind ++ after) =
      ap (λ (l : List ℕ). (before ++ l) ++ after) s.parts ∙ ap (λ (l : List ℕ). l ++ after) (sym (append_assoc before used s.behind))
      ∙ append_assoc (before ++ used) s.behind after in
      subst (λ (l : List ℕ). Checked A t limit result (unfailed requests_ended) (unfailed false) (requests ∷ l ∷ []) (lines ∷ [])) (sym same)
      (checked (s.behind ++ after) (timely kind false (s.behind ++ after) other (λ long. omega (arith, s.one_more long, length-append s.behind after))))

  -- a response that is received as it comes ends with a fault, which comes in time
  receiving_ended : (requests_ended ended : Bool) {requests responses lines : List ℕ} {client new : Client A} {counts now : Counts}
      {stream : JudgedRequests A} {passed : ℕ}
      {more after : List ℕ} → IsReceiving t limit requests responses lines client counts stream passed
      → ReceivesBytes false client new counts now more (gathered lines after) dropped dropped → (fault : Fault) → fault_of new ≡ Some fault
      → (more_requests more_responses : List ℕ) → IsTimely fault.kind ended more_responses
      → Checked A t limit (Err (Responses (moved passed fault))) (unfailed requests_ended) (unfailed ended)
      ((requests ++ more_requests) ∷ ((responses ++ more) ++ more_responses) ∷ []) (after ∷ [])
  receiving_ended requests_ended ended {more = more} r b fault failed more_requests more_responses in_time =
      let a = asked_further more r.asked in
      refused_within (response_within more_requests a (further r b) (receives_plain (form_of t limit a) (r.used ++ more) r.plain)) r.plain
      (unfailed requests_ended) (unfailed ended) fault failed more_responses in_time

  module _ {requests responses lines : List ℕ} {client new : Client A} {counts : Counts} {stream : JudgedRequests A} {passed : ℕ}
      (r : IsReceiving t limit requests responses lines client counts stream passed) (fault : Fault) (failed : fault_of new ≡ Some fault)
      (opened requests_ended : Bool) where
    -- it is refused
    pub receiving_refused : {now : Counts} {more after shown : List ℕ}
        → ReceivesBytes false client new counts now more (gathered lines after) dropped dropped → fault.kind ≢ Truncated → AreShown fault.kind more shown
        → IsOver A t limit (Err (Responses (moved passed fault))) opened requests_ended false requests (responses ++ shown) after
    receiving_refused {more = more} {after} b other shown more_requests more_responses follow =
        checked_behind {result = Err (Responses (moved passed fault))} responses more_responses shown
        (λ behind. receiving_ended requests_ended false r b fault failed more_requests behind) other

    -- the responses end in it
    pub receiving_closed : ReceivesOn client [] [] new → fault.kind ≡ Truncated
        → IsOver A t limit (Err (Responses (moved passed fault))) opened requests_ended true requests responses lines
    receiving_closed arrives kind =
        subst (λ (l : List ℕ). IsOver A t limit (Err (Responses (moved passed fault))) opened requests_ended true requests l lines) (append-nil responses)
        (λ more_requests more_responses follow.
        receiving_ended requests_ended true r (received_to_fault counts arrives fault failed (written_nothing (Some lines)) tt tt) fault failed
        more_requests more_responses (rw kind (follow.responses_end refl, refl)))
