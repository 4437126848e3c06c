-- Calls of a server, one after the other.
use Rattle.std.proofs.Common.{arith, ◌≡◌, ◌≢◌, ℕ, Bool, true, false, List, [], ◌∷◌, ◌++◌, length, take, Some, None, refl, sym}
use Rattle.std.proofs.Common.{subst, inl, inr}
use Rattle.std.proofs.Common.{append_assoc, append-nil}
use Rattle.std.proofs.lemmas.List.{length-take-le}
use Rattle.git_pkt.specs.Machine.Credit.{ArePaid, MakesAll, credit_of}
use Rattle.git_pkt.proofs.Credits.{all_paid}
use Rattle.git_pkt.specs.Packets.{Pkt}
use Rattle.git_pkt.specs.declared.fault.Fault.{Fault}
use Rattle.git_pkt.specs.declared.fault.Kind.TheVariants.{StreamTooLong}
use Rattle.git_server.specs.Repository.{RepoState}
use Rattle.git_server.specs.Sessions.{FirstMalformed, IsEnding, IsOfTheBytes, IsRefused, Setting}
use Rattle.git_server.specs.Machine.Server.{Running, outcome_of, reader_of}
use Rattle.git_server.specs.Machine.Calls.{Call, feed, pull, close, Headline, Makes, closes, feeds_by, given_in, used_by, used_in}
use Rattle.git_server.specs.Machine.ServerCalls.{EndsByRefusal, given_by}
use Rattle.git_server.specs.declared.outcome.Outcome.{Outcome}
use Rattle.git_server.specs.declared.outcome.Outcome.TheVariants.{Refused}
use Rattle.git_server.specs.declared.server.Server.{Server}
use Rattle.git_server.proofs.Going.{no_outcome}
use Rattle.git_server.proofs.OneSession.{waits_behind_all}
use Rattle.git_server.proofs.OneOutcome.{clean_so_far, one_end}
use Rattle.git_server.proofs.RefusedMemory.{explained_at_first, memory_after_close, memory_after_pull}
use Rattle.git_server.proofs.SessionLaws.{all_answered, ending, every_moment, going_on, its_end}

-- whether the input ended, where it had or not before the calls
ended : Bool → List Call → Bool
ended over [] = over
ended over (feed chunk used ∷ calls) = ended over calls
ended over (pull answer ∷ calls) = ended over calls
ended over (close ∷ calls) = ended true calls

stays_ended : (calls : List Call) → ended true calls ≡ true
unfolding ended
stays_ended [] = refl
stays_ended (feed chunk used ∷ calls) = stays_ended calls
stays_ended (pull answer ∷ calls) = stays_ended calls
stays_ended (close ∷ calls) = stays_ended calls

ended_by : (calls : List Call) → ended false calls ≡ closes calls
unfolding ended
ended_by [] = refl
ended_by (feed chunk used ∷ calls) = ended_by calls
ended_by (pull answer ∷ calls) = ended_by calls
ended_by (close ∷ calls) = stays_ended calls

-- what is refused as it was read is malformed
malformed_by : (s : Setting) (used : List ℕ) (over : Bool) (given : List ℕ) (unsent : List Pkt) (fault : Fault) → IsOfTheBytes (Refused fault)
    → (h : IsEnding s used over given (Refused fault) unsent) → IsRefused s over h.left h.rest (length used) fault → FirstMalformed s used over fault
malformed_by s used over given unsent fault of_bytes h (inl refused) =
    record { asked = h.asked; left = h.left; rest = h.rest; stream = h.stream; refused = refused; of_the_bytes = of_bytes }
malformed_by s used over given unsent fault of_bytes h (inr lost) = absurd (of_bytes.by_pack lost.name)

module _ {R A : Type 0} (state : R → RepoState) (refuses : ℕ → Type 0) where
  regroup : (s : Setting) (a b c : List ℕ) (over : Bool) (d e f : List ℕ) (server : Server R A) → Running state s ((a ++ b) ++ c) over ((d ++ e) ++ f) server
      → Running state s (a ++ (b ++ c)) over (d ++ (e ++ f)) server
  regroup s a b c over d e f server r =
      subst (λ (u : List ℕ). Running state s u over (d ++ (e ++ f)) server) (append_assoc a b c)
      (subst (λ (w : List ℕ). Running state s ((a ++ b) ++ c) over w server) (append_assoc d e f) r)

  -- the calls go on from what held before them
  goes_by : (s : Setting) (calls : List Call) (before : ℕ) (old : Server R A) (after : ℕ) (new : Server R A)
      → MakesAll (Makes state refuses) calls before old after new → (so_far : List ℕ) (over : Bool) (given : List ℕ) → Running state s so_far over given old
      → Running state s (so_far ++ used_in calls) (ended over calls) (given ++ given_in calls) new
  unfolding ended
  goes_by s [] before old after new (counter, same) so_far over given r =
      subst (λ (u : List ℕ). Running state s u over (given ++ []) new) (sym (append-nil so_far))
      (subst (λ (w : List ℕ). Running state s so_far over w new) (sym (append-nil given)) (subst (Running state s so_far over given) (sym same) r))
  goes_by s (feed chunk used ∷ calls) before old after new (next, between, made, more) so_far over given r =
      regroup s so_far (take used chunk) (used_in calls) (ended over calls) given [] (given_in calls) new
      (goes_by s calls next between after new more (so_far ++ take used chunk) over (given ++ []) (made.goes s so_far over given r))
  goes_by s (pull answer ∷ calls) before old after new (next, between, made, more) so_far over given r =
      regroup s so_far [] (used_in calls) (ended over calls) given (given_by answer) (given_in calls) new
      (goes_by s calls next between after new more (so_far ++ []) over (given ++ given_by answer) (made.0.goes s so_far over given r))
  goes_by s (close ∷ calls) before old after new (next, between, made, more) so_far over given r =
      goes_by s calls next between after new more so_far true given (made.0.closes s so_far over given r).0

  -- a session that ends for want of memory was refused a list
  memory_by : (s : Setting) (calls : List Call) (before : ℕ) (old : Server R A) (after : ℕ) (new : Server R A)
      → MakesAll (Makes state refuses) calls before old after new → (so_far : List ℕ) (over : Bool) (given : List ℕ) → Running state s so_far over given old
      → EndsByRefusal refuses s.limit old → EndsByRefusal refuses s.limit new
  memory_by s [] before old after new (counter, same) so_far over given r ends = subst (EndsByRefusal refuses s.limit) (sym same) ends
  memory_by s (feed chunk used ∷ calls) before old after new (next, between, made, more) so_far over given r ends =
      memory_by s calls next between after new more (so_far ++ take used chunk) over (given ++ []) (made.goes s so_far over given r)
      (made.memory s so_far over given r ends)
  memory_by s (pull answer ∷ calls) before old after new (next, between, made, more) so_far over given r ends =
      memory_by s calls next between after new more (so_far ++ []) over (given ++ given_by answer) (made.0.goes s so_far over given r)
      (memory_after_pull refuses s.limit (outcome_of old) (outcome_of between) made.0.outcome ends)
  memory_by s (close ∷ calls) before old after new (next, between, made, more) so_far over given r ends =
      let (running, closing) = made.0.closes s so_far over given r in
      memory_by s calls next between after new more so_far true given running (memory_after_close refuses s.limit (outcome_of between) closing)

  -- each call is paid
  paid_by : (call : Call) (before : ℕ) (old : Server R A) (after : ℕ) (new : Server R A) → Makes state refuses call before old after new
      → ArePaid (length (used_by call)) (feeds_by call) before after (credit_of (reader_of old)) (credit_of (reader_of new))
  paid_by (feed chunk used) before old after new made =
      record { rises = made.pays.rises; within = omega (arith, made.pays.within, length-take-le used chunk made.within) }
  paid_by (pull answer) before old after new made = record { rises = omega (arith, made.1); within = omega (arith, made.0.credit, made.1) }
  paid_by close before old after new made = record { rises = omega (arith, made.1); within = omega (arith, made.0.credit, made.1) }

  module _ (s : Setting) (used : List ℕ) (over : Bool) (given : List ℕ) (server : Server R A) (r : Running state s used over given server) where
    refused_first : (fault : Fault) → outcome_of server ≡ Some (Refused fault) → IsOfTheBytes (Refused fault) → FirstMalformed s used over fault
    refused_first fault some of_bytes =
        let (unsent, h) = ending state server s used over given r (Refused fault) some in
        malformed_by s used over given unsent fault of_bytes h h.ends

    malformed_ends : (fault : Fault) (outcome : Outcome) → FirstMalformed s used over fault → outcome_of server ≡ Some outcome → IsOfTheBytes outcome
        → outcome ≡ Refused fault
    malformed_ends fault outcome k some of_bytes =
        let (unsent, h) = ending state server s used over given r outcome some in
        one_end s used over h.asked k.asked h.left k.left h.rest k.rest outcome (Refused fault) h.stream k.stream h.ends (inl k.refused) of_bytes k.of_the_bytes

    clean : (fault : Fault) → outcome_of server ≡ None → fault.kind ≢ StreamTooLong → FirstMalformed s used over fault → ⊥
    clean fault none other k =
        let (not_over, goes_on) = going_on state server s used over given r none in
        clean_so_far s used given fault goes_on (subst (λ (b : Bool). FirstMalformed s used b fault) not_over k) other

  -- what is promised after any calls
  pub after_any_calls : (s : Setting) (calls : List Call) (before after : ℕ) (first last : Server R A) → Running state s [] false [] first
      → credit_of (reader_of first) ≡ 0 → MakesAll (Makes state refuses) calls before first after last → Headline state refuses s calls before after last
  after_any_calls s calls before after first last new no_credit made =
      let used = used_in calls in
      let over = closes calls in
      let given = given_in calls in
      let r : Running state s used over given last =
      subst (λ (b : Bool). Running state s used b given last) (ended_by calls) (goes_by s calls before first after last made [] false [] new) in
      let paid = all_paid (Makes state refuses) (λ server. credit_of (reader_of server)) used_by feeds_by paid_by calls before first after last made in
      record {
        hold = r.fits;
        stored = omega (arith, r.covered, last.requests.bounded.covered);
        kept = r.within;
        held = omega (arith, r.fits, r.within, r.covered, last.requests.bounded.covered);
        rises = paid.rises;
        steps = omega (arith, paid.within, no_credit);
        running = every_moment state last s used over given r;
        goes_on = going_on state last s used over given r;
        waits = (
          λ wants. (no_outcome last.phase wants, all_answered state last s used over given r wants),
          λ all. waits_behind_all state last s used over given r all.0 all.1,
        );
        ends = ending state last s used over given r;
        session = λ outcome some none. its_end state last s used over given r outcome some none;
        refused = refused_first s used over given last r;
        malformed = malformed_ends s used over given last r;
        memory = memory_by s calls before first after last made [] false [] new (explained_at_first state refuses s first new);
        clean = clean s used over given last r;
      }
