-- What holds of a client after any sequence of calls.
use Rattle.std.proofs.Common.{arith, ◌≡◌, ◌≢◌, ℕ, ◌+◌, ◌≤◌, true, false, List, [], ◌∷◌, ◌++◌, Option, Some, None, length, take, refl, sym, ◌∙◌, ap, subst}
use Rattle.std.proofs.Common.{length-append, append-nil}
use Rattle.std.specs.Prelude.{flat_map, sum_by}
use Rattle.std.proofs.lemmas.List.{length-take-le}
use Rattle.std.proofs.lemmas.List.Sums.{sum_by-cons}
use Rattle.git_names.specs.declared.object_format.Format.{Format}
use Rattle.git_pkt.specs.Machine.Credit.{ArePaid, MakesAll, credit_of}
use Rattle.git_pkt.proofs.Credits.{all_paid}
use Rattle.git_msg.specs.Machine.HeldRequest.{kept_of, limit_of as request_limit, stored_of}
use Rattle.git_msg.specs.declared.requests.Request.{Request}
use Rattle.git_client.specs.Parts.{Terms, in_format}
use Rattle.git_client.specs.Events.{EventValue}
use Rattle.git_client.specs.Machine.Choosing.{ChoosesFormat}
use Rattle.git_client.specs.Machine.Client.{History, Converses, format_of, nothing_yet, can_ask, phase_of, reader_of, stored_in, kept_in, limit_in}
use Rattle.git_client.specs.Machine.Turns.{fault_in, has_left_in, is_asking, is_ready, left_in, takes_packets}
use Rattle.git_client.specs.Machine.AnyCalls.{AnyCall, MakesAny, choose, other, others_of, terms_after}
use Rattle.git_client.specs.Machine.Calls.{Call, ask, ask_refused, leave, pull, feed, close, Makes, Headline, after_call, history_after, feeds_by, feeds_in}
use Rattle.git_client.specs.declared.client.Client.{Client}
use Rattle.git_client.specs.declared.phase.Phase.{Phase}
use Rattle.git_client.specs.declared.phase.Phase.TheVariants.{Receiving, Asking}
use Rattle.git_client.proofs.CanAsk.{can_ask_announces}
use Rattle.git_client.proofs.EventsReceived.{awaits_more, has_events, has_noted, goes_well, is_whole, all_is_sent}
use Rattle.git_client.proofs.Faults.{first_fault}
use Rattle.git_client.proofs.OneFault.{one_shown, one_by_name}
use Rattle.git_client.proofs.Packs.{has_pack}

-- a request that is being asked stores no more than it has counted, and has counted no more than its limit
pub stored_within : {A : Type 0} (request : Option (Request A)) → ((q : Request A) → request ≡ Some q → stored_of q ≤ kept_of q)
    → stored_in request ≤ kept_in request
stored_within None h = omega arith
stored_within (Some q) h = h q refl

pub kept_within : {A : Type 0} (request : Option (Request A)) → ((q : Request A) → request ≡ Some q → kept_of q ≤ request_limit q)
    → kept_in request ≤ limit_in request
kept_within None h = omega arith
kept_within (Some q) h = h q refl

-- while packets are expected from the server, none is left to be sent
nothing_left : {A : Type 0} (phase : Phase) (request : Option (Request A)) → takes_packets phase ≡ true → left_in phase request ≡ []
nothing_left (Receiving expected) request waits = refl
nothing_left phase request waits = absurd (cc)

-- some are left to be sent if none is expected, no error occurred, and the client has not left and cannot ask
some_unsent : {A : Type 0} (phase : Phase) (request : Option (Request A)) → (is_asking phase ≡ true → left_in phase request ≢ []) → fault_in phase ≡ None
    → has_left_in phase ≡ false → is_ready phase ≡ false → takes_packets phase ≡ false → left_in phase request ≢ []
some_unsent (Asking writer) request some sound stays no_turn no_wait = some refl
some_unsent phase request some sound stays no_turn no_wait = absurd (cc)

-- a history to which nothing is added
nothing_more : (h : History) → record h { used = h.used ++ []; events = h.events ++ [] } ≡ h
nothing_more h =
    ap (λ (used : List ℕ). record h { used = used; events = h.events ++ [] }) (append-nil h.used)
    ∙ ap (λ (events : List EventValue). record h { events = events }) (append-nil h.events)

module _ {A : Type 0} where
  -- a call extends any history by what it adds
  pub goes_on : (t : Terms) (call : Call A) (h : History) (before : ℕ) (old : Client A) (after : ℕ) (new : Client A) → Makes call before old after new
      → Converses t h old → Converses t (after_call h call) new
  goes_on t (ask request) h before old after new made c = made.0.asks t h c
  goes_on t (ask_refused request handed_back fault) h before old after new made c =
      subst (λ (client : Client A). Converses t h client) (sym made.0.stays) c
  goes_on t leave h before old after new made c = made.0.leaves t h c
  goes_on t (pull sent) h before old after new made c = made.0.conveys t h c
  goes_on t (feed chunk answer) h before old after new made c = made.0.arrives t h c
  goes_on t (close fault) h before old after new made c =
      subst (λ (now : History). Converses t now new) (nothing_more h) (made.0.carries t h c)

  -- a call of `choose_format` leaves the history as it was, in the format chosen
  pub chosen_on : (t : Terms) (format : Format) (h : History) (old new : Client A) → ChoosesFormat old new → format_of new ≡ format → Converses t h old
      → Converses (in_format format t) h new
  chosen_on t format h old new chosen is c = subst (λ (f : Format). Converses (in_format f t) h new) is (chosen.carries t h c)

  all_go_on : (t : Terms) (calls : List (AnyCall A)) (h : History) (before : ℕ) (old : Client A) (after : ℕ) (new : Client A)
      → MakesAll MakesAny calls before old after new → Converses t h old
      → Converses (terms_after t calls) (history_after h (others_of calls)) new
  all_go_on t [] h before old after new (counter, same) c = subst (λ (client : Client A). Converses t h client) (sym same) c
  all_go_on t (choose format ∷ calls) h before old after new (next, between, (chosen, is, counter), more) c =
      all_go_on (in_format format t) calls h next between after new more (chosen_on t format h old between chosen is c)
  all_go_on t (other call ∷ calls) h before old after new (next, between, made, more) c =
      all_go_on t calls (after_call h call) next between after new more (goes_on t call h before old next between made c)

  -- the bytes that the call uses
  abbrev used_by : Call A → List ℕ
  used_by (feed chunk answer) = take answer.used chunk
  used_by call = []

  -- the history grows by these bytes
  adds_used : (call : Call A) (h : History) → length (after_call h call).used ≡ length h.used + length (used_by call)
  adds_used (feed chunk answer) h = length-append h.used (take answer.used chunk)
  adds_used call h = omega arith

  abbrev used_by_any : AnyCall A → List ℕ
  used_by_any (choose format) = []
  used_by_any (other call) = used_by call

  all_used : (calls : List (AnyCall A)) (h : History)
      → length (history_after h (others_of calls)).used ≡ length h.used + length (flat_map used_by_any calls)
  all_used [] h = omega arith
  all_used (choose format ∷ calls) h = all_used calls h
  all_used (other call ∷ calls) h =
      omega (arith, all_used calls (after_call h call), adds_used call h, length-append (used_by call) (flat_map used_by_any calls))

  abbrev feeds_by_any : AnyCall A → ℕ
  feeds_by_any (choose format) = 0
  feeds_by_any (other call) = feeds_by call

  all_feeds : (calls : List (AnyCall A)) → sum_by feeds_by_any calls ≡ feeds_in (others_of calls)
  all_feeds [] = refl
  all_feeds (choose format ∷ calls) = all_feeds calls
  all_feeds (other call ∷ calls) =
      omega (
        arith,
        all_feeds calls,
        sum_by-cons feeds_by_any (other call) calls,
        sum_by-cons feeds_by call (others_of calls),
      )

  abbrev credit : Client A → ℕ
  credit client = credit_of (reader_of client)

  -- each call is paid for
  each_paid : (call : Call A) (before : ℕ) (old : Client A) (after : ℕ) (new : Client A) → Makes call before old after new
      → ArePaid (length (used_by call)) (feeds_by call) before after (credit old) (credit new)
  each_paid (ask request) before old after new (asks, same) =
      record { rises = omega (arith, same); within = omega (arith, same, asks.credit) }
  each_paid (ask_refused request handed_back fault) before old after new (refuses, same) =
      record { rises = omega (arith, same); within = omega (arith, same, ap credit refuses.stays) }
  each_paid leave before old after new (leaves, same) =
      record { rises = omega (arith, same); within = omega (arith, same, leaves.credit) }
  each_paid (pull sent) before old after new (pulls, same) =
      record { rises = omega (arith, same); within = omega (arith, same, pulls.credit) }
  each_paid (feed chunk answer) before old after new (feeds, fits, pays) =
      record { rises = pays.rises; within = omega (arith, pays.within, length-take-le answer.used chunk fits) }
  each_paid (close fault) before old after new (closes, same) =
      record { rises = omega (arith, same); within = omega (arith, same, closes.credit) }

  any_paid : (call : AnyCall A) (before : ℕ) (old : Client A) (after : ℕ) (new : Client A) → MakesAny call before old after new
      → ArePaid (length (used_by_any call)) (feeds_by_any call) before after (credit old) (credit new)
  any_paid (choose format) before old after new (chosen, is, same) =
      record { rises = omega (arith, same); within = omega (arith, same, ap credit_of chosen.reader) }
  any_paid (other call) before old after new made = each_paid call before old after new made

  pub headline : (start : Terms) (calls : List (AnyCall A)) (before after : ℕ) (first last : Client A) → Converses start nothing_yet first
      → credit first ≡ 0 → MakesAll MakesAny calls before first after last
      → Headline (terms_after start calls) (history_after nothing_yet (others_of calls)) (feeds_in (others_of calls)) before after last
  headline start calls before after first last begun none made =
      let t = terms_after start calls in
      let h = history_after nothing_yet (others_of calls) in
      let c = all_go_on start calls nothing_yet before first after last made begun in
      let paid = all_paid MakesAny credit used_by_any feeds_by_any any_paid calls before first after last made in
      let events = has_events t h last c in
      let stored = stored_within last.request last.covered in
      let kept = kept_within last.request last.within in
      record {
        format = c.format_is;
        held = omega (arith, c.reads.fits, stored, kept);
        hold = c.reads.fits;
        stored = stored;
        kept = kept;
        rises = paid.rises;
        steps = omega (arith, paid.within, none, all_used calls nothing_yet, all_feeds calls);
        events = events;
        noted = has_noted t h last c;
        given = all_is_sent t h last c;
        pack = has_pack t h.asked h.used h.events events;
        whole = is_whole t h last c;
        turn = can_ask_announces last (can_ask last) refl t h c;
        expected = awaits_more t h last c;
        waits = λ waits. all_is_sent t h last c (nothing_left (phase_of last) last.request waits);
        has_unsent = λ sound stays no_turn no_wait. some_unsent (phase_of last) last.request last.has_unsent sound (sym c.left ∙ stays) no_turn no_wait;
        refused = λ fault is. first_fault t h last fault c is;
        unrefused = goes_well t h last c;
        one_refusal = λ fault other is first. one_shown t h.asked h.used fault other (first_fault t h last fault c is) first;
        one_by_name = λ fault other is first. one_by_name t h.asked h.used fault other (first_fault t h last fault c is) first;
      }
