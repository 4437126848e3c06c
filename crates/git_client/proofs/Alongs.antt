-- The steps of a run, one after another: how the history goes on.
use Rattle.std.proofs.Common.{arith, ◌≡◌, ℕ, ◌+◌, ◌≤◌, Bool, true, false, List, [], ◌∷◌, ◌++◌, length, drop, Some, None}
use Rattle.std.proofs.Common.{refl, sym, ap, ◌∙◌, subst, append_assoc, length-append}
use Rattle.git_pkt.specs.declared.fault.Fault.{Fault}
use Rattle.git_msg.specs.Asked.{Asked, command_asked}
use Rattle.git_msg.specs.Machine.HeldRequest.{asked_of}
use Rattle.git_msg.specs.declared.requests.Request.{Request}
use Rattle.git_client.specs.Events.{EventValue, pack_bytes, progress_bytes}
use Rattle.git_client.specs.Parts.{Terms}
use Rattle.git_pkt.specs.Streams.{Flow, IsTimely}
use Rattle.git_client.specs.Transcript.{asked_line, next_asked, transcript_from, transcript_of}
use Rattle.git_client.specs.Machine.Client.{History, Converses, ReceivesOn, can_ask, fault_of, nothing_yet, phase_of, wants_input}
use Rattle.git_client.specs.Machine.RunSteps.{no_counts, counts_with, CanCount, ReceivesBytes, AsksNext, FaultsInTime}
use Rattle.git_client.specs.Machine.Running.{IsAnnounced, Along}
use Rattle.git_client.specs.declared.client.Client.{Client}
use Rattle.git_client.specs.declared.receiving.Counts.{Counts}
use Rattle.git_client.proofs.Counting.{bytes_fit}
use Rattle.git_client.proofs.EventCounts.{few_events}
use Rattle.git_client.proofs.OneTurn.{Adds, turn_adds}
use Rattle.git_client.proofs.Packs.{pack_bytes-append}
use Rattle.git_client.proofs.Phases.{not_ready_where_expected}

-- ---- what a history fixes of the transcript

-- events add their lines to these
lines_announced : (asks : Bool) (h : History) (used : List ℕ) (events : List EventValue) (lines : List ℕ) (counts : Counts) → IsAnnounced false h lines counts
    → Adds asks events
    → IsAnnounced asks (record h { used = h.used ++ used; events = h.events ++ events })
    (lines ++ transcript_from [] counts.pack counts.progress events) (counts_with counts events)
lines_announced true h used events lines counts announced adds = λ later more.
    let now = transcript_from [] counts.pack counts.progress events in
    ap (transcript_of (h.asked ++ later)) (append_assoc h.events events more)
    ∙ announced later (events ++ more)
    ∙ ap (λ (l : List ℕ). lines ++ l) (adds later counts.pack counts.progress more)
    ∙ sym (append_assoc lines (now ++ next_asked later) (transcript_from (drop 1 later) 0 0 more))
    ∙ ap (λ (l : List ℕ). l ++ transcript_from (drop 1 later) 0 0 more) (sym (append_assoc lines now (next_asked later)))
lines_announced false h used events lines counts announced adds = λ later more.
    ap (transcript_of (h.asked ++ later)) (append_assoc h.events events more)
    ∙ announced later (events ++ more)
    ∙ ap (λ (l : List ℕ). lines ++ l) (adds later counts.pack counts.progress more)
    ∙ sym (append_assoc lines (transcript_from [] counts.pack counts.progress events)
    (transcript_from later (counts.pack + length (pack_bytes events)) (counts.progress + length (progress_bytes events)) more))

-- after a request its line comes next, and no byte of its response was received yet
announced_asked : (h : History) (question : Asked) (lines : List ℕ) (counts : Counts) → IsAnnounced true h lines counts
    → IsAnnounced false (record h { asked = h.asked ++ question ∷ [] }) (lines ++ asked_line (command_asked question)) no_counts
announced_asked h question lines counts announced later more =
    ap (λ (asked : List Asked). transcript_of asked (h.events ++ more)) (append_assoc h.asked (question ∷ []) later) ∙ announced (question ∷ later) more

module _ {A : Type 0} where
  -- counts that are at most the number of events so far do not overflow by what the client receives next
  pub can_count : (t : Terms) (h : History) (old new : Client A) (used : List ℕ) (events : List EventValue) (counts : Counts) → Converses t h old
      → ReceivesOn old used events new → counts.pack + counts.progress ≤ length h.events → CanCount counts events
  can_count t h old new used events counts stands arrives within =
      let few = few_events t (record h { used = h.used ++ used; events = h.events ++ events }) new (arrives t h stands) in
      let all = length-append h.events events in
      record {
        pack = omega (arith, few, all, within, bytes_fit events);
        progress = omega (arith, few, all, within, bytes_fit events);
      }

  -- before the first byte
  pub along_begun : (t : Terms) (client : Client A) → wants_input client ≡ true → Converses t nothing_yet client
      → Along t nothing_yet client [] [] no_counts
  along_begun t client expected stands = record {
    stands = stands;
    announced = subst (λ (ready : Bool). IsAnnounced ready nothing_yet [] no_counts) (sym (not_ready_where_expected (phase_of client) expected))
        (λ later more. refl);
    pack_is = refl;
    within = omega arith;
  }

  module _ {t : Terms} {h : History} {client : Client A} {lines packed : List ℕ} {counts : Counts} (along : Along t h client lines packed counts) where
    -- a client that can ask counts the next response from zero
    pub along_anew : can_ask client ≡ true → Along t h client lines packed no_counts
    along_anew ready = record {
      stands = along.stands;
      announced = subst (λ (now : Bool). IsAnnounced now h lines no_counts) (sym ready)
          (subst (λ (now : Bool). IsAnnounced now h lines counts) ready along.announced);
      pack_is = along.pack_is;
      within = omega arith;
    }

    -- a request was asked
    pub along_asked : {broken : Bool} {new : Client A} {request : Request A} {writer out : Flow} → can_ask client ≡ true
        → (step : AsksNext broken client new request writer out)
        → Along t (record h { asked = h.asked ++ asked_of request ∷ []; given = h.given ++ step.given }) new
        (lines ++ asked_line (command_asked (asked_of request))) packed no_counts
    along_asked {request = request} ready step = record {
      stands = step.goes t h along.stands;
      announced = subst (λ (can : Bool). IsAnnounced can (record h { asked = h.asked ++ asked_of request ∷ []; given = h.given ++ step.given })
          (lines ++ asked_line (command_asked (asked_of request))) no_counts) (sym step.not_ready)
          (announced_asked h (asked_of request) lines counts (subst (λ (can : Bool). IsAnnounced can h lines counts) ready along.announced));
      pack_is = along.pack_is;
      within = omega arith;
    }

    -- no count overflows by what the client receives
    pub counts_on : {new : Client A} {used : List ℕ} {events : List EventValue} → ReceivesOn client used events new → CanCount counts events
    counts_on {new = new} {used = used} {events = events} arrives = can_count t h client new used events counts along.stands arrives along.within

    -- bytes were received
    pub along_received : {broken : Bool} {new : Client A} {counts_after : Counts} {used : List ℕ} {out packs progress : Flow} → wants_input client ≡ true
        → (step : ReceivesBytes broken client new counts counts_after used out packs progress)
        → Along t (record h { used = h.used ++ used; events = h.events ++ step.events }) new
        (lines ++ transcript_from [] counts.pack counts.progress step.events) (packed ++ pack_bytes step.events) counts_after
    along_received {new = new} {used = used} waits step =
        let announced : IsAnnounced false h lines counts =
        subst (λ (asks : Bool). IsAnnounced asks h lines counts) (not_ready_where_expected (phase_of client) waits) along.announced in
        subst (λ (after : Counts). Along t (record h { used = h.used ++ used; events = h.events ++ step.events }) new
        (lines ++ transcript_from [] counts.pack counts.progress step.events) (packed ++ pack_bytes step.events) after)
        (sym (step.counted (counts_on step.arrives))) (record {
          stands = step.arrives t h along.stands;
          announced = lines_announced (can_ask new) h used step.events lines counts announced (turn_adds (can_ask new) step.events step.one_turn);
          pack_is = ap (λ (l : List ℕ). l ++ pack_bytes step.events) along.pack_is ∙ sym (pack_bytes-append h.events step.events);
          within = omega (arith, along.within, bytes_fit step.events, length-append h.events step.events);
        })

  -- ---- the client's error

  pub in_time_where_sound : (client : Client A) (ended : Bool) (unused : List ℕ) → fault_of client ≡ None → FaultsInTime client ended unused
  in_time_where_sound client ended unused sound fault failed = absurd (cc)

  pub in_time_where_announced : (client : Client A) (fault : Fault) (ended : Bool) (unused : List ℕ) → fault_of client ≡ Some fault
      → IsTimely fault.kind ended unused → FaultsInTime client ended unused
  in_time_where_announced client fault ended unused announced timely met failed =
      let same : fault ≡ met = cc in subst (λ (f : Fault). IsTimely f.kind ended unused) same timely
