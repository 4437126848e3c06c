-- Bytes of a response that were received, part by part: their events, their lines, and their bytes of the pack and the progress.
use Rattle.std.proofs.Common.{◌≡◌, ℕ, Bool, true, false, List, [], ◌++◌, Option, Some, sym, ap, ◌∙◌, subst, append_assoc, append-nil}
use Rattle.git_pkt.specs.Streams.{Flow, flow, WrittenAs}
use Rattle.git_pkt.specs.declared.fault.Fault.{Fault}
use Rattle.git_client.specs.Parts.{Terms}
use Rattle.git_client.specs.Events.{EventValue, pack_bytes, progress_bytes}
use Rattle.git_client.specs.Transcript.{transcript_from}
use Rattle.git_client.specs.Machine.Client.{History, Converses, ReceivesOn, can_ask, fault_of, left_to_send, phase_of, request_of, wants_input}
use Rattle.git_client.specs.Machine.RunSteps.{counts_with, CanCount, IsOneTurn, ReceivesBytes}
use Rattle.git_client.specs.declared.client.Client.{Client}
use Rattle.git_client.specs.declared.receiving.Counts.{Counts}
use Rattle.git_pkt.proofs.EngineLemmas.{written_nothing, written_then, written_whole}
use Rattle.git_client.proofs.Carries.{nothing_unsent}
use Rattle.git_client.proofs.Counting.{counts_stay, counts_then, can_count_then, progress_bytes-append}
use Rattle.git_client.proofs.OneTurn.{turn_then, turn_adds}
use Rattle.git_client.proofs.Packs.{pack_bytes-append}
use Rattle.git_client.proofs.Phases.{not_ready_where_expected, not_ready_where_failed, quiet_where_expected, quiet_where_failed}

-- the history with these bytes and events
abbrev After : {A : Type 0} → Terms → History → List ℕ → List EventValue → Client A → Type 0
After t h used events client = Converses t (record h { used = used; events = events }) client

module _ {A : Type 0} where
  -- ---- how a client goes on

  pub receives_none : (c : Client A) → ReceivesOn c [] [] c
  receives_none c t h stands =
      subst (λ (used : List ℕ). After t h used (h.events ++ []) c) (sym (append-nil h.used))
      (subst (λ (events : List EventValue). After t h h.used events c) (sym (append-nil h.events)) stands)

  pub receives_both : (a b c : Client A) (u v : List ℕ) (events later : List EventValue) → ReceivesOn a u events b → ReceivesOn b v later c
      → ReceivesOn a (u ++ v) (events ++ later) c
  receives_both a b c u v events later first second t h stands =
      subst (λ (used : List ℕ). After t h used (h.events ++ (events ++ later)) c) (append_assoc h.used u v)
      (subst (λ (all : List EventValue). After t h ((h.used ++ u) ++ v) all c) (append_assoc h.events events later)
      (second t (record h { used = h.used ++ u; events = h.events ++ events }) (first t h stands)))

  -- ---- what was received

  -- bytes without an event were received, and then the client cannot ask and has no packet to send
  received_quietly : {broken : Bool} {old new : Client A} {used : List ℕ} {out packs progress : Flow} (counts : Counts) → ReceivesOn old used [] new
      → can_ask new ≡ false → left_to_send new ≡ [] → WrittenAs false out [] → WrittenAs false packs [] → WrittenAs false progress []
      → ReceivesBytes broken old new counts counts used out packs progress
  received_quietly {broken = broken} {out = out} {packs = packs} {progress = progress} counts arrives quiet has_unsent announced sent reported = record {
    events = [];
    arrives = arrives;
    one_turn = quiet;
    has_unsent = has_unsent;
    counted = λ can. counts_stay counts;
    announced = λ can. written_whole broken out [] announced;
    sent = written_whole broken packs [] sent;
    reported = written_whole broken progress [] reported;
  }

  pub received_while_expected : {broken : Bool} {old new : Client A} {used : List ℕ} {out packs progress : Flow} (counts : Counts) → ReceivesOn old used [] new
      → wants_input new ≡ true → WrittenAs false out [] → WrittenAs false packs [] → WrittenAs false progress []
      → ReceivesBytes broken old new counts counts used out packs progress
  received_while_expected {new = new} counts arrives expected =
      received_quietly counts arrives (not_ready_where_expected (phase_of new) expected)
      (nothing_unsent (phase_of new) (request_of new) (quiet_where_expected (phase_of new) expected))

  pub received_to_fault : {broken : Bool} {old new : Client A} {used : List ℕ} {out packs progress : Flow} (counts : Counts) → ReceivesOn old used [] new
      → (fault : Fault) → fault_of new ≡ Some fault → WrittenAs false out [] → WrittenAs false packs [] → WrittenAs false progress []
      → ReceivesBytes broken old new counts counts used out packs progress
  received_to_fault {new = new} counts arrives fault failed =
      received_quietly counts arrives (not_ready_where_failed (phase_of new) fault failed)
      (nothing_unsent (phase_of new) (request_of new) (quiet_where_failed (phase_of new) fault failed))

  -- no byte was received
  pub nothing_received : (c : Client A) (counts : Counts) (announced sent reported : Option (List ℕ)) → wants_input c ≡ true
      → ReceivesBytes false c c counts counts [] (flow announced announced) (flow sent sent) (flow reported reported)
  nothing_received c counts announced sent reported expected =
      received_while_expected counts (receives_none c) expected (written_nothing announced) (written_nothing sent) (written_nothing reported)

  module _ {a b c : Client A} {k l m : Counts} {u v : List ℕ}
      {announced_before announced announced_after sent_before sent sent_after reported_before reported reported_after : Option (List ℕ)}
      (quiet : can_ask b ≡ false)
      (first : ReceivesBytes false a b k l u (flow announced_before announced) (flow sent_before sent) (flow reported_before reported)) where
    -- bytes were received, and then more
    pub received_then : {broken : Bool} → ReceivesBytes broken b c l m v (flow announced announced_after) (flow sent sent_after) (flow reported reported_after)
        → ReceivesBytes broken a c k m (u ++ v) (flow announced_before announced_after) (flow sent_before sent_after) (flow reported_before reported_after)
    received_then {broken = broken} second =
        let events = first.events in
        let later = second.events in
        let now = counts_with k events in
        let more_expected : IsOneTurn events false = subst (IsOneTurn events) quiet first.one_turn in
        record {
          events = events ++ later;
          arrives = receives_both a b c u v events later first.arrives second.arrives;
          one_turn = turn_then events later (can_ask c) more_expected second.one_turn;
          has_unsent = second.has_unsent;
          counted = λ can.
              let (first_can, second_can) = can_count_then k events later can in
              let same = first.counted first_can in
              second.counted (subst (λ (n : Counts). CanCount n later) (sym same) second_can)
              ∙ ap (λ (n : Counts). counts_with n later) same ∙ counts_then k events later;
          announced = λ can.
              let (first_can, second_can) = can_count_then k events later can in
              let same = first.counted first_can in
              let lines = transcript_from [] k.pack k.progress events in
              let more : WrittenAs broken (flow announced announced_after) (transcript_from [] now.pack now.progress later) =
              subst (λ (n : Counts). WrittenAs broken (flow announced announced_after) (transcript_from [] n.pack n.progress later)) same
              (second.announced (subst (λ (n : Counts). CanCount n later) (sym same) second_can)) in
              subst (WrittenAs broken (flow announced_before announced_after)) (sym (turn_adds false events more_expected [] k.pack k.progress later))
              (written_then broken announced_before announced announced_after lines (transcript_from [] now.pack now.progress later)
              (first.announced first_can) more);
          sent = subst (WrittenAs broken (flow sent_before sent_after)) (sym (pack_bytes-append events later))
              (written_then broken sent_before sent sent_after (pack_bytes events) (pack_bytes later) first.sent second.sent);
          reported = subst (WrittenAs broken (flow reported_before reported_after)) (sym (progress_bytes-append events later))
              (written_then broken reported_before reported reported_after (progress_bytes events) (progress_bytes later) first.reported second.reported);
        }

  -- the transcript, the pack and the progress were flushed, or one of the flushes failed
  pub received_flushed : {broken : Bool} {a b : Client A} {k l : Counts} {u : List ℕ}
      {announced_before announced announced_after sent_before sent sent_after reported_before reported reported_after : Option (List ℕ)}
      → ReceivesBytes false a b k l u (flow announced_before announced) (flow sent_before sent) (flow reported_before reported)
      → WrittenAs false (flow announced announced_after) [] → WrittenAs false (flow sent sent_after) [] → WrittenAs false (flow reported reported_after) []
      → ReceivesBytes broken a b k l u (flow announced_before announced_after) (flow sent_before sent_after) (flow reported_before reported_after)
  received_flushed {broken = broken} {k = k} {announced_before = announced_before} {announced = announced} {announced_after = announced_after}
      {sent_before = sent_before} {sent = sent}
      {sent_after = sent_after} {reported_before = reported_before} {reported = reported} {reported_after = reported_after} arrived flushed flushed_pack
      flushed_progress =
      let then_nothing : (before held after : Option (List ℕ)) (bytes : List ℕ) → WrittenAs false (flow before held) bytes
      → WrittenAs false (flow held after) [] → WrittenAs broken (flow before after) bytes = λ before held after bytes written kept.
      written_whole broken (flow before after) bytes
      (subst (WrittenAs false (flow before after)) (append-nil bytes) (written_then false before held after bytes [] written kept)) in
      record {
        events = arrived.events;
        arrives = arrived.arrives;
        one_turn = arrived.one_turn;
        has_unsent = arrived.has_unsent;
        counted = arrived.counted;
        announced = λ can. then_nothing announced_before announced announced_after (transcript_from [] k.pack k.progress arrived.events)
            (arrived.announced can) flushed;
        sent = then_nothing sent_before sent sent_after (pack_bytes arrived.events) arrived.sent flushed_pack;
        reported = then_nothing reported_before reported reported_after (progress_bytes arrived.events) arrived.reported flushed_progress;
      }
