-- What calls of `feed` over a chunk result in, when all that they return is written.
use Rattle.std.proofs.Common.{arith, ◌≡◌, ℕ, ◌+◌, ◌-◌, ◌≤◌, ◌<◌, Bool, true, false, List, [], ◌∷◌, length, map, take, drop}
use Rattle.std.proofs.Common.{Option, Some, None, Result, Err, refl, sym, ap, ◌∙◌, subst, length-drop}
use Rattle.git_pkt.specs.Machine.PacketReader.{ShownByFeed}
use Rattle.git_pkt.specs.declared.fault.Fault.{Fault}
use Rattle.git_pkt.specs.declared.fault.RunFault.{RunFault}
use Rattle.git_pkt.specs.declared.fault.RunFault.TheVariants.{WriteFault}
use Rattle.git_pkt.proofs.Chunks.{take_joined, left_of}
use Rattle.git_client.specs.Events.{EventValue, pack, progress, pack_bytes, progress_bytes, turns_of}
use Rattle.git_client.specs.Transcript.{lines_of}
use Rattle.git_client.specs.Machine.Turns.{values_of}
use Rattle.git_pkt.specs.Streams.{flow, is_broken, WrittenAs}
use Rattle.git_client.specs.Machine.RunSteps.{counts_with, CanCount, IsOneTurn}
use Rattle.git_client.specs.Machine.RunSteps.{ReceivesBytes, ReceivesInChunk, ReceivesToFault, ReceivesChunkBroken}
use Rattle.git_client.specs.Machine.Client.{ReceivesOn, Feeds, Announces, LeavesAfter, fault_of, can_ask, left_to_send, request_of, wants_input}
use Rattle.git_client.specs.Machine.Client.{phase_of, events_of}
use Rattle.git_client.specs.declared.client.Client.{Client}
use Rattle.git_client.specs.declared.events.Event.{Event}
use Rattle.git_client.specs.declared.events.Event.TheVariants.{Offered, Pack, Progress, Ended}
use Rattle.git_client.specs.declared.events.Received.{Received}
use Rattle.git_client.specs.declared.events.ReceivedGot.{ReceivedGot}
use Rattle.git_client.specs.declared.events.ReceivedGot.TheVariants.{More, Event as EventGot, Failed}
use Rattle.git_client.specs.declared.receiving.Counts.{Counts}
use Rattle.git_client.proofs.Carries.{nothing_unsent}
use Rattle.git_client.proofs.PlaceLines.{band_is}
use Rattle.git_client.proofs.Phases.{not_ready_where_expected, quiet_where_expected, quiet_where_ready, sound_where_expected, sound_where_ready}
use Rattle.git_pkt.proofs.EngineLemmas.{written_nothing}
use Rattle.git_client.proofs.OneTurn.{quiet_turn, event_lines}
use Rattle.git_client.proofs.ReceivedBytes.{received_then, received_to_fault, received_while_expected}

module _ {A : Type 0} where
  -- ---- what the client can do after each event

  turns_quietly : (events : List EventValue) (c : Client A) → turns_of events ≡ 0 → wants_input c ≡ true → IsOneTurn events (can_ask c)
  turns_quietly events c none waits = subst (IsOneTurn events) (sym (not_ready_where_expected (phase_of c) waits)) (quiet_turn events none)

  event_turn : (e : Event) (c : Client A) → LeavesAfter e c → IsOneTurn (values_of e) (can_ask c)
  event_turn Offered c leaves = (refl, leaves)
  event_turn Ended c leaves = (refl, leaves)
  event_turn (Pack bytes) c leaves = turns_quietly (map pack bytes.now) c (band_is (1 ∷ bytes.now) (map pack bytes.now) refl).0 leaves
  event_turn (Progress bytes) c leaves = turns_quietly (map progress bytes.now) c (band_is (2 ∷ bytes.now) (map progress bytes.now) refl).0 leaves
  event_turn event c leaves = turns_quietly (values_of event) c refl leaves

  sound_after : (e : Event) (c : Client A) → LeavesAfter e c → fault_of c ≡ None
  sound_after Offered c leaves = sound_where_ready (phase_of c) leaves
  sound_after Ended c leaves = sound_where_ready (phase_of c) leaves
  sound_after event c leaves = sound_where_expected (phase_of c) leaves

  -- after an event a client has no packet to send
  has_unsent_after : (e : Event) (c : Client A) → LeavesAfter e c → left_to_send c ≡ []
  has_unsent_after Offered c leaves = nothing_unsent (phase_of c) (request_of c) (quiet_where_ready (phase_of c) leaves)
  has_unsent_after Ended c leaves = nothing_unsent (phase_of c) (request_of c) (quiet_where_ready (phase_of c) leaves)
  has_unsent_after event c leaves = nothing_unsent (phase_of c) (request_of c) (quiet_where_expected (phase_of c) leaves)

  -- after an event a client that needs no input can ask
  asks_after : (e : Event) (c : Client A) → LeavesAfter e c → wants_input c ≡ false → can_ask c ≡ true
  asks_after Offered c leaves none = leaves
  asks_after Ended c leaves none = leaves
  asks_after event c leaves none = absurd (cc)

-- ---- one call of `feed` over the rest of a chunk

-- the rest of a chunk after `done` bytes, as a slice shows it
abbrev pub left : List ℕ → ℕ → List ℕ
left chunk done = take (length chunk - done) (drop done chunk)

module _ {A : Type 0} where
  module _ {old b c : Client A} {counts now : Counts} (chunk : List ℕ) (done : ℕ) {arrived : Received}
      {announced_before announced sent_before sent reported_before reported : Option (List ℕ)}
      (waits : wants_input b ≡ true) (within : done ≤ length chunk)
      (so_far : ReceivesBytes false old b counts now (take done chunk) (flow announced_before announced) (flow sent_before sent)
      (flow reported_before reported))
      (feeds : Feeds b (left chunk done) arrived c) where
    receives_by : (got : ReceivedGot) → arrived.got ≡ got → ReceivesOn b (take arrived.used (left chunk done)) (events_of got) c
    receives_by got is = subst (λ (x : ReceivedGot). ReceivesOn b (take arrived.used (left chunk done)) (events_of x) c) is feeds.arrives

    pub announces_by : (got : ReceivedGot) → arrived.got ≡ got → Announces got arrived.used (left chunk done) b c
    announces_by got is = subst (λ (x : ReceivedGot). Announces x arrived.used (left chunk done) b c) is feeds.announces

    rest_length : length (left chunk done) ≡ length chunk - done
    rest_length = ap length (left_of chunk done within) ∙ length-drop done chunk

    receives_then : (broken : Bool) (after : Counts) (announced_after sent_after reported_after : Option (List ℕ))
        → ReceivesBytes broken b c now after (take arrived.used (left chunk done)) (flow announced announced_after) (flow sent sent_after)
        (flow reported reported_after)
        → ReceivesBytes broken old c counts after (take (done + arrived.used) chunk) (flow announced_before announced_after) (flow sent_before sent_after)
        (flow reported_before reported_after)
    receives_then broken after announced_after sent_after reported_after arrives =
        subst (λ (used : List ℕ). ReceivesBytes broken old c counts after used (flow announced_before announced_after) (flow sent_before sent_after)
        (flow reported_before reported_after))
        (take_joined chunk done arrived.used within) (received_then (not_ready_where_expected (phase_of b) waits) so_far arrives)

    -- the whole chunk was used, and more is expected
    pub received_all : arrived.got ≡ More
        → ReceivesInChunk old c counts now chunk (length chunk) (flow announced_before announced) (flow sent_before sent) (flow reported_before reported)
    received_all is =
        let (used, expected) = announces_by More is waits in
        let all : done + arrived.used ≡ length chunk = omega (arith, used, rest_length, within) in
        record {
          arrives = subst (λ (n : ℕ). ReceivesBytes false old c counts now (take n chunk) (flow announced_before announced) (flow sent_before sent)
              (flow reported_before reported)) all
              (receives_then false now announced sent reported (received_while_expected now (receives_by More is) expected (written_nothing announced)
              (written_nothing sent) (written_nothing reported)));
          within = omega arith;
          all = λ e. refl;
          sound = sound_where_expected (phase_of c) expected;
          whole = λ none. absurd (cc);
          moves = λ some. some;
        }

    -- an error occurred, which the chunk shows
    pub shown_where_failed : (fault : Fault) → arrived.got ≡ Failed fault → ShownByFeed fault (done + arrived.used) chunk
    shown_where_failed fault is =
        let shown = feeds.news fault (sound_where_expected (phase_of b) waits) is in
        record { not_the_end = shown.not_the_end; one_more = λ e. omega (arith, shown.one_more e, rest_length) }

    -- and the streams were flushed, or one of the flushes failed
    pub received_failed_then : (broken : Bool) (fault : Fault) (announced_after sent_after reported_after : Option (List ℕ)) → arrived.got ≡ Failed fault
        → WrittenAs false (flow announced announced_after) [] → WrittenAs false (flow sent sent_after) [] → WrittenAs false (flow reported reported_after) []
        → ReceivesBytes broken old c counts now (take (done + arrived.used) chunk) (flow announced_before announced_after) (flow sent_before sent_after)
        (flow reported_before reported_after)
    received_failed_then broken fault announced_after sent_after reported_after is line bytes report =
        receives_then broken now announced_after sent_after reported_after
        (received_to_fault now (receives_by (Failed fault) is) fault (announces_by (Failed fault) is) line bytes report)

    pub received_failed : (fault : Fault) (announced_after sent_after reported_after : Option (List ℕ)) → arrived.got ≡ Failed fault
        → WrittenAs false (flow announced announced_after) [] → WrittenAs false (flow sent sent_after) [] → WrittenAs false (flow reported reported_after) []
        → ReceivesToFault fault old c counts now chunk (flow announced_before announced_after) (flow sent_before sent_after)
        (flow reported_before reported_after)
    received_failed fault announced_after sent_after reported_after is line bytes report = record {
      used = done + arrived.used;
      arrives = received_failed_then false fault announced_after sent_after reported_after is line bytes report;
      announced = announces_by (Failed fault) is;
      shown = shown_where_failed fault is;
    }

    pub received_failed_unflushed : (fault : Fault) (announced_after sent_after reported_after : Option (List ℕ)) → arrived.got ≡ Failed fault
        → WrittenAs false (flow announced announced_after) [] → WrittenAs false (flow sent sent_after) [] → WrittenAs false (flow reported reported_after) []
        → ReceivesChunkBroken old c counts now chunk (flow announced_before announced_after) (flow sent_before sent_after) (flow reported_before reported_after)
    received_failed_unflushed fault announced_after sent_after reported_after is line bytes report = record {
      used = done + arrived.used;
      arrives = received_failed_then true fault announced_after sent_after reported_after is line bytes report;
      shown = λ met failed.
          let announced : fault_of c ≡ Some fault = announces_by (Failed fault) is in
          let same : fault ≡ met = cc in
          subst (λ (f : Fault). ShownByFeed f (done + arrived.used) chunk) same (shown_where_failed fault is);
    }

    -- an event occurred, and all or a prefix of its contents was written
    module _ (e : Event) (is : arrived.got ≡ EventGot e) where
      pub received_event : (broken : Bool) (after : Counts) (announced_after sent_after reported_after : Option (List ℕ))
          → (CanCount now (values_of e) → after ≡ counts_with now (values_of e))
          → WrittenAs broken (flow announced announced_after) (lines_of (values_of e) now.pack now.progress)
          → WrittenAs broken (flow sent sent_after) (pack_bytes (values_of e))
          → WrittenAs broken (flow reported reported_after) (progress_bytes (values_of e))
          → ReceivesBytes broken old c counts after (take (done + arrived.used) chunk) (flow announced_before announced_after) (flow sent_before sent_after)
          (flow reported_before reported_after)
      received_event broken after announced_after sent_after reported_after count line bytes report =
          receives_then broken after announced_after sent_after reported_after (record {
            events = values_of e;
            arrives = receives_by (EventGot e) is;
            one_turn = event_turn e c (announces_by (EventGot e) is).3;
            has_unsent = has_unsent_after e c (announces_by (EventGot e) is).3;
            counted = count;
            announced = λ can. subst (WrittenAs broken (flow announced announced_after)) (event_lines e now.pack now.progress) line;
            sent = bytes;
            reported = report;
          })

      pub received_sound : fault_of c ≡ None
      received_sound = sound_after e c (announces_by (EventGot e) is).3

      pub received_event_front : (result : Result (Unit {0}) RunFault) (fault : RunFault) (after : Counts)
          (announced_after sent_after reported_after : Option (List ℕ)) → result ≡ Err fault → fault ≡ WriteFault
          → (CanCount now (values_of e) → after ≡ counts_with now (values_of e))
          → WrittenAs (is_broken result) (flow announced announced_after) (lines_of (values_of e) now.pack now.progress)
          → WrittenAs (is_broken result) (flow sent sent_after) (pack_bytes (values_of e))
          → WrittenAs (is_broken result) (flow reported reported_after) (progress_bytes (values_of e))
          → ReceivesChunkBroken old c counts after chunk (flow announced_before announced_after) (flow sent_before sent_after)
          (flow reported_before reported_after)
      received_event_front result fault after announced_after sent_after reported_after failed named count line bytes report = record {
        used = done + arrived.used;
        arrives = subst (λ (broken : Bool). ReceivesBytes broken old c counts after (take (done + arrived.used) chunk) (flow announced_before announced_after)
            (flow sent_before sent_after) (flow reported_before reported_after)) (ap is_broken (failed ∙ ap Err named))
            (received_event (is_broken result) after announced_after sent_after reported_after count line bytes report);
        shown = λ met announced. let sound : fault_of c ≡ None = received_sound in absurd (cc);
      }

      pub received_some : 0 < done + arrived.used
      received_some = omega (arith, (announces_by (EventGot e) is).0)

      pub received_to_question : wants_input c ≡ false → can_ask c ≡ true
      received_to_question = asks_after e c (announces_by (EventGot e) is).3

    pub used_within : arrived.used ≤ length (left chunk done) → done + arrived.used ≤ length chunk
    used_within few = omega (arith, few, rest_length, within)
