use Rattle.std.proofs.Common.{rules, arith, ◌≡◌, inl, inr, ℕ, true, false, List, [], None, Some, refl, sym, ap, ◌∙◌, subst}
use Rattle.git_pkt.specs.Machine.PacketReader.{ShownByFeed}
use Rattle.git_pkt.specs.declared.fault.Fault.{Fault}
use Rattle.git_pkt.proofs.EngineLemmas.{written_nothing}
use Rattle.git_client.specs.Machine.Client.{fault_of, wants_input}
use Rattle.git_client.specs.declared.events.ReceivedGot.TheVariants.{Event as EventGot, Failed}
use Rattle.git_client.proofs.Phases.{not_expected_where_failed, sound_where_expected}
use Rattle.git_client.proofs.ReceivedBytes.{nothing_received}
use Rattle.git_client.proofs.ReceiverCalls.{event_count, event_packs, event_reports, quiet_event, received_plain}
use Rattle.git_client.proofs.ReceivingSteps.{announces_by, received_all, received_event, received_failed_then, received_some, received_sound}
use Rattle.git_client.proofs.ReceivingSteps.{received_to_question, shown_where_failed, used_within}
use Rattle.git_client.proofs.receiver.gather.Goals as goal

pub loop-used-init : goal.loop-used-init
loop-used-init g c = record {
  within = search rules;
  sound = sound_where_expected _ c.requires.expected;
  stands = λ none. let waits = c.requires.expected in absurd (cc);
  begun = λ e. (refl, c.requires.expected);
  received = nothing_received _ _ _ _ _ c.requires.expected;
}

-- ---- the whole chunk was used

pub returns-in-More-clause-some : goal.returns-in-More-clause-some
returns-in-More-clause-some g c = λ some space. inl (omega (arith, some, c.without_bytes.ensures.used))

pub returns-in-More-clause-received : goal.returns-in-More-clause-received
returns-in-More-clause-received g c =
    let waits : wants_input c.loop-used.client ≡ true = sym c.wants_input.ensures.value ∙ c.if-wants_input.true in
    let so_far = c.loop-used.invariant in
    received_plain c.args.chunk.now _ _ _ _ _ _ c.without_bytes.ensures.used c.without_bytes.ensures.passing
    (received_all c.args.chunk.now c.loop-used.used waits so_far.within so_far.received c.feed-received.follows.holds-at-none.0 c.in-More.is).arrives

pub returns-in-More-clause-whole : goal.returns-in-More-clause-whole
returns-in-More-clause-whole g c = λ over none.
    let waits : wants_input c.loop-used.client ≡ true = sym c.wants_input.ensures.value ∙ c.if-wants_input.true in
    let so_far = c.loop-used.invariant in
    (received_all c.args.chunk.now c.loop-used.used waits so_far.within so_far.received c.feed-received.follows.holds-at-none.0 c.in-More.is).whole over

pub returns-in-More-clause-shown : goal.returns-in-More-clause-shown
returns-in-More-clause-shown g c = λ fault failed.
    let waits : wants_input c.loop-used.client ≡ true = sym c.wants_input.ensures.value ∙ c.if-wants_input.true in
    let so_far = c.loop-used.invariant in
    let sound =
    (received_all c.args.chunk.now c.loop-used.used waits so_far.within so_far.received c.feed-received.follows.holds-at-none.0 c.in-More.is).sound in
    absurd (cc)

-- ---- an error

pub returns-in-Failed-clause-some : goal.returns-in-Failed-clause-some
returns-in-Failed-clause-some g c = λ some space.
    let waits : wants_input c.loop-used.client ≡ true = sym c.wants_input.ensures.value ∙ c.if-wants_input.true in
    let so_far = c.loop-used.invariant in
    let feeds = c.feed-received.follows.holds-at-none.0 in
    let announced = announces_by c.args.chunk.now c.loop-used.used waits so_far.within so_far.received feeds (Failed c.in-Failed.field-0) c.in-Failed.is in
    inr (not_expected_where_failed _ _ announced)

pub returns-in-Failed-clause-received : goal.returns-in-Failed-clause-received
returns-in-Failed-clause-received g c =
    let waits : wants_input c.loop-used.client ≡ true = sym c.wants_input.ensures.value ∙ c.if-wants_input.true in
    let so_far = c.loop-used.invariant in
    let feeds = c.feed-received.follows.holds-at-none.0 in
    let announced = announces_by c.args.chunk.now c.loop-used.used waits so_far.within so_far.received feeds (Failed c.in-Failed.field-0) c.in-Failed.is in
    received_plain c.args.chunk.now _ _ _ _ _ _ c.without_bytes-in-Failed.ensures.used c.without_bytes-in-Failed.ensures.passing
    (received_failed_then c.args.chunk.now c.loop-used.used waits so_far.within so_far.received feeds false c.in-Failed.field-0
    (Some c.loop-used.lines) (Some []) (Some []) c.in-Failed.is (written_nothing (Some c.loop-used.lines)) (written_nothing (Some []))
    (written_nothing (Some [])))

pub returns-in-Failed-clause-whole : goal.returns-in-Failed-clause-whole
returns-in-Failed-clause-whole g c = λ over none.
    let waits : wants_input c.loop-used.client ≡ true = sym c.wants_input.ensures.value ∙ c.if-wants_input.true in
    let so_far = c.loop-used.invariant in
    let feeds = c.feed-received.follows.holds-at-none.0 in
    let announced = announces_by c.args.chunk.now c.loop-used.used waits so_far.within so_far.received feeds (Failed c.in-Failed.field-0) c.in-Failed.is in
    absurd (cc)

pub returns-in-Failed-clause-shown : goal.returns-in-Failed-clause-shown
returns-in-Failed-clause-shown g c = λ fault met.
    let waits : wants_input c.loop-used.client ≡ true = sym c.wants_input.ensures.value ∙ c.if-wants_input.true in
    let so_far = c.loop-used.invariant in
    let feeds = c.feed-received.follows.holds-at-none.0 in
    let announced = announces_by c.args.chunk.now c.loop-used.used waits so_far.within so_far.received feeds (Failed c.in-Failed.field-0) c.in-Failed.is in
    let same : c.in-Failed.field-0 ≡ fault = cc in
    subst (λ (f : Fault). ShownByFeed f c.without_bytes-in-Failed.result.used c.args.chunk.now) same
    (subst (λ (n : ℕ). ShownByFeed c.in-Failed.field-0 n c.args.chunk.now) (sym c.without_bytes-in-Failed.ensures.used)
    (shown_where_failed c.args.chunk.now c.loop-used.used waits so_far.within so_far.received feeds c.in-Failed.field-0 c.in-Failed.is))

-- ---- an event

pub loop-used-preserved : goal.loop-used-preserved
loop-used-preserved g c =
    let waits : wants_input c.loop-used.client ≡ true = sym c.wants_input.ensures.value ∙ c.if-wants_input.true in
    let so_far = c.loop-used.invariant in
    let feeds = c.feed-received.follows.holds-at-none.0 in
    let quiet = quiet_event c.in-Event.event _ _ c.of-passes.ensures c.in-Nothing.is in
    record {
      within = used_within c.args.chunk.now c.loop-used.used waits so_far.within so_far.received feeds c.feed-received.ensures.used;
      sound = received_sound c.args.chunk.now c.loop-used.used waits so_far.within so_far.received feeds _ c.in-Event.is;
      stands = received_to_question c.args.chunk.now c.loop-used.used waits so_far.within so_far.received feeds _ c.in-Event.is;
      begun = λ none.
          let some = received_some c.args.chunk.now c.loop-used.used waits so_far.within so_far.received feeds _ c.in-Event.is in
          absurd (omega (arith, some, none));
      received = received_event c.args.chunk.now c.loop-used.used waits so_far.within so_far.received feeds _ c.in-Event.is false _ _ (Some []) (Some [])
          c.gather_event.ensures.counts c.gather_event.ensures.lines (sym quiet.0) (sym quiet.1);
    }

pub returns-in_default-clause-some : goal.returns-in_default-clause-some
returns-in_default-clause-some g c = λ some space.
    let waits : wants_input c.loop-used.client ≡ true = sym c.wants_input.ensures.value ∙ c.if-wants_input.true in
    let so_far = c.loop-used.invariant in
    inl (received_some c.args.chunk.now c.loop-used.used waits so_far.within so_far.received c.feed-received.follows.holds-at-none.0 _ c.in-Event.is)

pub returns-in_default-clause-count : goal.returns-in_default-clause-count
returns-in_default-clause-count g c =
    let waits : wants_input c.loop-used.client ≡ true = sym c.wants_input.ensures.value ∙ c.if-wants_input.true in
    let so_far = c.loop-used.invariant in
    let feeds = c.feed-received.follows.holds-at-none.0 in
    let fits = used_within c.args.chunk.now c.loop-used.used waits so_far.within so_far.received feeds c.feed-received.ensures.used in
    let ends =
    (announces_by c.args.chunk.now c.loop-used.used waits so_far.within so_far.received feeds (EventGot c.in-Event.event) c.in-Event.is).1 in
    event_count _ c.args.chunk.now c.loop-used.used c.feed-received.result.used so_far.within fits c.in-Event.event _ _
    c.of-passes.ensures ends c.in_default.not-Nothing

pub returns-in_default-clause-received : goal.returns-in_default-clause-received
returns-in_default-clause-received g c =
    let waits : wants_input c.loop-used.client ≡ true = sym c.wants_input.ensures.value ∙ c.if-wants_input.true in
    let so_far = c.loop-used.invariant in
    let feeds = c.feed-received.follows.holds-at-none.0 in
    let fits = used_within c.args.chunk.now c.loop-used.used waits so_far.within so_far.received feeds c.feed-received.ensures.used in
    let ends =
    (announces_by c.args.chunk.now c.loop-used.used waits so_far.within so_far.received feeds (EventGot c.in-Event.event) c.in-Event.is).1 in
    let passes = c.of-passes.ensures in
    received_event c.args.chunk.now c.loop-used.used waits so_far.within so_far.received feeds _ c.in-Event.is false _ _ _ _
    c.gather_event.ensures.counts c.gather_event.ensures.lines
    (event_packs _ c.args.chunk.now c.loop-used.used c.feed-received.result.used so_far.within fits c.in-Event.event _ _ passes ends)
    (event_reports _ c.args.chunk.now c.loop-used.used c.feed-received.result.used so_far.within fits c.in-Event.event _ _ passes ends)

pub returns-in_default-clause-whole : goal.returns-in_default-clause-whole
returns-in_default-clause-whole g c = λ over none.
    let waits : wants_input c.loop-used.client ≡ true = sym c.wants_input.ensures.value ∙ c.if-wants_input.true in
    let so_far = c.loop-used.invariant in
    received_to_question c.args.chunk.now c.loop-used.used waits so_far.within so_far.received c.feed-received.follows.holds-at-none.0 _ c.in-Event.is over

pub returns-in_default-clause-shown : goal.returns-in_default-clause-shown
returns-in_default-clause-shown g c = λ fault failed.
    let waits : wants_input c.loop-used.client ≡ true = sym c.wants_input.ensures.value ∙ c.if-wants_input.true in
    let so_far = c.loop-used.invariant in
    let sound =
    received_sound c.args.chunk.now c.loop-used.used waits so_far.within so_far.received c.feed-received.follows.holds-at-none.0 _ c.in-Event.is in
    absurd (cc)

-- ---- the lines are full, or the message is whole

pub returns-clause-received : goal.returns-clause-received
returns-clause-received g c =
    received_plain c.args.chunk.now _ _ _ _ _ _ c.without_bytes-2.ensures.used c.without_bytes-2.ensures.passing c.loop-used.invariant.received

pub returns-clause-whole : goal.returns-clause-whole
returns-clause-whole g c = λ over none. c.loop-used.invariant.stands over

pub returns-clause-shown : goal.returns-clause-shown
returns-clause-shown g c = λ fault failed. let sound = c.loop-used.invariant.sound in absurd (cc)
