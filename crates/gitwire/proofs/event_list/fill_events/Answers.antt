use Rattle.std.proofs.Common.{arith, ◌≡◌, ◌∙◌, ◌<◌, ◌+◌, ◌⊎◌, inl, inr, ap, length, refl, sym}
use Rattle.git_pkt.specs.Packets.{longest_payload}
use Rattle.gitwire.specs.declared.answer.GitwireAnswer.{GitwireAnswer}
use Rattle.gitwire.specs.declared.event_list.Extent.{Extent}
use Rattle.gitwire.proofs.ListedEvents.{end_within, listed_more, listed_still, nothing_listed, paused_full, paused_turn, some_listed, stopped, stopped_none}
use Rattle.gitwire.proofs.event_list.fill_events.Goals as goal
use Rattle.gitwire.proofs.event_list.fill_events.Goals.{then-loop-so_far-test+else-buffer-so_far-ge-LONGEST_PARTS, else-loop-so_far-test}

pub loop-so_far-init : goal.loop-so_far-init
loop-so_far-init c = record {
  within = omega arith;
  same_places = refl;
  same_buffer = refl;
  count_fits = omega arith;
  texts_fit = omega arith;
  so_far = nothing_listed c.args.client.now c.args.chunk.now c.args.events.now c.args.buffer.now;
  begins = λ _. refl;
  turn = λ some. absurd (omega (arith, some));
}

pub next-requires-clause-place : goal.next-requires-clause-place
next-requires-clause-place c = omega (arith, c.loop-so_far.invariant.same_places, c.loop-so_far-test.true)

pub returns-then-can_ask : goal.returns-then-can_ask
returns-then-can_ask c =
    let before = c.loop-so_far.invariant in
    let still = c.in_default.ensures in
    let place : c.loop-so_far.so_far.count < length c.args.events.now = omega (arith, before.same_places, c.loop-so_far-test.true) in
    let gives = c.in-Ok.ensures in
    let further = c.in-Ok.further in
    let counts = ap (λ (e : Extent). e.count) gives.further_is in
    let listed = listed_still c.args.client.now _ c.pass_next.new.client _ _ _ _ _ _ _ _ _ _ before.so_far still.0 still.1 still.2 in
    let more =
    listed_more c.args.client.now c.pass_next.new.client c.next.new.client c.args.chunk.now c.args.events.now c.args.buffer.now c.loop-so_far.so_far.used
    c.loop-so_far.so_far.count c.loop-so_far.so_far.texts c.pass_next.new.events c.next.new.events c.pass_next.new.buffer c.next.new.buffer further
    listed place gives in
    stopped c.args.client.now c.next.new.client c.args.chunk.now c.args.events.now c.args.buffer.now further.used
    further.count further.texts c.answer.result c.next.new.events c.next.new.buffer more
    (end_within _ _ _ _ _ _ _ _ _ _ _ gives)
    (omega (arith, place, counts))
    (omega (arith, gives.texts_fit, c.pass_next.auto.buffer, before.same_buffer))
    (ap (λ (a : GitwireAnswer). a.used) c.answer.ensures)
    (paused_turn _ _ _ _ _ _ _ (omega (arith, counts)) (sym c.can_ask.ensures.value ∙ c.if-can_ask.true) c.answer.ensures)

pub loop-so_far-preserved : goal.loop-so_far-preserved
loop-so_far-preserved c =
    let before = c.loop-so_far.invariant in
    let still = c.in_default.ensures in
    let place : c.loop-so_far.so_far.count < length c.args.events.now = omega (arith, before.same_places, c.loop-so_far-test.true) in
    let gives = c.in-Ok.ensures in
    let counts = ap (λ (e : Extent). e.count) gives.further_is in
    let listed = listed_still c.args.client.now _ c.pass_next.new.client _ _ _ _ _ _ _ _ _ _ before.so_far still.0 still.1 still.2 in
    record {
      within = end_within _ _ _ _ _ _ _ _ _ _ _ gives;
      same_places = omega (arith, c.next.auto.events, c.pass_next.auto.events, before.same_places);
      same_buffer = omega (arith, c.next.auto.buffer, c.pass_next.auto.buffer, before.same_buffer);
      count_fits = omega (arith, place, counts);
      texts_fit = omega (arith, gives.texts_fit, c.pass_next.auto.buffer, before.same_buffer);
      so_far =
          listed_more c.args.client.now c.pass_next.new.client c.next.new.client c.args.chunk.now c.args.events.now c.args.buffer.now
          c.loop-so_far.so_far.used c.loop-so_far.so_far.count c.loop-so_far.so_far.texts c.pass_next.new.events c.next.new.events
          c.pass_next.new.buffer c.next.new.buffer c.in-Ok.further listed place gives;
      begins = λ none. absurd (omega (arith, none, counts));
      turn = λ _. sym c.can_ask.ensures.value ∙ c.if-can_ask.false;
    }

pub loop-so_far-preserved-in-Some : goal.loop-so_far-preserved-in-Some
loop-so_far-preserved-in-Some c =
    let before = c.loop-so_far.invariant in
    let place : c.loop-so_far.so_far.count < length c.args.events.now = omega (arith, before.same_places, c.loop-so_far-test.true) in
    let (gives, waits) = c.in-Some.ensures in
    let counts = ap (λ (e : Extent). e.count) gives.further_is in
    record {
      within = end_within _ _ _ _ _ _ _ _ _ _ _ gives;
      same_places = omega (arith, c.pass_next.auto.events, before.same_places);
      same_buffer = omega (arith, c.pass_next.auto.buffer, before.same_buffer);
      count_fits = omega (arith, place, counts);
      texts_fit = omega (arith, gives.texts_fit, before.same_buffer);
      so_far =
          listed_more c.args.client.now c.loop-so_far.client c.pass_next.new.client c.args.chunk.now c.args.events.now c.args.buffer.now
          c.loop-so_far.so_far.used c.loop-so_far.so_far.count c.loop-so_far.so_far.texts c.loop-so_far.events c.pass_next.new.events
          c.loop-so_far.buffer c.pass_next.new.buffer c.in-Some.end before.so_far place gives;
      begins = λ none. absurd (omega (arith, none, counts));
      turn = λ _. waits;
    }

pub returns-in-Err : goal.returns-in-Err
returns-in-Err c =
    let before = c.loop-so_far.invariant in
    let still = c.in_default.ensures in
    let listed = listed_still c.args.client.now _ c.pass_next.new.client _ _ _ _ _ _ _ _ _ _ before.so_far still.0 still.1 still.2 in
    stopped_none c.args.client.now c.pass_next.new.client c.next.new.client c.args.chunk.now c.args.events.now c.args.buffer.now c.loop-so_far.so_far.used
    c.loop-so_far.so_far.count c.loop-so_far.so_far.texts c.in-Err.answer c.pass_next.new.events c.next.new.events c.pass_next.new.buffer
    c.next.new.buffer listed before.count_fits before.texts_fit c.in-Err.ensures

pub returns : goal.returns
returns c =
    let before = c.loop-so_far.invariant in
    let some : 0 < c.loop-so_far.so_far.count = elim c.loop-so_far-test.branch [
      | then-loop-so_far-test+else-buffer-so_far-ge-LONGEST_PARTS w ↦
          some_listed c.loop-so_far.so_far.count c.loop-so_far.so_far.texts before.begins
          (λ none. omega (arith, none, w.if-buffer-so_far-ge-LONGEST_PARTS.false, before.same_buffer, c.requires.suffices))
      | else-loop-so_far-test w ↦ omega (arith, w.loop-so_far-test.false, before.same_places, c.requires.place)
    ] in
    let count = c.loop-so_far.so_far.count in
    let texts = c.loop-so_far.so_far.texts in
    let why : (count ≡ length c.args.events.now) ⊎ (length c.args.buffer.now < texts + longest_payload) = elim c.loop-so_far-test.branch [
      | then-loop-so_far-test+else-buffer-so_far-ge-LONGEST_PARTS w ↦
          inr (omega (arith, w.if-buffer-so_far-ge-LONGEST_PARTS.false, before.same_buffer))
      | else-loop-so_far-test w ↦ inl (omega (arith, w.loop-so_far-test.false, before.same_places, before.count_fits))
    ] in
    stopped c.args.client.now c.loop-so_far.client c.args.chunk.now c.args.events.now c.args.buffer.now c.loop-so_far.so_far.used
    c.loop-so_far.so_far.count c.loop-so_far.so_far.texts c.answer-2.result c.loop-so_far.events c.loop-so_far.buffer before.so_far before.within
    before.count_fits before.texts_fit (ap (λ (a : GitwireAnswer). a.used) c.answer-2.ensures)
    (paused_full _ _ _ _ _ _ _ some (before.turn some) why c.answer-2.ensures)
