use Rattle.std.proofs.Common.{arith, ◌≤◌, ◌≡◌, ◌∙◌, ◌+◌, ℕ, List, length, ap, refl, subst, sym}
use Rattle.std.specs.Global.{Global}
use Rattle.git_pkt.specs.Packets.{longest_payload}
use Rattle.git_client.specs.Machine.Choosing.{ChoosesFormat}
use Rattle.git_client.specs.Machine.Client.{Feeds, events_of, wants_input}
use Rattle.git_client.specs.declared.client.Client.{Client}
use Rattle.git_client.specs.declared.events.Received.{Received}
use Rattle.git_client.specs.Events.{all_parts_length}
use Rattle.git_client.specs.declared.events.ReceivedGot.{ReceivedGot}
use Rattle.gitwire.specs.ClientAnswers.{FeedsInBuffer, LieInChunk, answer_of, filled_by}
use Rattle.gitwire.specs.declared.event.GitwireEvent.{GitwireEvent}
use Rattle.gitwire.specs.Answers.{more_of}
use Rattle.gitwire.specs.EventAnswers.{announcing_none, answering_refusal, copied_of}
use Rattle.gitwire.proofs.ListedEvents.{copied_fits, passed_fits}
use Rattle.gitwire.proofs.ShownLengths.{answer_fits}
use Rattle.gitwire.proofs.ShownPlaces.{lies, placed_first}
use Rattle.gitwire.proofs.client.feed.Goals as goal

-- what is shown of what came: a call that got as far had a buffer that is large enough
shows : (old chosen new : Client Global) (chunk buffer filled : List ℕ) (arrived : Received) (answer : GitwireEvent)
    → ChoosesFormat old chosen → Feeds chosen chunk arrived new → arrived.used ≤ length chunk → longest_payload ≤ length buffer
    → answer.id_length + answer.name_length + answer.text_length + answer.peeled_length ≤ longest_payload
    → answer ≡ answer_of (wants_input old) arrived.used arrived.got → filled ≡ filled_by arrived.got buffer
    → FeedsInBuffer old chunk buffer answer filled new
shows old chosen new chunk buffer filled arrived answer chooses feeds within large fits answer_is buffer_is = record {
  small = λ short. absurd (omega (arith, short, large));
  large = λ _. record {
    arrived = arrived;
    feeds = record { chosen = chosen; chooses = chooses; feeds = feeds };
    within = within;
    fits = fits;
    answer_is = answer_is;
    buffer_is = buffer_is;
    lies = lies chosen new chunk arrived.used arrived.got feeds;
  };
}

pub list-requires-clause-copied : goal.list-requires-clause-copied
list-requires-clause-copied c =
    let fits = subst (λ (got : ReceivedGot). all_parts_length (events_of got) ≤ longest_payload) c.in-Event.is c.feed-arrived.ensures.fits in
    omega (arith, copied_fits c.in-Event.event, fits, c.if-buffer-lt-LONGEST_PARTS.false)

pub list-requires-clause-passed : goal.list-requires-clause-passed
list-requires-clause-passed c =
    let used = c.feed-arrived.result.used in
    let chunk = c.args.chunk.now in
    let feeds = c.feed-arrived.follows.holds-at-none.0 in
    let there = lies _ c.feed-arrived.follows.lender-at-none chunk used c.feed-arrived.result.got feeds in
    omega (arith, passed_fits c.in-Event.event used chunk (subst (λ (got : ReceivedGot). LieInChunk got used chunk) c.in-Event.is there))

pub returns-in-Event : goal.returns-in-Event
returns-in-Event c =
    let used = c.feed-arrived.result.used in
    let fits = subst (λ (got : ReceivedGot). all_parts_length (events_of got) ≤ longest_payload) c.in-Event.is c.feed-arrived.ensures.fits in
    let buffer = c.list.ensures.buffer ∙ placed_first (copied_of c.in-Event.event) c.args.buffer.now in
    shows c.args.client.now _ c.feed-arrived.follows.lender-at-none c.args.chunk.now c.args.buffer.now c.list.new.buffer c.feed-arrived.result c.list.new.place
    c.choose_format.ensures c.feed-arrived.follows.holds-at-none.0 c.feed-arrived.ensures.used (omega (arith, c.if-buffer-lt-LONGEST_PARTS.false))
    (answer_fits used 0 c.in-Event.event c.list.new.place fits c.list.ensures.event)
    (subst (λ (g : ReceivedGot). c.list.new.place ≡ answer_of (wants_input c.args.client.now) used g) (sym c.in-Event.is) c.list.ensures.event)
    (subst (λ (g : ReceivedGot). c.list.new.buffer ≡ filled_by g c.args.buffer.now) (sym c.in-Event.is) buffer)

pub returns-in-More : goal.returns-in-More
returns-in-More c =
    let used = c.feed-arrived.result.used in
    let event = c.none-in-More.result in
    let answered : event ≡ announcing_none used (more_of (wants_input c.args.client.now)) =
    c.none-in-More.ensures ∙ ap (announcing_none used) (c.more.ensures ∙ ap more_of c.wants_input-expected.ensures.value) in
    shows c.args.client.now _ c.feed-arrived.follows.lender-at-none c.args.chunk.now c.args.buffer.now c.args.buffer.now c.feed-arrived.result event
    c.choose_format.ensures c.feed-arrived.follows.holds-at-none.0 c.feed-arrived.ensures.used (omega (arith, c.if-buffer-lt-LONGEST_PARTS.false))
    (rw answered (omega arith))
    (subst (λ (g : ReceivedGot). event ≡ answer_of (wants_input c.args.client.now) used g) (sym c.in-More.is) answered)
    (subst (λ (g : ReceivedGot). c.args.buffer.now ≡ filled_by g c.args.buffer.now) (sym c.in-More.is) refl)

pub returns-in-Failed : goal.returns-in-Failed
returns-in-Failed c =
    let used = c.feed-arrived.result.used in
    let event = c.of_fault.result in
    let answered : event ≡ answering_refusal used c.in-Failed.fault = c.of_fault.ensures in
    shows c.args.client.now _ c.feed-arrived.follows.lender-at-none c.args.chunk.now c.args.buffer.now c.args.buffer.now c.feed-arrived.result event
    c.choose_format.ensures c.feed-arrived.follows.holds-at-none.0 c.feed-arrived.ensures.used (omega (arith, c.if-buffer-lt-LONGEST_PARTS.false))
    (rw answered (omega arith))
    (subst (λ (g : ReceivedGot). event ≡ answer_of (wants_input c.args.client.now) used g) (sym c.in-Failed.is) answered)
    (subst (λ (g : ReceivedGot). c.args.buffer.now ≡ filled_by g c.args.buffer.now) (sym c.in-Failed.is) refl)
