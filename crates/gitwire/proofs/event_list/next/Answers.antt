use Rattle.std.proofs.Common.{arith, ◌∙◌, ◌≤◌, ◌+◌, ◌-◌, ℕ, ap, refl, set, subst, sym, take, drop, length}
use Rattle.std.proofs.lemmas.List.{take_rest}
use Rattle.git_pkt.specs.Packets.{longest_payload}
use Rattle.git_client.specs.Events.{all_parts_length}
use Rattle.git_client.specs.Machine.Client.{Feeds, events_of, wants_input}
use Rattle.git_client.specs.declared.events.ReceivedGot.{ReceivedGot}
use Rattle.gitwire.specs.Answers.{answering_packet, more_of}
use Rattle.gitwire.specs.ClientAnswers.{LieInChunk}
use Rattle.gitwire.specs.EventLists.{EndsAs}
use Rattle.gitwire.specs.declared.answer.GitwireAnswer.{GitwireAnswer}
use Rattle.gitwire.specs.declared.answer.What.{What}
use Rattle.gitwire.proofs.ListedEvents.{copied_fits, ends_within, lies_after, passed_fits, texts_within}
use Rattle.gitwire.proofs.ShownPlaces.{lies}
use Rattle.gitwire.proofs.event_list.next.Goals as goal

pub list-requires-clause-copied : goal.list-requires-clause-copied
list-requires-clause-copied c =
    let fits = subst (λ (got : ReceivedGot). all_parts_length (events_of got) ≤ longest_payload) c.in-Event.is c.feed-arrived.ensures.fits in
    omega (arith, copied_fits c.in-Event.event, fits, c.requires.suffices)

pub list-requires-clause-passed : goal.list-requires-clause-passed
list-requires-clause-passed c =
    let used = c.feed-arrived.result.used in
    let feeds = c.feed-arrived.follows.holds-at-none.0 in
    let there = lies _ c.feed-arrived.follows.lender-at-none _ used c.feed-arrived.result.got feeds in
    let part = take (length c.args.chunk.now - c.args.so_far.used) (drop c.args.so_far.used c.args.chunk.now) in
    omega (arith, passed_fits c.in-Event.event used part (subst (λ (got : ReceivedGot). LieInChunk got used part) c.in-Event.is there))

pub returns-in-More : goal.returns-in-More
returns-in-More c =
    let used = c.args.so_far.used + c.feed-arrived.result.used in
    let count = c.args.so_far.count in
    let reported = c.more.ensures ∙ ap more_of c.wants_input-expected.ensures.value in
    let answered = c.of_packet.ensures ∙ ap (λ (what : What). answering_packet used 0 count what) reported in (
      record {
        used = c.feed-arrived.result.used;
        got = c.feed-arrived.result.got;
        feeds = record {
          chosen = _;
          chooses = c.choose_format.ensures;
          feeds = rw (take_rest c.args.chunk.now c.args.so_far.used) at c.feed-arrived.follows.holds-at-none.0;
        };
        answer_is = subst (λ (got : ReceivedGot). EndsAs (wants_input c.args.client.now) used count got c.of_packet.result) (sym c.in-More.is) answered;
        goes_on = c.requires.goes_on;
      },
      ends_within c.args.chunk.now c.args.so_far.used c.feed-arrived.result.used _ c.feed-arrived.ensures.used c.requires.within
          (ap (λ (a : GitwireAnswer). a.used) answered),
      refl,
      refl,
    )

pub returns-in-Event : goal.returns-in-Event
returns-in-Event c =
    let used = c.feed-arrived.result.used in
    let from = c.args.so_far.used in
    let feeds = rw (take_rest c.args.chunk.now from) at c.feed-arrived.follows.holds-at-none.0 in
    let new = c.feed-arrived.follows.lender-at-none in
    let there = lies _ new (drop from c.args.chunk.now) used c.feed-arrived.result.got feeds in
    let lies_there = subst (λ (got : ReceivedGot). LieInChunk got used (drop from c.args.chunk.now)) c.in-Event.is there in
    let fits = subst (λ (got : ReceivedGot). all_parts_length (events_of got) ≤ longest_payload) c.in-Event.is c.feed-arrived.ensures.fits in
    record {
      event = c.in-Event.event;
      used = used;
      feeds = record {
        chosen = _;
        chooses = c.choose_format.ensures;
        feeds =
            subst (λ (got : ReceivedGot). Feeds c.choose_format.new.self (drop from c.args.chunk.now) (record { used = used; got = got }) new) c.in-Event.is
            feeds;
      };
      within = ends_within c.args.chunk.now from used (from + used) c.feed-arrived.ensures.used c.requires.within refl;
      lies = lies_after c.in-Event.event from used c.args.chunk.now lies_there;
      further_is = ap (λ (n : ℕ). record { used = from + used; count = c.args.so_far.count + 1; texts = n }) c.list.ensures.texts;
      events_are = ap (set c.args.events.now c.args.so_far.count) c.list.ensures.event;
      texts_fit = texts_within c.args.so_far.texts _ _ _ _ c.list.ensures.texts (copied_fits c.in-Event.event) fits c.requires.suffices;
      buffer_is = c.list.ensures.buffer;
    }

pub returns-in-Failed : goal.returns-in-Failed
returns-in-Failed c =
    let used = c.args.so_far.used + c.feed-arrived.result.used in
    let count = c.args.so_far.count in
    let answered = ap (λ (a : GitwireAnswer). record a { length = count }) c.of_fault.ensures in (
      record {
        used = c.feed-arrived.result.used;
        got = c.feed-arrived.result.got;
        feeds = record {
          chosen = _;
          chooses = c.choose_format.ensures;
          feeds = rw (take_rest c.args.chunk.now c.args.so_far.used) at c.feed-arrived.follows.holds-at-none.0;
        };
        answer_is = subst (λ (got : ReceivedGot). EndsAs (wants_input c.args.client.now) used count got (record c.of_fault.result { length = count }))
            (sym c.in-Failed.is) answered;
        goes_on = c.requires.goes_on;
      },
      ends_within c.args.chunk.now c.args.so_far.used c.feed-arrived.result.used _ c.feed-arrived.ensures.used c.requires.within
          (ap (λ (a : GitwireAnswer). a.used) answered),
      refl,
      refl,
    )
