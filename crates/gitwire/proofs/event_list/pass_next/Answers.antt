use Rattle.std.proofs.Common.{arith, ◌≤◌, ◌+◌, ◌-◌, ℕ, ap, refl, set, subst, take, drop, length}
use Rattle.std.proofs.lemmas.List.{take_rest}
use Rattle.git_pkt.specs.Packets.{longest_payload}
use Rattle.git_client.specs.Events.{all_parts_length}
use Rattle.git_client.specs.Machine.Client.{Feeds, events_of}
use Rattle.git_client.specs.declared.events.ReceivedGot.{ReceivedGot}
use Rattle.git_client.proofs.Chosen.{keeps_format}
use Rattle.gitwire.specs.ClientAnswers.{LieInChunk}
use Rattle.gitwire.proofs.ListedEvents.{copied_fits, ends_within, lies_after, passed_fits, texts_within}
use Rattle.gitwire.proofs.ShownPlaces.{lies}
use Rattle.gitwire.proofs.event_list.pass_next.Goals as goal

pub list-requires-clause-copied : goal.list-requires-clause-copied
list-requires-clause-copied c =
    let fits = subst (λ (got : ReceivedGot). all_parts_length (events_of got) ≤ longest_payload) c.in-Event.is c.in-Some.ensures.fits in
    omega (arith, copied_fits c.in-Event.event, fits, c.requires.suffices)

pub list-requires-clause-passed : goal.list-requires-clause-passed
list-requires-clause-passed c =
    let used = c.in-Some.arrived.used in
    let there = lies c.args.client.now _ _ used c.in-Some.arrived.got c.in-Some.ensures.feeds in
    let part = take (length c.args.chunk.now - c.args.so_far.used) (drop c.args.so_far.used c.args.chunk.now) in
    omega (arith, passed_fits c.in-Event.event used part (subst (λ (got : ReceivedGot). LieInChunk got used part) c.in-Event.is there))

pub returns : goal.returns
returns c =
    let old = c.args.client.now in
    let new = c.pass_whole.new.self in
    let used = c.in-Some.arrived.used in
    let from = c.args.so_far.used in
    let after = drop from c.args.chunk.now in
    let feeds = rw (take_rest c.args.chunk.now from) at c.in-Some.ensures.feeds in
    let there = lies old new after used c.in-Some.arrived.got feeds in
    let lies_there = subst (λ (got : ReceivedGot). LieInChunk got used after) c.in-Event.is there in
    let fits = subst (λ (got : ReceivedGot). all_parts_length (events_of got) ≤ longest_payload) c.in-Event.is c.in-Some.ensures.fits in (
      record {
        event = c.in-Event.event;
        used = used;
        feeds = record {
          chosen = old;
          chooses = keeps_format old c.in-Some.ensures.chosen;
          feeds = subst (λ (got : ReceivedGot). Feeds old after (record { used = used; got = got }) new) c.in-Event.is feeds;
        };
        within = ends_within c.args.chunk.now from used (from + used) c.in-Some.ensures.used c.requires.within refl;
        lies = lies_after c.in-Event.event from used c.args.chunk.now lies_there;
        further_is = ap (λ (n : ℕ). record { used = from + used; count = c.args.so_far.count + 1; texts = n }) c.list.ensures.texts;
        events_are = ap (set c.args.events.now c.args.so_far.count) c.list.ensures.event;
        texts_fit = texts_within c.args.so_far.texts _ _ _ _ c.list.ensures.texts (copied_fits c.in-Event.event) fits c.requires.suffices;
        buffer_is = c.list.ensures.buffer;
      },
      c.in-Some.ensures.goes_on,
    )
