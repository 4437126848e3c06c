use Rattle.std.proofs.Common.{arith, ap}
use Rattle.git_client.specs.EventParts.{parts_shown}
use Rattle.gitwire.specs.declared.event.GitwireEvent.{GitwireEvent}
use Rattle.gitwire.proofs.ListedEvents.{placed_after, rest_length}
use Rattle.gitwire.proofs.ShownLengths.{shown_length}
use Rattle.gitwire.proofs.event_list.list_texts.Goals as goal

pub of_parts-requires : goal.of_parts-requires
of_parts-requires c = omega (arith, c.requires, rest_length c.args.buffer.now c.args.at)

pub returns : goal.returns
returns c =
    let shown = c.of_parts.ensures.answer in
    record {
      event = ap (λ (e : GitwireEvent). record e { offset = c.args.at }) shown;
      texts = rw shown (omega (arith, shown_length (parts_shown c.args.parts)));
      buffer = placed_after c.args.buffer.now c.of_parts.new.buffer _ c.args.at c.requires c.of_parts.ensures.buffer;
    }
