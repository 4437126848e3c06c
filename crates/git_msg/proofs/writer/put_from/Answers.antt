use Rattle.std.proofs.Common.{ap, option_map, rules, sym, ◌∙◌}
use Rattle.git_msg.specs.Arguments.{shown}
use Rattle.git_msg.specs.Asked.{arguments_in}
use Rattle.git_msg.specs.Machine.HeldRequest.{asked_of}
use Rattle.git_msg.specs.WrittenRequest.{argument_line}
use Rattle.git_msg.proofs.LinesLeft.{argument_step, flush_left}
use Rattle.git_msg.proofs.writer.put_from.Goals as goal

pub returns-in-Some : goal.returns-in-Some
returns-in-Some g c =
    let at = sym c.argument.ensures.value ∙ ap (option_map shown) c.in-Some.is in
    (λ agent named object_format format. record {
      packet = argument_line (shown c.in-Some.argument);
      first = argument_step (arguments_in (asked_of c.args.request.now)) c.args.i _ at;
      written = c.put_argument.ensures;
    })

pub returns-in-None : goal.returns-in-None
returns-in-None g c = search (rules, flush_left)
