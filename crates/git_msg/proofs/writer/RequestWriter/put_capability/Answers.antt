use Rattle.std.proofs.Common.{ap, option_map, sym, subst, ◌∙◌, ◌≡◌, IfSome, Option, Some, None, false, rules, refl}
use Rattle.git_pkt.specs.Packets.{delim}
use Rattle.git_msg.specs.declared.arguments.Argument.{Argument}
use Rattle.git_msg.specs.Arguments.{Arg, shown}
use Rattle.git_msg.specs.Asked.{arguments_in}
use Rattle.git_msg.specs.Machine.HeldRequest.{asked_of, format_of}
use Rattle.git_msg.specs.WrittenRequest.{argument_line, format_line, is_option}
use Rattle.git_msg.proofs.LinesLeft.{option_step, options_over}
use Rattle.git_msg.proofs.writer.RequestWriter.put_capability.Goals as goal
use Rattle.git_msg.proofs.writer.RequestWriter.put_capability.Goals.{in-Some+else-is_option, in_default}

pub returns-then-is_option : goal.returns-then-is_option
returns-then-is_option g c =
    let request = c.args.request.now in
    let at = sym c.argument.ensures.value ∙ ap (option_map shown) c.in-Some.is in
    record {
      packet = argument_line (shown c.in-Some.argument);
      first =
          option_step c.args.self.now.object_format (format_of request) (arguments_in (asked_of request)) c.args.i _ at
          (sym c.is_option.ensures ∙ c.if-is_option.true);
      written = c.put_argument.ensures;
    }

-- no option is there
none_there : (result : Option Argument) → ((argument : Argument) → result ≡ Some argument → is_option (shown argument) ≡ false)
    → IfSome (option_map shown result) (λ arg. is_option arg ≡ false)
none_there None other = tt
none_there (Some argument) other = other argument refl

pub returns-then-self : goal.returns-then-self
returns-then-self g c =
    let request = c.args.request.now in
    let args = arguments_in (asked_of request) in
    let none : IfSome (option_map shown c.argument.result) (λ arg. is_option arg ≡ false) = elim c.match-argument.branch [
      | in-Some+else-is_option w ↦
          subst (λ (found : Option Argument). IfSome (option_map shown found) (λ arg. is_option arg ≡ false)) (sym w.in-Some.is)
          (sym w.is_option.ensures ∙ w.if-is_option.false)
      | in_default w ↦ none_there c.argument.result (λ argument is. absurd (w.in_default.not-Some argument is))
    ] in
    let over = options_over c.args.self.now.object_format (format_of request) args c.args.i
    (subst (λ (found : Option Arg). IfSome found (λ arg. is_option arg ≡ false)) c.argument.ensures.value none) in
    record {
      packet = format_line (format_of request);
      first = over ∙ rw c.if-self.true refl;
      written = search (rules, c.put_line.ensures.written, c.as_bytes.ensures.value, c.name.ensures, c.format.ensures);
    }

pub returns : goal.returns
returns g c =
    let request = c.args.request.now in
    let args = arguments_in (asked_of request) in
    let none : IfSome (option_map shown c.argument.result) (λ arg. is_option arg ≡ false) = elim c.match-argument.branch [
      | in-Some+else-is_option w ↦
          subst (λ (found : Option Argument). IfSome (option_map shown found) (λ arg. is_option arg ≡ false)) (sym w.in-Some.is)
          (sym w.is_option.ensures ∙ w.if-is_option.false)
      | in_default w ↦ none_there c.argument.result (λ argument is. absurd (w.in_default.not-Some argument is))
    ] in
    let over = options_over c.args.self.now.object_format (format_of request) args c.args.i
    (subst (λ (found : Option Arg). IfSome found (λ arg. is_option arg ≡ false)) c.argument.ensures.value none) in
    record { packet = delim; first = over ∙ rw c.if-self.false refl; written = c.put.ensures }
