-- The packets left of a request after one of them is written.
use Rattle.std.proofs.Common.{arith, ◌≡◌, ◌≢◌, ℕ, ◌+◌, Bool, true, false, Option, Some, None, IfSome, List, [], ◌∷◌, ap, drop, refl, ◌∙◌, sym}
use Rattle.std.specs.Prelude.{slice_get}
use Rattle.std.proofs.lemmas.Grind.{common_steps}
use Rattle.std.proofs.lemmas.Option.{gets}
use Rattle.git_names.specs.declared.object_format.Format.{Format}
use Rattle.git_pkt.specs.Packets.{flush}
use Rattle.git_msg.specs.declared.agent.Agent.{Agent}
use Rattle.git_msg.specs.declared.writer.Next.{Next}
use Rattle.git_msg.specs.declared.writer.Next.TheVariants.{CommandLine, AgentLine, ServerOption, Delimiter, Argument, Done}
use Rattle.git_msg.specs.Arguments.{Arg}
use Rattle.git_msg.specs.Asked.{Asked, arguments_in}
use Rattle.git_msg.specs.WrittenRequest.{is_option, argument_line, argument_lines, argument_part, format_line, options_and_rest, where_set}
use Rattle.git_msg.specs.Machine.RequestWriter.{lines_from}

drop_from : (args : List Arg) (i : ℕ) (arg : Arg) → slice_get args i ≡ Some arg → drop i args ≡ arg ∷ drop (i + 1) args
drop_from args i arg h = grind (arith, common_steps, gets)

drop_past : (args : List Arg) (i : ℕ) → slice_get args i ≡ None → drop i args ≡ []
drop_past args i h = grind (arith, common_steps, gets)

-- after an argument is written, those after it are left
pub argument_step : (args : List Arg) (i : ℕ) (arg : Arg) → slice_get args i ≡ Some arg
    → argument_lines (drop i args) ≡ argument_line arg ∷ argument_lines (drop (i + 1) args)
argument_step args i arg h = ap argument_lines (drop_from args i arg h) ∙ refl

-- after the last argument only the flush is left
pub flush_left : (args : List Arg) (i : ℕ) → slice_get args i ≡ None → argument_lines (drop i args) ≡ flush ∷ []
flush_left args i h = ap argument_lines (drop_past args i h)

module _ (object_format : Bool) (format : Format) where
  -- a server option is written first, and whatever else is first ends them
  option_first : (arg : Arg) (args : List Arg) → is_option arg ≡ true
      → options_and_rest object_format format (arg ∷ args) ≡ argument_line arg ∷ options_and_rest object_format format args
  option_first arg args is = rw is refl

  other_first : (arg : Arg) (args : List Arg) → is_option arg ≡ false
      → options_and_rest object_format format (arg ∷ args) ≡ where_set object_format (format_line format) (argument_part (arg ∷ args))
  other_first arg args is = rw is refl

  -- after a server option is written, those after it are left
  pub option_step : (args : List Arg) (i : ℕ) (arg : Arg) → slice_get args i ≡ Some arg → is_option arg ≡ true
      → options_and_rest object_format format (drop i args) ≡ argument_line arg ∷ options_and_rest object_format format (drop (i + 1) args)
  option_step args i arg h is = ap (options_and_rest object_format format) (drop_from args i arg h) ∙ option_first arg (drop (i + 1) args) is

  -- after the last one, what follows them is left
  pub options_over : (args : List Arg) (i : ℕ) → IfSome (slice_get args i) (λ arg. is_option arg ≡ false)
      → options_and_rest object_format format (drop i args) ≡ where_set object_format (format_line format) (argument_part (drop i args))
  options_over args i none = by (slice_get args i) refl none
    where
      by : (found : Option Arg) → slice_get args i ≡ found → IfSome found (λ arg. is_option arg ≡ false)
          → options_and_rest object_format format (drop i args) ≡ where_set object_format (format_line format) (argument_part (drop i args))
      by None at is = rw (drop_past args i at) refl
      by (Some arg) at is = rw (drop_from args i arg at) (other_first arg (drop (i + 1) args) is)

  part_left : (named : Bool) (args : List Arg) → where_set named (format_line format) (argument_part args) ≢ []
  part_left true args h = absurd (cc)
  part_left false args h = absurd (cc)

  option_left : (is : Bool) (arg : Arg) (args : List Arg) → is_option arg ≡ is → options_and_rest object_format format (arg ∷ args) ≢ []
  option_left true arg args is h = let same = sym (option_first arg args is) ∙ h in absurd (cc)
  option_left false arg args is h = part_left object_format (arg ∷ args) (sym (other_first arg args is) ∙ h)

  -- something always follows
  options_left : (args : List Arg) → options_and_rest object_format format args ≢ []
  options_left [] h = part_left object_format [] h
  options_left (arg ∷ args) h = option_left (is_option arg) arg args refl h

lines_follow : (args : List Arg) → argument_lines args ≢ []
lines_follow [] h = absurd (cc)
lines_follow (arg ∷ args) h = absurd (cc)

-- something is left until all is written
pub more_left : (next : Next) (agent : Agent) (named object_format : Bool) (format : Format) (asked : Asked) → next ≢ Done
    → lines_from next agent named object_format format asked ≢ []
more_left CommandLine agent named object_format format asked other h = absurd (cc)
more_left AgentLine agent named object_format format asked other h = absurd (cc)
more_left (ServerOption i) agent named object_format format asked other h = options_left object_format format (drop i (arguments_in asked)) h
more_left (Delimiter i) agent named object_format format asked other h = absurd (cc)
more_left (Argument i) agent named object_format format asked other h = lines_follow (drop i (arguments_in asked)) h
more_left Done agent named object_format format asked other h = other refl
