-- The result of judging one line.
use Rattle.std.specs.Prelude.{ℕ, List}
use Rattle.git_msg.specs.declared.offers.Offer.{Offer}
use Rattle.git_msg.specs.declared.arguments.Command.{Command}
use Rattle.git_msg.specs.declared.judge.Noted.{Noted}
use Rattle.git_msg.specs.declared.judge.Noted.TheVariants.{Command as NotedCommand, Unkept, ServerOption, ObjectFormat}
use Rattle.git_msg.specs.Texts.{IsErrorText}
use Rattle.git_msg.specs.Arguments.{Arg, ReadsAs}
use Rattle.git_msg.specs.Lines.{Line, command, unkept, server_option, object_format}

abbrev pub line_of : Noted → Line
line_of (NotedCommand c) = command c
line_of Unkept = unkept
line_of (ServerOption option) = server_option option.now
line_of ObjectFormat = object_format

-- the text is this argument of the command, and no error
pub record IsText (c : Command) (offer : Offer) (text : List ℕ) (arg : Arg) : Type 0 where
  pub no_error : ¬ IsErrorText text
  pub reads : ReadsAs c offer text arg
