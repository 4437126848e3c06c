use Rattle.std.proofs.Common.{◌≤◌, length}
use Rattle.git_msg.proofs.HeadWords.{BeginsWithNone}
use Rattle.git_msg.proofs.arguments.Command.split.Given as goal

-- the text begins with none of the words from this place on
abbrev pub invariant-words : goal.invariant-words
invariant-words l = record { within : l.left ≤ length l.words; none : BeginsWithNone l.words l.left l.text }

abbrev pub decreases-words : goal.decreases-words
decreases-words l = l.left
