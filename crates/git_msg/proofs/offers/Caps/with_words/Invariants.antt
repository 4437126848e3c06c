use Rattle.std.proofs.Common.{◌≡◌, ◌+◌, ◌*◌, ◌≤◌, length}
use Rattle.git_msg.specs.Advertisement.{noted_after, noted_with}
use Rattle.git_msg.specs.Arguments.{name_of}
use Rattle.git_msg.specs.Texts.{spaced_words}
use Rattle.git_msg.proofs.offers.Caps.with_words.Given as goal

-- the capabilities noted so far, with those of the words left, are all that are noted
abbrev pub invariant-words : goal.invariant-words
invariant-words l = record {
  noted : noted_after l.noted (name_of l.command) l.value (spaced_words l.left) ≡ noted_with l.fn.self (name_of l.command) l.value;
  rises : l.fn.steps ≤ l.steps;
  within : l.steps + 7 * (length l.left + 1) ≤ l.fn.steps + 7 * (length l.value + 1);
}

abbrev pub decreases-words : goal.decreases-words
decreases-words l = length l.left
