use Rattle.std.proofs.Common.{◌≡◌, length}
use Rattle.std.specs.List.{list_any}
use Rattle.std.specs.Option.{option_copied}
use Rattle.git_msg.specs.Texts.{spaced_words}
use Rattle.git2show_lib.specs.Others.{word_passes}
use Rattle.git2show_lib.proofs.others.has_word.Given as goal

-- a word of what is left passes, or none of the value does
abbrev pub invariant-words : goal.invariant-words
invariant-words l = record {
  same : list_any (word_passes (option_copied l.wanted)) (spaced_words l.left) ≡ list_any (word_passes (option_copied l.wanted)) (spaced_words l.value);
}

abbrev pub decreases-words : goal.decreases-words
decreases-words l = length l.left
