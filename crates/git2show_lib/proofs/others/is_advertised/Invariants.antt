use Rattle.std.proofs.Common.{◌≡◌, length}
use Rattle.std.specs.List.{list_any}
use Rattle.git_msg.specs.Texts.{parts_of}
use Rattle.git2show_lib.specs.Others.{line_has}
use Rattle.git2show_lib.proofs.others.is_advertised.Given as goal

-- a line of what is left has it, or none of the text does
abbrev pub invariant-lines : goal.invariant-lines
invariant-lines l = record {
  same : list_any (line_has l.command l.word) (parts_of 10 l.left) ≡ list_any (line_has l.command l.word) (parts_of 10 l.advertised);
}

abbrev pub decreases-lines : goal.decreases-lines
decreases-lines l = length l.left
