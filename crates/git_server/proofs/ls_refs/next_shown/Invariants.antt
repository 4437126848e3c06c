use Rattle.std.proofs.Common.{◌≡◌, ◌-◌, ◌≤◌, length, drop}
use Rattle.git_server.specs.Answers.{shown_refs}
use Rattle.git_server.proofs.ls_refs.next_shown.Given as goal
use Rattle.git_msg.specs.Asked.{ref_prefixes_in}

-- none of the references so far is shown
abbrev pub invariant-loop-at : goal.invariant-loop-at
invariant-loop-at g l = record {
  onward : l.fn.from ≤ l.at;
  same : shown_refs (ref_prefixes_in l.listing.asked) (drop l.at l.refs) ≡ shown_refs (ref_prefixes_in l.listing.asked) (drop l.fn.from l.refs);
}

abbrev pub decreases-loop-at : goal.decreases-loop-at
decreases-loop-at g l = length l.refs - l.at
