use Rattle.std.proofs.Common.{◌≡◌, drop}
use Rattle.std.specs.Prelude.{slice_get}
use Rattle.std.specs.List.{flat_map}
use Rattle.git_msg.specs.Machine.ArgumentLists.{held, held_at}
use Rattle.git_msg.proofs.lists.ArgumentLists.argument.Given as goal

-- the argument is the one at this index of those of the words left
abbrev pub invariant-loop-word : goal.invariant-loop-word
invariant-loop-word g l = slice_get (held l.self) l.fn.i ≡ slice_get (flat_map (held_at l.self) (drop l.word-index l.word-items)) l.left
