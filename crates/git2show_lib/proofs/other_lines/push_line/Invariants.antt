use Rattle.std.proofs.Common.{◌≡◌, ◌++◌}
use Rattle.std.specs.Slice.Iter.{chunks_rest, chunks_size}
use Rattle.git2show_lib.specs.declared.other_lines.TheConstants.{BLOCK}
use Rattle.git2show_lib.proofs.LinesEscaped.{EscapedUpTo}
use Rattle.git2show_lib.proofs.other_lines.push_line.Given as goal

-- the escapes of what came of the text were appended
abbrev pub invariant-loop-block : goal.invariant-loop-block
invariant-loop-block g l = record {
  size : chunks_size l.block-iterator ≡ BLOCK;
  escaped : EscapedUpTo (l.fn.lines.items ++ l.fn.word) l.text l.lines.items (chunks_rest l.block-iterator);
}
