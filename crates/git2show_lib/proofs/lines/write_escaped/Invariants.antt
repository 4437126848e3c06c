use Rattle.std.proofs.Common.{◌≡◌, ◌+◌, ◌*◌, ◌≤◌, length, take}
use Rattle.std.specs.Slice.Iter.{chunks_rest, chunks_size}
use Rattle.git2show_lib.specs.declared.lines.TheConstants.{RUN}
use Rattle.git2show_lib.proofs.LinesEscaped.{EscapedUpTo}
use Rattle.git2show_lib.proofs.lines.write_escaped.Given as goal

-- what came of the bytes was escaped, and there is space for the others
abbrev pub invariant-loop-run : goal.invariant-loop-run
invariant-loop-run l = record {
  size : chunks_size l.run-iterator ≡ RUN;
  within : l.end + 4 * length (chunks_rest l.run-iterator) ≤ l.at + 4 * length l.bytes;
  escaped : EscapedUpTo (take l.at l.fn.out) l.bytes (take l.end l.out) (chunks_rest l.run-iterator);
}
