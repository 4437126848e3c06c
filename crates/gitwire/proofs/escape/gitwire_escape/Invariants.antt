use Rattle.std.proofs.Common.{◌≡◌, ◌≤◌, length, take}
use Rattle.git_pkt.specs.Escape.{escaped_of}
use Rattle.gitwire.specs.Buffers.{put_before}
use Rattle.gitwire.proofs.escape.gitwire_escape.Given as goal

-- the bytes before this one have been escaped
abbrev pub invariant-loop-used : goal.invariant-loop-used
invariant-loop-used l = record {
  ends : l.end ≡ length (escaped_of (take l.used l.bytes));
  fits : l.end ≤ length l.fn.buffer;
  filled : l.buffer ≡ put_before (escaped_of (take l.used l.bytes)) l.fn.buffer;
}
