use Rattle.std.proofs.Common.{◌≡◌, ◌++◌, take}
use Rattle.git_pkt.specs.Escape.{escaped_of}
use Rattle.git_trace.proofs.shown_lines.put_escaped.Given as goal

-- the bytes before this one were escaped
abbrev pub invariant-loop-byte : goal.invariant-loop-byte
invariant-loop-byte l = l.out.items ≡ l.fn.out.items ++ escaped_of (take l.byte-index l.bytes)
