use Rattle.std.proofs.Common.{◌≡◌, ◌+◌, ◌*◌, ◌≤◌, ◌++◌, drop, length, take}
use Rattle.git_pkt.specs.Escape.{escaped_of}
use Rattle.git_pkt.proofs.escape.escape_into.Given as goal

-- the bytes before this one have been escaped
abbrev pub invariant-loop-byte : goal.invariant-loop-byte
invariant-loop-byte l = record {
  within : l.end ≤ l.at + 4 * l.byte-index;
  escaped : take l.end l.out ≡ take l.at l.fn.out ++ escaped_of (take l.byte-index l.bytes);
  others : drop (l.at + 4 * length l.bytes) l.out ≡ drop (l.at + 4 * length l.bytes) l.fn.out;
}
