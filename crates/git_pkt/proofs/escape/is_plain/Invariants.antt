use Rattle.std.proofs.Common.{◌≡◌, take, false}
use Rattle.git_pkt.specs.Escape.{escaped_of}
use Rattle.git_pkt.proofs.Escapes.{AreLong}
use Rattle.git_pkt.proofs.escape.is_plain.Given as goal

-- if all bytes before this one are plain, they are their own escapes; if one is not, the escapes are longer
abbrev pub invariant-loop-byte : goal.invariant-loop-byte
invariant-loop-byte l = record {
  plain : l.has_other ≡ false → escaped_of (take l.byte-index l.bytes) ≡ take l.byte-index l.bytes;
  long : AreLong l.bytes l.byte-index l.has_other;
}
