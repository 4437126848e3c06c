use Rattle.std.proofs.Common.{◌≡◌, ◌+◌, ◌*◌, ◌≤◌, ◌++◌, take, flat_map}
use Rattle.git2show_lib.specs.JsonLines.{coded}
use Rattle.git2show_lib.proofs.json_lines.Coding.write.Given as goal

-- the bytes before this one have been written
abbrev pub invariant-loop-byte : goal.invariant-loop-byte
invariant-loop-byte l = record {
  within : l.end ≤ l.at + 6 * l.byte-index;
  coded : take l.end l.out ≡ take l.at l.fn.out ++ flat_map (coded l.self) (take l.byte-index l.bytes);
}
