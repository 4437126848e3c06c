use Rattle.std.proofs.Common.{length, ◌-◌, ◌≤◌, take, Ok}
use Rattle.git_pkt.specs.Escape.{escaped_of}
use Rattle.git_pkt.specs.Machine.Sends.{Puts}
use Rattle.git_client.proofs.line.Lines.put_text.Given as goal

-- the escapes of the bytes so far were put
abbrev pub invariant-loop-done : goal.invariant-loop-done
invariant-loop-done g l = record {
  within : l.done ≤ length l.bytes;
  puts : Puts {T = Unit {0}} g.W.Write.contents l.fn.out l.fn.self (escaped_of (take l.done l.bytes)) (Ok tt) l.out l.self;
}

abbrev pub decreases-loop-done : goal.decreases-loop-done
decreases-loop-done g l = length l.bytes - l.done
