use Rattle.std.proofs.Common.{length, ◌+◌, ◌-◌, ◌*◌, ◌≡◌, ◌<◌, ◌≤◌, true, take, []}
use Rattle.git_pkt.specs.Machine.Credit.{Pays, credit_of}
use Rattle.git_client.specs.Machine.Client.{ReceivesOn, is_of_any_format, reader_of, wants_input}
use Rattle.git_client.proofs.client.Client.advance.Given as goal

-- the bytes so far gave no event
abbrev pub invariant-loop-used : goal.invariant-loop-used
invariant-loop-used g l = record {
  within : l.used ≤ length l.chunk;
  waits : wants_input l.self ≡ true;
  any : is_of_any_format l.self ≡ is_of_any_format l.fn.self;
  arrives : ReceivesOn l.fn.self (take l.used l.chunk) [] l.self;
  cost : Pays l.used l.fn.steps l.steps (credit_of (reader_of l.fn.self)) (credit_of (reader_of l.self));
  paid : l.used < length l.chunk
      → l.steps + credit_of (reader_of l.self) ≤ l.fn.steps + credit_of (reader_of l.fn.self) + 64 * l.used;
}

abbrev pub decreases-loop-used : goal.decreases-loop-used
decreases-loop-used g l = length l.chunk - l.used
