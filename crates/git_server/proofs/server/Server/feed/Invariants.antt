use Rattle.std.proofs.Common.{◌⊎◌, IsSome, length, ◌-◌, ◌+◌, ◌*◌, ◌≡◌, true, false, ◌≤◌, ◌<◌, [], take, if◌then◌else◌}
use Rattle.git_server.specs.Machine.ServerCalls.{Goes, GoesUnread, KeepsToMemory, StopsInTime}
use Rattle.git_pkt.specs.Machine.Credit.{Pays, credit_of}
use Rattle.git_server.specs.Machine.Server.{reader_of, wants_input, outcome_of}
use Rattle.git_server.proofs.server.Server.feed.Given as goal

-- what was used so far was used well, and a server that does not wait for bytes, or got none, is as it was
abbrev pub invariant-loop-used : goal.invariant-loop-used
invariant-loop-used g l = record {
  within : l.used ≤ length l.chunk;
  goes : Goes g.R.Repo.state (take l.used l.chunk) [] l.fn.self l.self;
  unread : GoesUnread g.R.Repo.state (take l.used l.chunk) [] l.fn.self l.self;
  moves : wants_input l.fn.self ≡ true → (wants_input l.self ≡ true) ⊎ (0 < l.used ⊎ IsSome (outcome_of l.self));
  memory : KeepsToMemory g.R.Repo.state g.A.Memory.refuses l.fn.self l.self;
  in_time : StopsInTime g.R.Repo.state l.fn.self l.used l.chunk (outcome_of l.self);
  stays : wants_input l.fn.self ≡ false → (l.used ≡ 0) × (l.self ≡ l.fn.self);
  nothing : length l.chunk ≡ 0 → (l.used ≡ 0) × (l.self ≡ l.fn.self);
  cost : Pays l.used l.fn.steps l.steps (credit_of (reader_of l.fn.self)) (credit_of (reader_of l.self));
  paid : wants_input l.self ≡ true → l.used < length l.chunk
      → l.steps + credit_of (reader_of l.self) ≤ l.fn.steps + credit_of (reader_of l.fn.self) + 64 * l.used;
}

-- a step uses bytes, or stops
abbrev pub decreases-loop-used : goal.decreases-loop-used
decreases-loop-used g l = (length l.chunk - l.used) + (if wants_input l.self then 1 else 0)
