use Rattle.std.proofs.Common.{length, ◌-◌, ◌+◌, ◌*◌, ◌≡◌, ◌++◌, true, false, ◌≤◌, ◌<◌, ℕ, List, take}
use Rattle.git_pkt.specs.Machine.Credit.{Pays}
use Rattle.git_msg.specs.Asked.{Asked}
use Rattle.git_msg.specs.Memory.{FaultNeedsRefusal}
use Rattle.git_msg.specs.Machine.RequestStreams.{HasRead, credit_of, fault_of, offer_of, limit_of, wants_input}
use Rattle.git_msg.proofs.streams.RequestStream.feed.Given as goal

-- the bytes used so far completed nothing, and input is needed if it was needed before
abbrev pub invariant-loop-used : goal.invariant-loop-used
invariant-loop-used g l = record {
  within : l.used ≤ length l.chunk;
  reads : (used : List ℕ) (asked : List Asked) → HasRead used asked l.fn.self → HasRead (used ++ take l.used l.chunk) asked l.self;
  same : wants_input l.self ≡ wants_input l.fn.self;
  nothing : wants_input l.fn.self ≡ false → (l.used ≡ 0) × (l.self ≡ l.fn.self);
  memory : FaultNeedsRefusal g.A.Memory.refuses (limit_of l.fn.self) (fault_of l.fn.self)
      → FaultNeedsRefusal g.A.Memory.refuses (limit_of l.fn.self) (fault_of l.self);
  offer : offer_of l.self ≡ offer_of l.fn.self;
  limit : limit_of l.self ≡ limit_of l.fn.self;
  cost : Pays l.used l.fn.steps l.steps (credit_of l.fn.self) (credit_of l.self);
  paid : wants_input l.self ≡ true → l.used < length l.chunk → l.steps + credit_of l.self ≤ l.fn.steps + credit_of l.fn.self + 64 * l.used;
}

-- a step uses bytes or stops
abbrev pub decreases-loop-used : goal.decreases-loop-used
decreases-loop-used g l = length l.chunk - l.used
