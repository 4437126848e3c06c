use Rattle.std.proofs.Common.{length, ◌-◌, ◌≡◌, ◌++◌, ◌≤◌, ℕ, List, take}
use Rattle.git2show_lib.specs.OtherLines.{Question}
use Rattle.git2show_lib.specs.Machine.JudgedRequests.{HasRead, IsReady, advertised_by, limit_of}
use Rattle.git2show_lib.proofs.judged_requests.JudgedRequests.feed.Given as goal

-- what was used so far brought nothing whole, and bytes are wanted on
abbrev pub invariant-loop-used : goal.invariant-loop-used
invariant-loop-used g l = record {
  within : l.used ≤ length l.chunk;
  reads : (used : List ℕ) (asked : List Question) → HasRead used asked l.fn.self → HasRead (used ++ take l.used l.chunk) asked l.self;
  ready : IsReady l.self;
  by : advertised_by l.self ≡ advertised_by l.fn.self;
  limit : limit_of l.self ≡ limit_of l.fn.self;
}

-- a step uses bytes, or stops
abbrev pub decreases-loop-used : goal.decreases-loop-used
decreases-loop-used g l = length l.chunk - l.used
