-- The steps so far gave nothing, and there are fewer left.
use Rattle.std.proofs.Common.{◌≡◌, ◌≤◌, [], true}
use Rattle.git_store.specs.Hosted.{left_of, server_of, store_of}
use Rattle.git_host.specs.HostStates.{is_over}
use Rattle.git_store.specs.StoreMoves.{Reaches}
use Rattle.git_store.proofs.hosted.Hosted.go_on.Given as goal

abbrev pub invariant-steps : goal.invariant-steps
invariant-steps g l = record {
  fewer : left_of l.self ≤ left_of l.fn.self;
  reaches : Reaches g.S.Store.begins g.S.Store.replies [] [] (server_of l.fn.self) (store_of l.fn.self) (server_of l.self) (store_of l.self);
  over : is_over (server_of l.fn.self) ≡ true → is_over (server_of l.self) ≡ true;
}

abbrev pub decreases-steps : goal.decreases-steps
decreases-steps g l = left_of l.self
