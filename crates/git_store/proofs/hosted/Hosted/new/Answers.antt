use Rattle.std.proofs.Common.{[], false}
use Rattle.git_store.proofs.hosted.Hosted.new.Goals as goal

pub invariant_of-result : goal.invariant_of-result
invariant_of-result g c = record { session = ∣ record { s = _; used = []; over = false; facts = []; given = []; hosts = c.new.ensures.hosts } ∣₁ }
