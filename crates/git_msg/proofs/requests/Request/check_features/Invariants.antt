use Rattle.std.proofs.Common.{◌≡◌, ◌-◌, true, length, take}
use Rattle.std.specs.Prelude.{All}
use Rattle.git_msg.specs.Arguments.{is_offered}
use Rattle.git_msg.specs.Asked.{arguments_in}
use Rattle.git_msg.specs.Machine.HeldRequest.{asked_of}
use Rattle.git_msg.proofs.requests.Request.check_features.Given as goal

abbrev pub invariant-arguments : goal.invariant-arguments
invariant-arguments g l = All (λ arg. is_offered l.offer arg ≡ true) (take l.i (arguments_in (asked_of l.self)))

abbrev pub decreases-arguments : goal.decreases-arguments
decreases-arguments g l = length (arguments_in (asked_of l.self)) - l.i
