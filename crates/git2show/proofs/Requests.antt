-- A loop over the requests of an input.
use Rattle.std.proofs.Common.{◌≡◌, Bool, true, false, IsSome, refl}
use Rattle.git_server.specs.Machine.Moved.{waits_open}
use Rattle.git_server.specs.Machine.Server.{outcome_of, wants_input}
use Rattle.git_server.specs.Machine.ServerCalls.{IsAfterPull}
use Rattle.git_server.specs.declared.server.Server.{Server}
use Rattle.git_server.proofs.Machines.{stays_ended}

-- a server that still waits after its packets were written has an input that has not ended
pub still_open : {R A : Type 0} (old new : Server R A) (ended : Bool) → (ended ≡ true → IsSome (outcome_of old))
    → IsAfterPull (outcome_of old) (outcome_of new) → wants_input new ≡ true → ended ≡ false
still_open old new true known after waits = absurd (waits_open new waits (stays_ended (outcome_of old) (outcome_of new) after (known refl)))
still_open old new false known after waits = refl
