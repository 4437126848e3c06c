use Rattle.std.proofs.Common.{refl}
use Rattle.git_client.proofs.ReceiverCalls.{begins}
use Rattle.git_client.proofs.receiver.Receiver.new.Goals as goal

pub returns-clause-begun : goal.returns-clause-begun
returns-clause-begun g c = begins _ _ _ refl refl c.requires c.clear.ensures refl refl

pub returns-clause-waits : goal.returns-clause-waits
returns-clause-waits g c = record { expected = c.requires; given = record { lines = c.clear.ensures; unlent = refl; passed = refl } }
