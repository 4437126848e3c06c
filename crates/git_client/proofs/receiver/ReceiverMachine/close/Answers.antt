use Rattle.std.proofs.Common.{refl}
use Rattle.git_client.proofs.Phases.{not_expected_where_failed}
use Rattle.git_client.proofs.ReceiverCalls.{closes}
use Rattle.git_client.proofs.receiver.ReceiverMachine.close.Goals as goal

pub returns-clause-reaches : goal.returns-clause-reaches
returns-clause-reaches g c =
    (closes c.args.self.now c.requires.1 _ c.args.from _ c.requires.0 c.close-fault.ensures.carries c.close-fault.ensures.announced, refl)

pub returns-clause-ended : goal.returns-clause-ended
returns-clause-ended g c = not_expected_where_failed _ _ c.close-fault.ensures.announced
