use Rattle.std.proofs.Common.{◌≡◌, true, false, refl, sym, ap}
use Rattle.git_client.specs.Machine.Turns.{is_ready}
use Rattle.git_client.specs.Machine.Client.{phase_of}
use Rattle.git_client.specs.declared.phase.Phase.{Phase}
use Rattle.git_client.specs.declared.phase.Phase.TheVariants.{Ready}
use Rattle.git_client.proofs.CanAsk.{can_ask_announces}
use Rattle.git_client.proofs.client.Client.can_ask.Goals as goal

not_ready : (phase : Phase) → (phase ≡ Ready → ⊥) → is_ready phase ≡ false
not_ready Ready h = absurd (h refl)
not_ready phase h = refl

pub returns-in-Ready-clause-turn : goal.returns-in-Ready-clause-turn
returns-in-Ready-clause-turn g c = can_ask_announces c.args.self.now true (ap is_ready c.in-Ready.is)

pub returns-in_default : goal.returns-in_default
returns-in_default g c =
    let waits = not_ready (phase_of c.args.self.now) c.in_default.not-Ready in
    record { value = sym waits; turn = can_ask_announces c.args.self.now false waits }
