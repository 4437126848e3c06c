use Rattle.git_server.proofs.Machines.{lent_front}
use Rattle.git_server.proofs.machine.ServerMachine.part.Goals as goal

pub packet-requires : goal.packet-requires
packet-requires g c = lent_front c.args.self.now c.requires

pub returns : goal.returns
returns g c = λ bytes (packet, spells, starts). c.packet.ensures.front packet bytes spells starts
