use Rattle.std.proofs.Common.{sym, subst, List, ℕ}
use Rattle.std.specs.Io.{StartsWith}
use Rattle.git_server.proofs.server.Server.packet.Goals as goal

pub returns-clause-front : goal.returns-clause-front
returns-clause-front g c packet bytes spells starts =
    c.front_packet.ensures.front packet bytes spells (subst (λ (l : List ℕ). StartsWith l bytes) (sym c.hold.ensures.value) starts)
