use Rattle.std.proofs.Common.{refl, ◌∙◌, sym}
use Rattle.git_pkt.specs.Packets.{spelling_of}
use Rattle.git_pkt.proofs.Written.{spells_written}
use Rattle.git_server.specs.Machine.ServerCalls.{IsPulled}
use Rattle.git_server.specs.Machine.WrittenPackets.{IsAtFront}
use Rattle.git_server.specs.declared.server.Pulled.TheVariants.{Packet}
use Rattle.git_server.proofs.FullParts.{ended_fills, filled_so}
use Rattle.git_server.proofs.SessionLaws.{ends_now}
use Rattle.git_server.proofs.WrittenHolds.{begins, pulls_front}
use Rattle.git_server.proofs.server.Server.pull.Goals as goal

pub returns-in-Finished : goal.returns-in-Finished
returns-in-Finished g c =
    let old = c.args.self.now in
    let outcome = c.in-Finished.outcome in
    let ends = sym c.turn.ensures ∙ c.in-Finished.is in (
      (refl, (λ _. tt), ends_now g.R.Repo.state old outcome ends),
      record { after = tt; full = ended_fills (g.R.Repo.read_gives old.repo) _ old.phase outcome ends },
    )

pub packet-requires : goal.packet-requires
packet-requires g c = begins g.R.Repo.state c.args.self.now c.give.new.self c.give.ensures.gives

pub returns-in-Packet : goal.returns-in-Packet
returns-in-Packet g c =
    let old = c.args.self.now in
    let gives = c.give.ensures.gives in
    let is = c.packet.ensures.front gives.packet (spelling_of gives.packet) (spells_written gives.packet gives.fits) gives.held in (
      (refl, (λ _. tt), pulls_front g.R.Repo.state old c.give.new.self gives c.packet.result c.packet.ensures.fits is),
      record {
        after = tt;
        full = filled_so (IsAtFront c.give.new.self.reader) (IsPulled (Packet c.packet.result))
            (λ packet fits starts. c.packet.ensures.front packet (spelling_of packet) (spells_written packet fits) starts)
            (g.R.Repo.read_gives old.repo) old.phase c.give.ensures.full;
      },
    )
