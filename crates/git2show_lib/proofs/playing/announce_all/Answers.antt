use Rattle.git2show_lib.proofs.PlayAsking.{announces_none, announces_packet, announces_all}
use Rattle.git2show_lib.proofs.playing.announce_all.Goals as goal

pub loop-packet-init : goal.loop-packet-init
loop-packet-init g c = record { announces = announces_none g.R.Repo.state _ _ c.requires.speaks c.requires.sound }

pub loop-packet-preserved : goal.loop-packet-preserved
loop-packet-preserved g c = record {
  announces = announces_packet g.R.Repo.state _ _ _ _ _ _ c.loop-packet.invariant.announces c.pull.follows.holds-at-none _ c.in-Packet.packet c.in-Packet.is
      c.announce_packet.ensures.announced;
}

pub returns : goal.returns
returns g c = record {
  announced = announces_all g.R.Repo.state _ _ _ _ _ _ c.loop-packet.invariant.announces c.pull.follows.holds-at-none c.in_default.not-Packet;
}
