use Rattle.std.proofs.Common.{Result, true, false, rules}
use Rattle.git_pkt.specs.declared.fault.RunFault.{RunFault}
use Rattle.git_pkt.specs.Streams.{flow, is_broken}
use Rattle.git_client.specs.Machine.RunSteps.{SendsPackets}
use Rattle.git_pkt.proofs.EngineLemmas.{at_fault}
use Rattle.git_client.proofs.SendingSteps.{conveys_none_yet, conveys_packet, conveys_front, conveys_all}
use Rattle.git_client.proofs.conversing.send_all.Goals as goal

pub loop-packet-init : goal.loop-packet-init
loop-packet-init g c = record { sound = search rules; conveys = conveys_none_yet _ _ c.requires.speaks c.requires.sound }

pub loop-packet-preserved : goal.loop-packet-preserved
loop-packet-preserved g c = record {
  sound = search rules;
  conveys = conveys_packet false _ _ _ _ _ _ _ c.loop-packet.invariant.conveys c.pull.follows.holds-at-none c.in-Packet.packet c.in-Packet.is (search rules);
}

pub returns-in_err-send-clause-conveys : goal.returns-in_err-send-clause-conveys
returns-in_err-send-clause-conveys g c =
    let contents = g.W.Output.contents in
    at_fault c.from_residual.result _ _
    (λ (result : Result (Unit {0}) RunFault). SendsPackets (is_broken result) c.args.client.now c.pull.follows.lender-at-none
    (flow (contents c.args.writer.now) (contents c.send.new.self)))
    c.in_err-send.ensures.fault c.from_residual.ensures.1
    (conveys_front _ _ _ (conveys_packet true _ _ _ _ _ _ _ c.loop-packet.invariant.conveys c.pull.follows.holds-at-none c.in-Packet.packet c.in-Packet.is
    c.in_err-send.ensures.err))

pub returns-clause-conveys : goal.returns-clause-conveys
returns-clause-conveys g c =
    conveys_all _ _ _ _ _ _ _ _ c.loop-packet.invariant.conveys c.pull.follows.holds-at-none c.in_default.not-Packet c.flush.ensures.bytes

pub returns-clause-failed : goal.returns-clause-failed
returns-clause-failed g c = cc
