use Rattle.std.proofs.Common.{rules, ◌≡◌, true, false, sym, ◌∙◌, subst}
use Rattle.std.proofs.lemmas.Result.{err_from_is_err_and}
use Rattle.std.proofs.lemmas.Bool.{or_parts}
use Rattle.git_client.specs.Machine.Client.{wants_input}
use Rattle.git_server.specs.Machine.ServerCalls.{AnnouncesPulled}
use Rattle.git_server.specs.declared.server.Pulled.{Pulled}
use Rattle.git2show_lib.proofs.PlayMeeting.{receiving_begins, receiving_on, received_out, meeting_stopped, spent_ended, spent_waiting}
use Rattle.git2show_lib.proofs.playing.receive_server.Goals as goal

pub loop-server-init : goal.loop-server-init
loop-server-init g c = record {
  sound_out = search rules;
  sound_pack = search rules;
  arrives = receiving_begins g.R.Repo.state _ _ _ _ _ c.requires.waits;
}

pub loop-server-smaller : goal.loop-server-smaller
loop-server-smaller g c =
    let announces = subst (λ (p : Pulled). AnnouncesPulled g.R.Repo.state c.loop-server.server p c.pull.follows.lender-at-none) c.in-Packet.is
    c.pull.follows.holds-at-none.announces in
    announces.3

pub loop-server-preserved : goal.loop-server-preserved
loop-server-preserved g c =
    let at = c.loop-server in
    let waits : wants_input at.client ≡ true = sym c.wants_input.ensures.value ∙ c.loop-server-test.true in
    record {
      sound_out = (or_parts _ _ c.in_ok-receive_next_packet-in-Packet.ensures.announced.1).0;
      sound_pack = (or_parts _ _ c.in_ok-receive_next_packet-in-Packet.ensures.announced.1).1;
      arrives = receiving_on g.R.Repo.state at.invariant.arrives waits c.pull.follows.holds-at-none c.in-Packet.is _
          c.in_ok-receive_next_packet-in-Packet.ensures.arrived;
    }

pub returns-in_err-receive_next_packet-in-Packet-clause-arrived :
    goal.returns-in_err-receive_next_packet-in-Packet-clause-arrived
returns-in_err-receive_next_packet-in-Packet-clause-arrived g c =
    let at = c.loop-server in
    let waits : wants_input at.client ≡ true = sym c.wants_input.ensures.value ∙ c.loop-server-test.true in
    let met = err_from_is_err_and c.from_residual.result c.from_residual.ensures.1 in
    rw (met.1, met.2)
    (meeting_stopped g.R.Repo.state at.invariant.arrives waits c.pull.follows.holds-at-none c.in-Packet.is c.in_err-receive_next_packet-in-Packet.field-0.0
    _ _ _ _
    c.in_err-receive_next_packet-in-Packet.ensures.arrived)

pub returns-in-NeedInput-clause-arrived : goal.returns-in-NeedInput-clause-arrived
returns-in-NeedInput-clause-arrived g c =
    let at = c.loop-server in
    let (same, spent) = spent_waiting g.R.Repo.state at.server c.pull.follows.lender-at-none c.pull.result c.pull.follows.holds-at-none c.in-NeedInput.is in
    rw same (received_out g.R.Repo.state _ _ _ _ _ _ _ _ at.invariant.arrives (λ _. spent))

pub returns-in-Finished-clause-arrived : goal.returns-in-Finished-clause-arrived
returns-in-Finished-clause-arrived g c =
    let at = c.loop-server in
    let (same, spent) =
    spent_ended g.R.Repo.state at.server c.pull.follows.lender-at-none c.pull.result _ c.pull.follows.holds-at-none c.in-Finished.is in
    rw same (received_out g.R.Repo.state _ _ _ _ _ _ _ _ at.invariant.arrives (λ _. spent))

pub returns-clause-arrived : goal.returns-clause-arrived
returns-clause-arrived g c =
    let at = c.loop-server in
    received_out g.R.Repo.state _ _ _ _ _ _ _ _ at.invariant.arrives
    (λ wants. let no : wants_input at.client ≡ false = sym c.wants_input.ensures.value ∙ c.loop-server-test.false in absurd (cc))
