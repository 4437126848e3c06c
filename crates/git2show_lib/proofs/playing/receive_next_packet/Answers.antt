use Rattle.std.proofs.Common.{rules, arith, ◌≡◌, ◌<◌, ◌≤◌, true, false, length, sym, ◌∙◌}
use Rattle.std.proofs.lemmas.Bool.{or_parts}
use Rattle.std.proofs.lemmas.Result.{err_from_is_err_and}
use Rattle.git_client.specs.Machine.Client.{wants_input}
use Rattle.git_client.proofs.ReceivedBytes.{nothing_received}
use Rattle.git_client.proofs.Phases.{sound_where_expected}
use Rattle.git2show_lib.proofs.PlayReceiving.{received_on, receiving_ended}
use Rattle.git2show_lib.proofs.PlayAnnouncing.{chunk_fits, chunk_some}
use Rattle.git2show_lib.proofs.playing.receive_next_packet.Goals as goal

pub loop-used-init : goal.loop-used-init
loop-used-init g c = record {
  within = search rules;
  sound = sound_where_expected _ c.requires.waits;
  stands = λ none. let waits = c.requires.waits in absurd (cc);
  moves = λ none. let waits = c.requires.waits in absurd (cc);
  out_stays = search rules;
  pack_stays = search rules;
  arrives = nothing_received _ _ _ _ _ c.requires.waits;
}

pub loop-used-smaller : goal.loop-used-smaller
loop-used-smaller g c =
    let at = c.loop-used in
    let less : at.used < length c.args.packet.now = search rules in
    let some = chunk_some c.args.packet.now at.used c.min.result c.args.cut less c.requires.cut c.min.ensures in
    let step = c.in_ok-used.ensures.arrived in
    let fits = chunk_fits c.args.packet.now at.used c.min.result _ at.invariant.within step.within in
    omega (arith, fits, less, step.moves some)

pub returns-in_err-used-clause-arrived : goal.returns-in_err-used-clause-arrived
returns-in_err-used-clause-arrived g c =
    let at = c.loop-used in
    let waits : wants_input at.client ≡ true = search rules in
    let met = err_from_is_err_and c.from_residual.result c.from_residual.ensures.1 in
    rw (met.1, met.2)
    (receiving_ended c.args.packet.now at.used c.min.result at.invariant.within c.args.client.now at.client c.receive_chunk.new.client c.args.counts.now
    at.counts c.receive_chunk.new.counts waits at.invariant.arrives _ _ c.in_err-used.field-0.0 c.in_err-used.ensures.arrived)

pub loop-used-preserved : goal.loop-used-preserved
loop-used-preserved g c =
    let at = c.loop-used in
    let less : at.used < length c.args.packet.now = search rules in
    let some = chunk_some c.args.packet.now at.used c.min.result c.args.cut less c.requires.cut c.min.ensures in
    let step = c.in_ok-used.ensures.arrived in
    let waits : wants_input at.client ≡ true = search rules in
    record {
      within = chunk_fits c.args.packet.now at.used c.min.result _ at.invariant.within step.within;
      sound = step.sound;
      stands = step.whole;
      moves = λ none. omega (arith, step.moves some);
      out_stays = (or_parts _ _ c.in_ok-used.ensures.announced.1).0;
      pack_stays = (or_parts _ _ (or_parts _ _ c.in_ok-used.ensures.announced.1).1).0;
      arrives = received_on c.args.packet.now at.used c.min.result at.invariant.within c.args.client.now at.client c.receive_chunk.new.client c.args.counts.now
          at.counts c.receive_chunk.new.counts waits at.invariant.arrives false _ step.within step.arrives;
    }

pub returns-else-wants_input-clause-arrived : goal.returns-else-wants_input-clause-arrived
returns-else-wants_input-clause-arrived g c =
    let at = c.loop-used.invariant in
    let stops : wants_input c.loop-used.client ≡ false = sym c.wants_input.ensures.value ∙ c.if-wants_input.false in
    record {
      arrives = at.arrives;
      within = at.within;
      all = λ wants. absurd (cc);
      sound = at.sound;
      whole = at.stands;
      moves = λ some. at.moves stops;
    }

pub returns-after-loop-used-clause-arrived : goal.returns-after-loop-used-clause-arrived
returns-after-loop-used-clause-arrived g c =
    let at = c.loop-used.invariant in
    let all : length c.args.packet.now ≤ c.loop-used.used = search rules in
    record {
      arrives = at.arrives;
      within = at.within;
      all = λ wants. omega (arith, all, at.within);
      sound = at.sound;
      whole = at.stands;
      moves = λ some. omega (arith, all, some);
    }
