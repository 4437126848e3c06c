use Rattle.std.proofs.Common.{rules, ◌≡◌, ◌++◌, Some, false, true, refl, sym, ◌∙◌}
use Rattle.git_pkt.specs.Machine.Recorded.{inner_of}
use Rattle.git_pkt.specs.declared.fault.RunFault.TheVariants.{WriteFault}
use Rattle.git_pkt.specs.Streams.{flow}
use Rattle.git_pkt.proofs.EngineLemmas.{at_fault, written_nothing, written_whole}
use Rattle.git_client.specs.Machine.Client.{wants_input}
use Rattle.git_client.specs.Machine.RunSteps.{ReceivesChunkTo}
use Rattle.git_client.specs.Transcript.{lines_of}
use Rattle.git_client.specs.Machine.Turns.{values_of}
use Rattle.git_client.proofs.Phases.{sound_where_expected}
use Rattle.git_client.proofs.ReceivingSteps.{received_all, received_failed, received_failed_unflushed}
use Rattle.git_client.proofs.ReceivingSteps.{received_event, received_event_front, received_sound, received_some, received_to_question, used_within}
use Rattle.git_client.proofs.WaitingLines.{broken_by, broken_unwritten, fault_written, flushed_out, no_lines_yet}
use Rattle.git_client.proofs.WaitingLines.{chunk_unwritten, chunk_written, put_front, put_out, put_then}
use Rattle.git_client.proofs.receiving.receive_chunk.Goals as goal

pub loop-used-init : goal.loop-used-init
loop-used-init g c = record {
  within = search rules;
  sound = sound_where_expected _ c.requires.waits;
  stands = λ none. let waits = c.requires.waits in absurd (cc);
  moves = λ none. let waits = c.requires.waits in absurd (cc);
  out_stays = search rules;
  pack_stays = search rules;
  progress_stays = search rules;
  arrives = no_lines_yet _ _ _ _ _ _ c.requires.waits c.new-lines.ensures;
}

pub returns-in_err-drain-in-More-clause-arrived : goal.returns-in_err-drain-in-More-clause-arrived
returns-in_err-drain-in-More-clause-arrived g c =
    let waits : wants_input c.loop-used.client ≡ true = sym c.wants_input.ensures.value ∙ c.if-wants_input.true in
    let named : c.in_err-drain-in-More.field-0.0 ≡ WriteFault = c.in_err-drain-in-More.ensures.sends.fault in
    let chunk = received_all c.args.chunk.now c.loop-used.used waits c.loop-used.invariant.within c.loop-used.invariant.arrives.bytes
    c.feed-arrived.follows.holds-at-none.0 c.in-More.is in
    at_fault c.from_residual.result _ WriteFault (λ result. ReceivesChunkTo result c.args.client.now c.feed-arrived.follows.lender-at-none c.args.counts.now
    c.loop-used.counts c.args.chunk.now
    (flow (g.O.Write.contents (inner_of c.args.out.now)) (g.O.Write.contents (inner_of c.drain.new.out)))
    (flow (g.P.Output.contents c.args.pack.now) (g.P.Output.contents c.loop-used.pack))
    (flow (g.E.Output.contents c.args.progress.now) (g.E.Output.contents c.loop-used.progress))) named c.from_residual.ensures.1
    (chunk_unwritten _ chunk.arrives chunk.sound (put_out true _ c.loop-used.invariant.arrives.put c.in_err-drain-in-More.ensures.sends.err))

pub returns-in-More-clause-arrived : goal.returns-in-More-clause-arrived
returns-in-More-clause-arrived g c =
    let waits : wants_input c.loop-used.client ≡ true = sym c.wants_input.ensures.value ∙ c.if-wants_input.true in
    chunk_written (received_all c.args.chunk.now c.loop-used.used waits c.loop-used.invariant.within c.loop-used.invariant.arrives.bytes
    c.feed-arrived.follows.holds-at-none.0 c.in-More.is)
    (put_out false _ c.loop-used.invariant.arrives.put c.in_ok-drain-in-More.ensures.sends.ok)

pub returns-in_err-drain-in-Failed-clause-arrived : goal.returns-in_err-drain-in-Failed-clause-arrived
returns-in_err-drain-in-Failed-clause-arrived g c =
    let waits : wants_input c.loop-used.client ≡ true = sym c.wants_input.ensures.value ∙ c.if-wants_input.true in
    let named : c.in_err-drain-in-Failed.field-0.0 ≡ WriteFault = c.in_err-drain-in-Failed.ensures.sends.fault in
    let so_far = c.loop-used.invariant.arrives in
    at_fault c.from_residual-in_err-drain-in-Failed.result _ WriteFault (λ result. ReceivesChunkTo result c.args.client.now
    c.feed-arrived.follows.lender-at-none c.args.counts.now
    c.loop-used.counts c.args.chunk.now
    (flow (g.O.Write.contents (inner_of c.args.out.now)) (g.O.Write.contents (inner_of c.drain-in-Failed.new.out)))
    (flow (g.P.Output.contents c.args.pack.now) (g.P.Output.contents c.loop-used.pack))
    (flow (g.E.Output.contents c.args.progress.now) (g.E.Output.contents c.loop-used.progress))) named c.from_residual-in_err-drain-in-Failed.ensures.1
    (broken_unwritten (received_failed_unflushed c.args.chunk.now c.loop-used.used waits c.loop-used.invariant.within c.loop-used.invariant.arrives.bytes
    c.feed-arrived.follows.holds-at-none.0
    _ (Some so_far.lines) _ _ c.in-Failed.is (written_nothing (Some so_far.lines)) (written_nothing _) (written_nothing _))
    (put_out true _ so_far.put c.in_err-drain-in-Failed.ensures.sends.err))

pub returns-in_err-flush_all-in-Failed-clause-arrived : goal.returns-in_err-flush_all-in-Failed-clause-arrived
returns-in_err-flush_all-in-Failed-clause-arrived g c =
    let waits : wants_input c.loop-used.client ≡ true = sym c.wants_input.ensures.value ∙ c.if-wants_input.true in
    let named : c.in_err-flush_all-in-Failed.field-0.0 ≡ WriteFault = search rules in
    let so_far = c.loop-used.invariant.arrives in
    at_fault c.from_residual-in_err-flush_all-in-Failed.result _ WriteFault (λ result. ReceivesChunkTo result c.args.client.now
    c.feed-arrived.follows.lender-at-none c.args.counts.now
    c.loop-used.counts c.args.chunk.now
    (flow (g.O.Write.contents (inner_of c.args.out.now)) (g.O.Write.contents (inner_of c.flush_all.new.out)))
    (flow (g.P.Output.contents c.args.pack.now) (g.P.Output.contents c.flush_all.new.pack))
    (flow (g.E.Output.contents c.args.progress.now) (g.E.Output.contents c.flush_all.new.progress))) named
    c.from_residual-in_err-flush_all-in-Failed.ensures.1
    (broken_unwritten (received_failed_unflushed c.args.chunk.now c.loop-used.used waits c.loop-used.invariant.within c.loop-used.invariant.arrives.bytes
    c.feed-arrived.follows.holds-at-none.0
    _ (Some so_far.lines) _ _ c.in-Failed.is (written_nothing (Some so_far.lines)) c.flush_all.ensures.sent c.flush_all.ensures.reported)
    (written_whole true _ _ (flushed_out _ _ so_far.put c.in_ok-drain-in-Failed.ensures.sends.ok c.flush_all.ensures.announced)))

pub returns-in-Failed-clause-arrived : goal.returns-in-Failed-clause-arrived
returns-in-Failed-clause-arrived g c =
    let waits : wants_input c.loop-used.client ≡ true = sym c.wants_input.ensures.value ∙ c.if-wants_input.true in
    let so_far = c.loop-used.invariant.arrives in
    fault_written (received_failed c.args.chunk.now c.loop-used.used waits c.loop-used.invariant.within c.loop-used.invariant.arrives.bytes
    c.feed-arrived.follows.holds-at-none.0
    _ (Some so_far.lines) _ _ c.in-Failed.is (written_nothing (Some so_far.lines)) c.flush_all.ensures.sent c.flush_all.ensures.reported)
    (flushed_out _ _ so_far.put c.in_ok-drain-in-Failed.ensures.sends.ok c.flush_all.ensures.announced)

pub returns-in_err-announce-in-Event-clause-arrived : goal.returns-in_err-announce-in-Event-clause-arrived
returns-in_err-announce-in-Event-clause-arrived g c =
    let waits : wants_input c.loop-used.client ≡ true = sym c.wants_input.ensures.value ∙ c.if-wants_input.true in
    let named : c.in_err-announce-in-Event.field-0.0 ≡ WriteFault = search rules in
    let so_far = c.loop-used.invariant.arrives in
    let line = lines_of (values_of c.in-Event.event) c.loop-used.counts.pack c.loop-used.counts.progress in
    at_fault c.from_residual-in_err-announce-in-Event.result _ WriteFault (λ result. ReceivesChunkTo result c.args.client.now
    c.feed-arrived.follows.lender-at-none c.args.counts.now
    c.announce.new.counts c.args.chunk.now
    (flow (g.O.Write.contents (inner_of c.args.out.now)) (g.O.Write.contents (inner_of c.announce.new.out)))
    (flow (g.P.Output.contents c.args.pack.now) (g.P.Output.contents c.announce.new.pack))
    (flow (g.E.Output.contents c.args.progress.now) (g.E.Output.contents c.announce.new.progress))) named c.from_residual-in_err-announce-in-Event.ensures.1
    (broken_unwritten (received_event_front c.args.chunk.now c.loop-used.used waits c.loop-used.invariant.within c.loop-used.invariant.arrives.bytes
    c.feed-arrived.follows.holds-at-none.0
    _ c.in-Event.is c.announce.result _ _ (Some (so_far.lines ++ line)) _ _ c.in_err-announce-in-Event.was named c.announce.ensures.counts
    (written_whole _ _ _ refl) c.announce.ensures.sent c.announce.ensures.reported)
    (put_front (broken_by c.in_err-announce-in-Event.was named (put_then {v = line} so_far.put c.announce.ensures.announced))))

pub loop-used-preserved : goal.loop-used-preserved
loop-used-preserved g c =
    let waits : wants_input c.loop-used.client ≡ true = sym c.wants_input.ensures.value ∙ c.if-wants_input.true in
    let so_far = c.loop-used.invariant.arrives in
    let line = lines_of (values_of c.in-Event.event) c.loop-used.counts.pack c.loop-used.counts.progress in
    record {
      within = used_within c.args.chunk.now c.loop-used.used waits c.loop-used.invariant.within c.loop-used.invariant.arrives.bytes
          c.feed-arrived.follows.holds-at-none.0 c.feed-arrived.ensures.used;
      sound = received_sound c.args.chunk.now c.loop-used.used waits c.loop-used.invariant.within c.loop-used.invariant.arrives.bytes
          c.feed-arrived.follows.holds-at-none.0 _ c.in-Event.is;
      stands = received_to_question c.args.chunk.now c.loop-used.used waits c.loop-used.invariant.within c.loop-used.invariant.arrives.bytes
          c.feed-arrived.follows.holds-at-none.0 _ c.in-Event.is;
      moves = λ none. received_some c.args.chunk.now c.loop-used.used waits c.loop-used.invariant.within c.loop-used.invariant.arrives.bytes
          c.feed-arrived.follows.holds-at-none.0 _ c.in-Event.is;
      out_stays = search rules;
      pack_stays = search rules;
      progress_stays = search rules;
      arrives = record {
        lines = so_far.lines ++ line;
        bytes = received_event c.args.chunk.now c.loop-used.used waits c.loop-used.invariant.within c.loop-used.invariant.arrives.bytes
            c.feed-arrived.follows.holds-at-none.0 _ c.in-Event.is false _ (Some (so_far.lines ++ line)) _ _
            c.in_ok-announce-in-Event.ensures.counts refl c.in_ok-announce-in-Event.ensures.sent c.in_ok-announce-in-Event.ensures.reported;
        put = put_then {broken = false} {v = line} so_far.put c.in_ok-announce-in-Event.ensures.announced;
      };
    }

pub returns-in_err-drain-clause-arrived : goal.returns-in_err-drain-clause-arrived
returns-in_err-drain-clause-arrived g c =
    let named : c.in_err-drain.field-0.0 ≡ WriteFault = c.in_err-drain.ensures.sends.fault in
    let so_far = c.loop-used.invariant.arrives in
    at_fault c.from_residual-in_err-drain.result _ WriteFault (λ result. ReceivesChunkTo result c.args.client.now c.loop-used.client c.args.counts.now
    c.loop-used.counts c.args.chunk.now
    (flow (g.O.Write.contents (inner_of c.args.out.now)) (g.O.Write.contents (inner_of c.drain-2.new.out)))
    (flow (g.P.Output.contents c.args.pack.now) (g.P.Output.contents c.loop-used.pack))
    (flow (g.E.Output.contents c.args.progress.now) (g.E.Output.contents c.loop-used.progress))) named c.from_residual-in_err-drain.ensures.1
    (chunk_unwritten _ so_far.bytes c.loop-used.invariant.sound (put_out true _ so_far.put c.in_err-drain.ensures.sends.err))

pub returns-clause-arrived : goal.returns-clause-arrived
returns-clause-arrived g c =
    let so_far = c.loop-used.invariant.arrives in
    chunk_written (record {
      arrives = so_far.bytes;
      within = c.loop-used.invariant.within;
      all = search rules;
      sound = c.loop-used.invariant.sound;
      whole = c.loop-used.invariant.stands;
      moves = search rules;
    }) (put_out false _ so_far.put c.in_ok-drain.ensures.sends.ok)
