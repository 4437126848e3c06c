use Rattle.std.proofs.Common.{rules, true, false, refl, ℕ, []}
use Rattle.git_pkt.specs.declared.fault.RunFault.TheVariants.{ReadFault, WriteFault}
use Rattle.git_loop.proofs.RunLemmas.{failed_alone, flushed_at, known_first, known_read, known_so, once_read, ran_at, reads_at, reads_no_more, reads_once_more}
use Rattle.git_loop.proofs.RunLemmas.{reads_none, same_calls, same_reads, sound_read, sound_so, spent_first, spent_read, spent_so, went_flushed}
use Rattle.git_loop.proofs.RunLemmas.{went_then}
use Rattle.git_loop.proofs.running.run_streams.Goals as goal

-- ---- before the first read

pub returns-in_err-next-clause-ran : goal.returns-in_err-next-clause-ran
returns-in_err-next-clause-ran g c =
    ran_at WriteFault c.in_err-next.ensures.fault c.from_residual.ensures.1 (record {
      went = c.in_err-next.ensures.front;
      ends = tt;
      failed = (sound_so c.in_err-next.ensures.calls (λ k exists. (c.requires.open_inputs k exists).sound), search rules);
    })

pub loop-init : goal.loop-init
loop-init g c = record {
  at = c.in_ok-next.ensures.at;
  nothing = c.in_ok-next.ensures.nothing;
  most = search rules;
  all = search rules;
  sound = sound_so c.in_ok-next.ensures.calls (λ k exists. (c.requires.open_inputs k exists).sound);
  known = known_first _ c.in_ok-next.ensures.calls c.requires.open_inputs;
  spent = spent_first c.in_ok-next.ensures.calls c.requires.open_inputs;
  sound_outputs = search rules;
  same_readers = c.in_ok-next.ensures.same_readers;
  same_writers = c.in_ok-next.ensures.same_writers;
  went = c.in_ok-next.ensures.ok;
  needed = record { readings = []; lead = (c.in_ok-next.ensures.ok, same_reads c.in_ok-next.ensures.calls c.in_ok-next.ensures.empty_kept) };
}

-- ---- a turn

pub returns-in_err-flush-clause-ran : goal.returns-in_err-flush-clause-ran
returns-in_err-flush-clause-ran g c =
    ran_at WriteFault c.in_err-flush.ensures.fault c.from_residual-in_err-flush.ensures.1 (record {
      went = went_then _ g.met.M.Machine.reaches_further g.met.M.Machine.stays_reachable true c.loop.invariant.went
          (went_flushed _ true g.met.M.Machine.reaches_itself _ _ c.in_err-flush.ensures.kept);
      ends = tt;
      failed = (c.loop.invariant.sound, search rules);
    })

pub returns-in_err-read_more-clause-ran : goal.returns-in_err-read_more-clause-ran
returns-in_err-read_more-clause-ran g c =
    let alone = failed_alone c.in-Some.from (c.requires.inputs _ _ (rw c.in-Some.is at c.loop.invariant.at)) c.in_err-read_more.ensures.failed
    c.in_err-read_more.ensures.others c.loop.invariant.sound in
    ran_at ReadFault c.in_err-read_more.ensures.fault c.from_residual-in_err-read_more.ensures.1 (record {
      went = went_then _ g.met.M.Machine.reaches_further g.met.M.Machine.stays_reachable false
          (went_then _ g.met.M.Machine.reaches_further g.met.M.Machine.stays_reachable false c.loop.invariant.went
          (went_flushed _ false g.met.M.Machine.reaches_itself _ _ c.in_ok-flush.ensures.kept))
          (c.in_err-read_more.ensures.went _);
      ends = (c.in-Some.from, c.in_err-read_more.ensures.unread.1, alone.failed);
      failed = ((c.in-Some.from, alone), search rules);
    })

pub returns-in_err-next-2-clause-ran : goal.returns-in_err-next-2-clause-ran
returns-in_err-next-2-clause-ran g c =
    ran_at WriteFault c.in_err-next-2.ensures.fault c.from_residual-in_err-next-2.ensures.1 (record {
      went = went_then _ g.met.M.Machine.reaches_further g.met.M.Machine.stays_reachable true
          (went_then _ g.met.M.Machine.reaches_further g.met.M.Machine.stays_reachable false
          (went_then _ g.met.M.Machine.reaches_further g.met.M.Machine.stays_reachable false c.loop.invariant.went
          (went_flushed _ false g.met.M.Machine.reaches_itself _ _ c.in_ok-flush.ensures.kept))
          (c.in_ok-read_more.ensures.went _)) c.in_err-next-2.ensures.front;
      ends = tt;
      failed = (
        sound_so c.in_err-next-2.ensures.calls
            (sound_read c.in-Some.from c.in_ok-read_more.ensures.failed c.in_ok-read_more.ensures.others c.loop.invariant.sound),
        search rules,
      );
    })

pub loop-preserved : goal.loop-preserved
loop-preserved g c =
    let after : (k : ℕ) → g.M.Machine.done_with c.loop.machine k → g.M.Machine.done_with c.read_more.new.machine k =
    (c.in_ok-read_more.ensures.went (g.O.Outputs.contents c.loop.outputs)).done in
    record {
      at = c.in_ok-next-2.ensures.at;
      nothing = c.in_ok-next-2.ensures.nothing;
      most = search rules;
      all = search rules;
      sound = sound_so c.in_ok-next-2.ensures.calls
          (sound_read c.in-Some.from c.in_ok-read_more.ensures.failed c.in_ok-read_more.ensures.others c.loop.invariant.sound);
      known = known_so c.in_ok-next-2.ensures.calls c.in_ok-next-2.ensures.ok.done
          (known_read c.in-Some.from c.in_ok-read_more.ensures.ended c.in_ok-read_more.ensures.others after c.loop.invariant.known);
      spent = spent_so c.in_ok-next-2.ensures.calls c.in_ok-next-2.ensures.empty_kept
          (spent_read c.in-Some.from (rw c.in-Some.is at c.loop.invariant.nothing)
          ((c.in_ok-read_more.ensures.went (g.O.Outputs.contents c.loop.outputs)).used c.in-Some.from) c.in_ok-read_more.ensures.at_end
          c.in_ok-read_more.ensures.others c.loop.invariant.spent);
      sound_outputs = search rules;
      same_readers = g.met.I.Inputs.same_further _ _ _ (g.met.I.Inputs.same_further _ _ _ c.loop.invariant.same_readers
          c.in_ok-read_more.ensures.same_readers) c.in_ok-next-2.ensures.same_readers;
      same_writers = g.met.O.Outputs.same_further _ _ _ (g.met.O.Outputs.same_further _ _ _ c.loop.invariant.same_writers
          c.in_ok-flush.ensures.same_writers) c.in_ok-next-2.ensures.same_writers;
      went = went_then _ g.met.M.Machine.reaches_further g.met.M.Machine.stays_reachable false
          (went_then _ g.met.M.Machine.reaches_further g.met.M.Machine.stays_reachable false
          (went_then _ g.met.M.Machine.reaches_further g.met.M.Machine.stays_reachable false c.loop.invariant.went
          (went_flushed _ false g.met.M.Machine.reaches_itself _ _ c.in_ok-flush.ensures.kept))
          (c.in_ok-read_more.ensures.went _)) c.in_ok-next-2.ensures.ok;
      needed = reads_once_more _ g.met.M.Machine.reaches_further g.met.M.Machine.stays_reachable _ false c.in-Some.from
          (reads_no_more _ g.met.M.Machine.reaches_further g.met.M.Machine.stays_reachable _ false c.loop.invariant.needed
          (went_flushed _ false g.met.M.Machine.reaches_itself _ _ c.in_ok-flush.ensures.kept) (reads_none _))
          (record {
            needs = rw c.in-Some.is at c.loop.invariant.at;
            empty = rw c.in-Some.is at c.loop.invariant.nothing;
            flushed = c.in_ok-flush.ensures.flushed;
          })
          (went_then _ g.met.M.Machine.reaches_further g.met.M.Machine.stays_reachable false (c.in_ok-read_more.ensures.went _) c.in_ok-next-2.ensures.ok)
          (once_read c.in-Some.from c.in_ok-read_more.ensures.once c.in_ok-read_more.ensures.others c.in_ok-next-2.ensures.calls
          c.in_ok-next-2.ensures.empty_kept);
    }

pub returns-in_err-flush-2-clause-ran : goal.returns-in_err-flush-2-clause-ran
returns-in_err-flush-2-clause-ran g c =
    ran_at WriteFault c.in_err-flush-2.ensures.fault c.from_residual-in_err-flush-2.ensures.1 (record {
      went = went_then _ g.met.M.Machine.reaches_further g.met.M.Machine.stays_reachable true c.loop.invariant.went
          (went_flushed _ true g.met.M.Machine.reaches_itself _ _ c.in_err-flush-2.ensures.kept);
      ends = tt;
      failed = (c.loop.invariant.sound, search rules);
    })

-- ---- the reads

pub returns-in_err-next-clause-needed : goal.returns-in_err-next-clause-needed
returns-in_err-next-clause-needed g c =
    reads_at WriteFault _ c.in_err-next.ensures.fault c.from_residual.ensures.1 (record {
      readings = [];
      lead = (c.in_err-next.ensures.front, same_reads c.in_err-next.ensures.calls c.in_err-next.ensures.empty_kept);
    })

pub returns-in_err-flush-clause-needed : goal.returns-in_err-flush-clause-needed
returns-in_err-flush-clause-needed g c =
    reads_at WriteFault _ c.in_err-flush.ensures.fault c.from_residual-in_err-flush.ensures.1
    (reads_no_more _ g.met.M.Machine.reaches_further g.met.M.Machine.stays_reachable _ true c.loop.invariant.needed
    (went_flushed _ true g.met.M.Machine.reaches_itself _ _ c.in_err-flush.ensures.kept) (reads_none _))

pub returns-in_err-flush-2-clause-needed : goal.returns-in_err-flush-2-clause-needed
returns-in_err-flush-2-clause-needed g c =
    reads_at WriteFault _ c.in_err-flush-2.ensures.fault c.from_residual-in_err-flush-2.ensures.1
    (reads_no_more _ g.met.M.Machine.reaches_further g.met.M.Machine.stays_reachable _ true c.loop.invariant.needed
    (went_flushed _ true g.met.M.Machine.reaches_itself _ _ c.in_err-flush-2.ensures.kept) (reads_none _))

pub returns-in_err-read_more-clause-needed : goal.returns-in_err-read_more-clause-needed
returns-in_err-read_more-clause-needed g c =
    reads_at ReadFault _ c.in_err-read_more.ensures.fault c.from_residual-in_err-read_more.ensures.1
    (reads_once_more _ g.met.M.Machine.reaches_further g.met.M.Machine.stays_reachable _ false c.in-Some.from
    (reads_no_more _ g.met.M.Machine.reaches_further g.met.M.Machine.stays_reachable _ false c.loop.invariant.needed
    (went_flushed _ false g.met.M.Machine.reaches_itself _ _ c.in_ok-flush.ensures.kept) (reads_none _)) (record {
      needs = rw c.in-Some.is at c.loop.invariant.at;
      empty = rw c.in-Some.is at c.loop.invariant.nothing;
      flushed = c.in_ok-flush.ensures.flushed;
    })
    (c.in_err-read_more.ensures.went _)
    (once_read c.in-Some.from c.in_err-read_more.ensures.once c.in_err-read_more.ensures.others (λ k. same_calls _) (λ k empty. refl)))

pub returns-in_err-next-2-clause-needed : goal.returns-in_err-next-2-clause-needed
returns-in_err-next-2-clause-needed g c =
    reads_at WriteFault _ c.in_err-next-2.ensures.fault c.from_residual-in_err-next-2.ensures.1
    (reads_once_more _ g.met.M.Machine.reaches_further g.met.M.Machine.stays_reachable _ true c.in-Some.from
    (reads_no_more _ g.met.M.Machine.reaches_further g.met.M.Machine.stays_reachable _ false c.loop.invariant.needed
    (went_flushed _ false g.met.M.Machine.reaches_itself _ _ c.in_ok-flush.ensures.kept) (reads_none _)) (record {
      needs = rw c.in-Some.is at c.loop.invariant.at;
      empty = rw c.in-Some.is at c.loop.invariant.nothing;
      flushed = c.in_ok-flush.ensures.flushed;
    })
    (went_then _ g.met.M.Machine.reaches_further g.met.M.Machine.stays_reachable true (c.in_ok-read_more.ensures.went _) c.in_err-next-2.ensures.front)
    (once_read c.in-Some.from c.in_ok-read_more.ensures.once c.in_ok-read_more.ensures.others c.in_err-next-2.ensures.calls
    c.in_err-next-2.ensures.empty_kept))

pub returns-in_default-clause-needed : goal.returns-in_default-clause-needed
returns-in_default-clause-needed g c =
    reads_no_more _ g.met.M.Machine.reaches_further g.met.M.Machine.stays_reachable _ false c.loop.invariant.needed
    (went_flushed _ false g.met.M.Machine.reaches_itself _ _ c.in_ok-flush.ensures.kept) (reads_none _)

pub returns-in-Some-next-clause-needed : goal.returns-in-Some-next-clause-needed
returns-in-Some-next-clause-needed g c =
    reads_no_more _ g.met.M.Machine.reaches_further g.met.M.Machine.stays_reachable _ false c.loop.invariant.needed
    (went_flushed _ false g.met.M.Machine.reaches_itself _ _ c.in_ok-flush-2.ensures.kept) (reads_none _)

pub returns-in-None-clause-needed : goal.returns-in-None-clause-needed
returns-in-None-clause-needed g c =
    reads_no_more _ g.met.M.Machine.reaches_further g.met.M.Machine.stays_reachable _ false c.loop.invariant.needed
    (went_flushed _ false g.met.M.Machine.reaches_itself _ _ c.in_ok-flush-2.ensures.kept) (reads_none _)

-- ---- which inputs have ended

pub returns-in_err-next-clause-ends_known : goal.returns-in_err-next-clause-ends_known
returns-in_err-next-clause-ends_known g c = known_first _ c.in_err-next.ensures.calls c.requires.open_inputs

pub returns-in_err-read_more-clause-ends_known : goal.returns-in_err-read_more-clause-ends_known
returns-in_err-read_more-clause-ends_known g c =
    known_read c.in-Some.from c.in_err-read_more.ensures.ended c.in_err-read_more.ensures.others
    (c.in_err-read_more.ensures.went (g.O.Outputs.contents c.loop.outputs)).done c.loop.invariant.known

pub returns-in_err-next-2-clause-ends_known : goal.returns-in_err-next-2-clause-ends_known
returns-in_err-next-2-clause-ends_known g c =
    known_so c.in_err-next-2.ensures.calls c.in_err-next-2.ensures.front.done
    (known_read c.in-Some.from c.in_ok-read_more.ensures.ended c.in_ok-read_more.ensures.others
    (c.in_ok-read_more.ensures.went (g.O.Outputs.contents c.loop.outputs)).done c.loop.invariant.known)

-- ---- what is left where they ended

pub returns-in_err-next-clause-at_end : goal.returns-in_err-next-clause-at_end
returns-in_err-next-clause-at_end g c = λ k exists ended. (spent_first c.in_err-next.ensures.calls c.requires.open_inputs k exists ended).1

pub returns-in_err-read_more-clause-at_end : goal.returns-in_err-read_more-clause-at_end
returns-in_err-read_more-clause-at_end g c =
    let spent = spent_read c.in-Some.from (rw c.in-Some.is at c.loop.invariant.nothing)
    ((c.in_err-read_more.ensures.went (g.O.Outputs.contents c.loop.outputs)).used c.in-Some.from) c.in_err-read_more.ensures.at_end
    c.in_err-read_more.ensures.others c.loop.invariant.spent in
    λ k exists ended. (spent k exists ended).1

pub returns-in_err-next-2-clause-at_end : goal.returns-in_err-next-2-clause-at_end
returns-in_err-next-2-clause-at_end g c =
    let spent = spent_so c.in_err-next-2.ensures.calls c.in_err-next-2.ensures.empty_kept
    (spent_read c.in-Some.from (rw c.in-Some.is at c.loop.invariant.nothing)
    ((c.in_ok-read_more.ensures.went (g.O.Outputs.contents c.loop.outputs)).used c.in-Some.from) c.in_ok-read_more.ensures.at_end
    c.in_ok-read_more.ensures.others c.loop.invariant.spent) in
    λ k exists ended. (spent k exists ended).1

-- ---- the last flush

pub returns-in_err-next-clause-flushed : goal.returns-in_err-next-clause-flushed
returns-in_err-next-clause-flushed g c = flushed_at WriteFault _ _ c.in_err-next.ensures.fault c.from_residual.ensures.1 tt

pub returns-in_err-flush-clause-flushed : goal.returns-in_err-flush-clause-flushed
returns-in_err-flush-clause-flushed g c = flushed_at WriteFault _ _ c.in_err-flush.ensures.fault c.from_residual-in_err-flush.ensures.1 tt

pub returns-in_err-read_more-clause-flushed : goal.returns-in_err-read_more-clause-flushed
returns-in_err-read_more-clause-flushed g c =
    flushed_at ReadFault _ _ c.in_err-read_more.ensures.fault c.from_residual-in_err-read_more.ensures.1 c.in_ok-flush.ensures.flushed

pub returns-in_err-next-2-clause-flushed : goal.returns-in_err-next-2-clause-flushed
returns-in_err-next-2-clause-flushed g c =
    flushed_at WriteFault _ _ c.in_err-next-2.ensures.fault c.from_residual-in_err-next-2.ensures.1 tt

pub returns-in_err-flush-2-clause-flushed : goal.returns-in_err-flush-2-clause-flushed
returns-in_err-flush-2-clause-flushed g c =
    flushed_at WriteFault _ _ c.in_err-flush-2.ensures.fault c.from_residual-in_err-flush-2.ensures.1 tt
