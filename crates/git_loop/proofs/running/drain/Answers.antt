use Rattle.std.proofs.Common.{rules, sym, refl, true, false}
use Rattle.git_loop.proofs.RunLemmas.{on_err_at, went_gave, went_nothing, went_quiet, went_then}
use Rattle.git_loop.proofs.running.drain.Goals as goal

pub loop-to-init : goal.loop-to-init
loop-to-init g c = record {
  failed = search rules;
  holds = search rules;
  same_writers = g.met.O.Outputs.same_itself _;
  went = λ inputs. went_nothing _ g.met.M.Machine.reaches_itself _ inputs _;
}

pub send-requires : goal.send-requires
send-requires g c = record { exists = c.requires.outputs _ _ (c.next.ensures.to _ c.in-Part.is) }

pub part-requires : goal.part-requires
part-requires g c = let gives = c.next.ensures.part _ c.in-Part.is in (gives.bytes, gives.lent)

pub loop-to-preserved : goal.loop-to-preserved
loop-to-preserved g c =
    let gives = c.next.ensures.part _ c.in-Part.is in
    record {
      failed = search rules;
      holds = search rules;
      same_writers = g.met.O.Outputs.same_further _ _ _ c.loop-to.invariant.same_writers c.in_ok-send-in-Part.ensures.same_writers;
      went = λ inputs. went_then _ g.met.M.Machine.reaches_further g.met.M.Machine.stays_reachable false (c.loop-to.invariant.went inputs)
          (went_gave _ false _ inputs gives (rw (sym (c.part.ensures gives.bytes gives.lent)) c.in_ok-send-in-Part.ensures.ok) c.next.ensures.done
          c.next.ensures.short);
    }

pub returns-in_err-send-in-Part-clause-front : goal.returns-in_err-send-in-Part-clause-front
returns-in_err-send-in-Part-clause-front g c =
    let gives = c.next.ensures.part _ c.in-Part.is in
    on_err_at _ _ _ c.from_residual.ensures.1
    (λ inputs. went_then _ g.met.M.Machine.reaches_further g.met.M.Machine.stays_reachable true (c.loop-to.invariant.went inputs)
    (went_gave _ true _ inputs gives (rw (sym (c.part.ensures gives.bytes gives.lent)) c.in_err-send-in-Part.ensures.front) c.next.ensures.done
    c.next.ensures.short))

pub returns-in-NeedInput-clause-ok : goal.returns-in-NeedInput-clause-ok
returns-in-NeedInput-clause-ok g c = λ inputs.
    went_then _ g.met.M.Machine.reaches_further g.met.M.Machine.stays_reachable false (c.loop-to.invariant.went inputs)
    (went_quiet _ inputs _ (c.in-NeedInput.ensures.needs_input _ refl).1 c.in-NeedInput.ensures.done c.in-NeedInput.ensures.short)

pub returns-in-Finished-clause-ok : goal.returns-in-Finished-clause-ok
returns-in-Finished-clause-ok g c = λ inputs.
    went_then _ g.met.M.Machine.reaches_further g.met.M.Machine.stays_reachable false (c.loop-to.invariant.went inputs)
    (went_quiet _ inputs _ (c.in-Finished.ensures.finished refl).1 c.in-Finished.ensures.done c.in-Finished.ensures.short)
