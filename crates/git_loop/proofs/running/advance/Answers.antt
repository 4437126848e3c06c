use Rattle.std.proofs.Common.{rules, true, false, inl, inr, ◌<◌, length, refl}
use Rattle.git_loop.proofs.RunLemmas.{calls_consumed, empty_consumed, none_needed, on_err_at, same_calls, turn_less, went_fed, went_then}
use Rattle.git_loop.proofs.running.advance.Goals as goal

pub returns-in_err-next-2-clause-front : goal.returns-in_err-next-2-clause-front
returns-in_err-next-2-clause-front g c =
    let fed = went_fed _ c.in-Some.from c.feed-used.result (g.O.Outputs.contents c.loop-next.outputs)
    (rw c.window-chunk.ensures at c.feed-used.ensures.reaches) (rw c.window-chunk.ensures at c.feed-used.ensures.used)
    c.consume.ensures.consumed c.consume.ensures.others c.feed-used.ensures.done (rw c.window-chunk.ensures at c.feed-used.ensures.short)
    c.feed-used.ensures.others in
    on_err_at _ _ _ c.from_residual-in_err-next-2.ensures.1
    (went_then _ g.met.M.Machine.reaches_further g.met.M.Machine.stays_reachable true c.loop-next.invariant.went
    (went_then _ g.met.M.Machine.reaches_further g.met.M.Machine.stays_reachable true fed (c.in_err-next-2.ensures.front _)))

pub loop-next-init : goal.loop-next-init
loop-next-init g c = record {
  at = c.in_ok-next.ensures.at;
  failed = search rules;
  counted = refl;
  calls = λ k. same_calls _;
  empty_kept = λ k empty. refl;
  same_readers = g.met.I.Inputs.same_itself _;
  same_writers = c.in_ok-next.ensures.same_writers;
  went = c.in_ok-next.ensures.ok _;
}

pub loop-next-smaller : goal.loop-next-smaller
loop-next-smaller g c =
    let some : 0 < length c.window-chunk.result.now = search rules in
    let less = turn_less c.in_ok-next-2.next _ _ c.feed-used.result c.consume.ensures.waiting (elim (c.feed-used.ensures.some some) [
      | inl used ↦ inl used
      | inr done ↦ inr (none_needed c.in_ok-next-2.next _ _ c.in_ok-next-2.ensures.at
          (λ k needs. g.met.M.Machine.done_needs_none _ k needs ((c.in_ok-next-2.ensures.ok (g.I.Inputs.input c.consume.new.self)).done k (done k))))
    ]) in
    rw c.in-Some.is less

pub loop-next-preserved : goal.loop-next-preserved
loop-next-preserved g c =
    let some : 0 < length c.window-chunk.result.now = search rules in
    let fed = went_fed _ c.in-Some.from c.feed-used.result (g.O.Outputs.contents c.loop-next.outputs)
    (rw c.window-chunk.ensures at c.feed-used.ensures.reaches) (rw c.window-chunk.ensures at c.feed-used.ensures.used)
    c.consume.ensures.consumed c.consume.ensures.others c.feed-used.ensures.done (rw c.window-chunk.ensures at c.feed-used.ensures.short)
    c.feed-used.ensures.others in
    record {
      at = c.in_ok-next-2.ensures.at;
      failed = search rules;
      counted = search rules;
      calls = calls_consumed c.in-Some.from c.feed-used.result c.loop-next.invariant.calls c.consume.ensures.consumed c.consume.ensures.others;
      empty_kept = empty_consumed c.in-Some.from c.loop-next.invariant.empty_kept (rw c.window-chunk.ensures at some) c.consume.ensures.others;
      same_readers = g.met.I.Inputs.same_further _ _ _ c.loop-next.invariant.same_readers c.consume.ensures.same_readers;
      same_writers = g.met.O.Outputs.same_further _ _ _ c.loop-next.invariant.same_writers c.in_ok-next-2.ensures.same_writers;
      went = went_then _ g.met.M.Machine.reaches_further g.met.M.Machine.stays_reachable false c.loop-next.invariant.went
          (went_then _ g.met.M.Machine.reaches_further g.met.M.Machine.stays_reachable false fed (c.in_ok-next-2.ensures.ok _));
    }
