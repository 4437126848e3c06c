use Rattle.std.proofs.Common.{◌+◌, ◌-◌, ◌/◌, ℕ, sym, ap, ◌∙◌, arith}
use Rattle.std.specs.Ordering.{is_lt}
use Rattle.git_server.proofs.Skipped.{before_up_to}
use Rattle.git_server.proofs.ls_refs.first_from.Goals as goal

pub loop-low-preserved-then-is_lt : goal.loop-low-preserved-then-is_lt
loop-low-preserved-then-is_lt c =
    let middle : ℕ = c.loop-low.low + (c.loop-low.high - c.loop-low.low) / 2 in
    record {
      onward = omega arith;
      within = omega arith;
      bound = c.loop-low.invariant.bound;
      before = λ k d more less. before_up_to c.args.refs.now c.args.text.now c.requires.rising middle c.index-refs-middle.result (omega arith)
          (rw (← c.index-refs-middle.is, ← c.name.ensures.value) (ap is_lt (sym c.cmp.ensures) ∙ sym c.is_lt.ensures ∙ c.if-is_lt.true)) k d
          (omega (arith, less));
    }
