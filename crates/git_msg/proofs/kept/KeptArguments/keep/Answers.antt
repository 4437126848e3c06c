use Rattle.std.proofs.Common.{arith, ◌+◌, List, refl, subst, sym}
use Rattle.std.proofs.lemmas.Result.{err_from_is_err_and}
use Rattle.git_msg.specs.Arguments.{Arg, shown, stored_in}
use Rattle.git_msg.specs.Kept.{AreOf, Kept}
use Rattle.git_msg.specs.Machine.ArgumentLists.{held, stored}
use Rattle.git_msg.proofs.KeptBytes.{stay_of, stays_sound, stored_fits, stored_short}
use Rattle.git_msg.proofs.RefusedLists.{refused_for}
use Rattle.git_msg.proofs.kept.KeptArguments.keep.Goals as goal

pub returns-in_err-push-clause-memory : goal.returns-in_err-push-clause-memory
returns-in_err-push-clause-memory g c =
    let value = rw (sym c.self.view_is) at c.requires.value in
    let p = err_from_is_err_and c.from_residual-in_err-push.result c.from_residual-in_err-push.ensures.1 in
    rw (p.1, p.2, ← c.self.view_is)
    (λ name. refused_for g.A.Memory.refuses _ (shown c.args.argument.now) c.args.text_length
    (stored c.self.inside.lists + stored_in (shown c.args.argument.now)) c.self.invariant value c.requires.counted c.in_ok-charge.ensures.sides
    (omega arith) c.in_err-push.ensures.memory)

pub invariant_of-self-2 : goal.invariant_of-self-2
invariant_of-self-2 g c =
    let value = rw (sym c.self.view_is) at c.requires.value in
    stays_sound _ _ (shown c.args.argument.now) c.args.text_length c.self.invariant value c.requires.counted c.in_ok-charge.ensures.sides
    (record {
      asked = c.in_ok-push.ensures.ok;
      kept = c.in_ok-charge.ensures.charged.0;
      stored = c.in_ok-push.ensures.stored;
      format = refl;
      limit = c.in_ok-charge.ensures.charged.1;
    })

pub returns-clause-own : goal.returns-clause-own
returns-clause-own g c command of all =
    rw c.in_ok-push.ensures.ok
    (stay_of command (held c.self.inside.lists) (shown c.args.argument.now)
    (subst (λ (q : Kept (List Arg)). AreOf command q.asked) (sym c.self.view_is) all) of)

pub returns-in_err-push-clause-own : goal.returns-in_err-push-clause-own
returns-in_err-push-clause-own g c command of all =
    rw c.in_err-push.ensures.unchanged.0 (subst (λ (q : Kept (List Arg)). AreOf command q.asked) (sym c.self.view_is) all)

pub push-requires-clause-short : goal.push-requires-clause-short
push-requires-clause-short g c =
    let value = rw (sym c.self.view_is) at c.requires.value in
    stored_short _ (shown c.args.argument.now) value

pub push-requires-clause-fits : goal.push-requires-clause-fits
push-requires-clause-fits g c =
    let value = rw (sym c.self.view_is) at c.requires.value in
    omega (
      arith,
      c.self.invariant.covered,
      c.self.invariant.in_range,
      c.requires.counted,
      stored_fits _ (shown c.args.argument.now) value,
      c.in_ok-charge.ensures.sides,
    )
