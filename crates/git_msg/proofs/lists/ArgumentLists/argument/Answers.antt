use Rattle.std.proofs.Common.{arith, rules, ◌≡◌, ◌+◌, ◌-◌, ℕ, ap, drop, length, sym, ◌∙◌}
use Rattle.std.specs.Prelude.{slice_get}
use Rattle.std.specs.List.{flat_map}
use Rattle.git_msg.specs.Arguments.{words}
use Rattle.git_msg.specs.Machine.ArgumentLists.{held_at}
use Rattle.git_msg.proofs.HeldArguments.{held_is, later_argument, own_argument}
use Rattle.git_msg.proofs.lists.ArgumentLists.argument.Goals as goal

pub loop-word-init : goal.loop-word-init
loop-word-init g c = search (rules, held_is)

pub loop-word-preserved : goal.loop-word-preserved
loop-word-preserved g c =
    c.loop-word.invariant
    ∙ later_argument c.args.self.now words c.loop-word.word-index c.loop-word.left _ c.loop-word-test.true
    (omega (arith, c.count-count.ensures, c.if-left-count.false))
    ∙ ap (λ (n : ℕ). slice_get (flat_map (held_at c.args.self.now) (drop (c.loop-word.word-index + 1) words)) (c.loop-word.left - n))
    (sym c.count-count.ensures)

pub returns : goal.returns
returns g c =
    let past : c.loop-word.word-index ≡ length words = omega arith in
    sym (c.loop-word.invariant ∙ ap (λ (n : ℕ). slice_get (flat_map (held_at c.args.self.now) (drop n words)) c.loop-word.left) past)

pub returns-then-left-count : goal.returns-then-left-count
returns-then-left-count g c =
    c.at.ensures
    ∙ sym (c.loop-word.invariant
    ∙ own_argument c.args.self.now words c.loop-word.word-index c.loop-word.left _ c.loop-word-test.true
    (omega (arith, c.count-count.ensures, c.if-left-count.true)))
