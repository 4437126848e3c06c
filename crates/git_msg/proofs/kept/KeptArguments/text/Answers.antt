use Rattle.std.proofs.Common.{IfSome, List, ℕ, ap, subst, ◌∙◌}
use Rattle.git_msg.specs.Arguments.{Arg, IsInRange, with_text}
use Rattle.git_msg.specs.Kept.{Kept}
use Rattle.std.specs.Prelude.{slice_get}
use Rattle.git_msg.proofs.KeptBytes.{text_fits}
use Rattle.git_msg.proofs.kept.KeptArguments.text.Goals as goal

pub returns-clause-value : goal.returns-clause-value
returns-clause-value g c = c.get.ensures.value ∙ rw (← c.self.view_is) (ap (λ (ts : List (List ℕ)). slice_get ts c.args.i) (c.texts.ensures c.args.word))

pub returns-clause-range : goal.returns-clause-range
returns-clause-range g c =
    let value = c.get.ensures.value ∙ ap (λ (ts : List (List ℕ)). slice_get ts c.args.i) (c.texts.ensures c.args.word) in
    let range = text_fits _ c.args.word c.args.i c.get.result c.self.invariant value in
    subst (λ (q : Kept (List Arg)). IfSome c.get.result (λ text. IsInRange q.format (with_text c.args.word text.now))) c.self.view_is range
