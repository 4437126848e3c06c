use Rattle.std.proofs.Common.{take, ◌++◌, List, ℕ, ap, ◌∙◌}
use Rattle.std.proofs.lemmas.List.{take-replicate}
use Rattle.git2show_lib.proofs.pretty.put_spaces.Goals as goal

pub returns-clause-put : goal.returns-clause-put
returns-clause-put c =
    c.put_at.ensures.put ∙ ap (λ (l : List ℕ). take c.args.at c.args.out.now ++ l) (take-replicate c.args.count 10 32 c.requires.column)
