use Rattle.std.proofs.Common.{arith, ℕ, List, ◌++◌, ap, ◌∙◌}
use Rattle.git_host.proofs.last_name.NameCopy.new.Goals as goal

pub returns-in_err-extend_from_slice-clause-memory : goal.returns-in_err-extend_from_slice-clause-memory
returns-in_err-extend_from_slice-clause-memory g c =
    absurd (omega (arith, c.in_ok-reserve.ensures.ok, c.in_err-extend_from_slice.ensures.full))

pub returns-clause-copied : goal.returns-clause-copied
returns-clause-copied g c =
    c.in_ok-extend_from_slice.ensures.items ∙ ap (λ (l : List ℕ). l ++ c.args.name.now) (c.reserve.ensures.items ∙ c.new-text.ensures.items)
