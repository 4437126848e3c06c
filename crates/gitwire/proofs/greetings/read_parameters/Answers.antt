use Rattle.std.proofs.Common.{◌∙◌, sym}
use Rattle.gitwire.proofs.GreetingParts.{cut_there, empty_parameter, no_bytes, no_nul_left, not_cut, read_more, some_bytes}
use Rattle.gitwire.proofs.greetings.read_parameters.Goals as goal

pub returns-in_default : goal.returns-in_default
returns-in_default c =
    no_nul_left _ _ _ c.loop-rest.invariant (some_bytes _ (sym c.is_empty.ensures ∙ c.loop-rest-test.true))
    (not_cut _ _ _ c.split_at_first.ensures.cut c.in_default.is)

pub returns-then-is_empty : goal.returns-then-is_empty
returns-then-is_empty c =
    empty_parameter _ _ _ _ _ c.loop-rest.invariant (cut_there _ _ _ _ c.split_at_first.ensures.cut c.in-Some.is)
    (no_bytes _ (sym c.is_empty-in-loop-rest.ensures ∙ c.if-is_empty.true))

pub loop-rest-preserved : goal.loop-rest-preserved
loop-rest-preserved c =
    rw c.is_word-wants.ensures.value
    (read_more _ _ _ _ _ c.loop-rest.invariant (cut_there _ _ _ _ c.split_at_first.ensures.cut c.in-Some.is)
    (some_bytes _ (sym c.is_empty-in-loop-rest.ensures ∙ c.if-is_empty.false)))
