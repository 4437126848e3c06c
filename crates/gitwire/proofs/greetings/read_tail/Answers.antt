use Rattle.gitwire.proofs.GreetingParts.{cut_there, no_tail_after_host, tail_after_host}
use Rattle.gitwire.proofs.greetings.read_tail.Goals as goal

pub returns-in-Some-read_parameters_part-2 : goal.returns-in-Some-read_parameters_part-2
returns-in-Some-read_parameters_part-2 c =
    tail_after_host _ _ _ _ _ c.in-Some.ensures.rest (cut_there _ _ _ _ c.split_at_first.ensures.cut c.in-Some-rest.is)
    c.in-Some-read_parameters_part-2.ensures

pub returns-in-None-read_parameters_part : goal.returns-in-None-read_parameters_part
returns-in-None-read_parameters_part c =
    no_tail_after_host _ _ _ _ c.in-Some.ensures.rest (cut_there _ _ _ _ c.split_at_first.ensures.cut c.in-Some-rest.is)
    c.in-None-read_parameters_part.ensures
