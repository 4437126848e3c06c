use Rattle.std.proofs.Common.{rules}
use Rattle.std.specs.Prelude.{filter}
use Rattle.std.proofs.lemmas.Iterator.{YieldsList-from_slice, YieldsList-from_take}
use Rattle.std.proofs.lemmas.Iterator.Consumers.{YieldsList-at, YieldsList-from_filter, count_from_yields_List}
use Rattle.git_server.specs.Objects.{has_object}
use Rattle.git_server.proofs.BoundaryLines.{enough}
use Rattle.git_server.proofs.list_repo.are_common.Goals as goal

pub returns : goal.returns
returns c =
    let names = c.args.names.now in
    let test = has_object c.args.objects.now in
    enough (filter test names) c.args.least _ (count_from_yields_List _ _ c.count.ensures.ran
    (YieldsList-from_take c.args.least
    (YieldsList-at c.take.ensures.source (YieldsList-from_filter _ test
    (YieldsList-at c.filter.ensures.source (YieldsList-from_slice names (cc))) c.filter.ensures.closure (λ x r q k. search rules)))
    c.take.ensures.count))
