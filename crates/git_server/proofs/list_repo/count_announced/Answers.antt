use Rattle.std.proofs.Common.{◌≡◌, rules, length, arith, length-append}
use Rattle.std.specs.Prelude.{filter}
use Rattle.std.proofs.lemmas.Iterator.{YieldsList-from_slice}
use Rattle.std.proofs.lemmas.Iterator.Consumers.{YieldsList-at, YieldsList-from_filter, count_from_yields_List}
use Rattle.git_server.specs.AnnouncedBoundary.{is_shallow_line, is_unshallow_line}
use Rattle.git_server.proofs.list_repo.count_announced.Goals as goal

pub returns : goal.returns
returns c =
    let lines = c.args.lines.now in
    let test = is_unshallow_line c.args.shallows.now in
    let first : c.count-shallow.result ≡ length (filter is_shallow_line lines) =
    count_from_yields_List _ _ c.count-shallow.ensures.ran (YieldsList-from_filter _ is_shallow_line
    (YieldsList-at c.filter.ensures.source (YieldsList-from_slice lines (cc))) c.filter.ensures.closure (λ x r q k. search rules)) in
    let second : c.count-unshallow.result ≡ length (filter test lines) =
    count_from_yields_List _ _ c.count-unshallow.ensures.ran (YieldsList-from_filter _ test
    (YieldsList-at c.filter-2.ensures.source (YieldsList-from_slice lines (cc))) c.filter-2.ensures.closure (λ x r q k. search rules)) in
    omega (arith, length-append (filter is_shallow_line lines) (filter test lines))
