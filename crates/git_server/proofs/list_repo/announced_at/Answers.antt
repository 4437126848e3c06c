use Rattle.std.proofs.Common.{rules, ◌∙◌}
use Rattle.std.proofs.lemmas.Iterator.{YieldsList-from_slice}
use Rattle.std.proofs.lemmas.Iterator.Consumers.{YieldsList-at, YieldsList-from_chain, YieldsList-from_filter, nth_from_yields_List}
use Rattle.git_server.specs.AnnouncedBoundary.{is_shallow_line, is_unshallow_line}
use Rattle.git_server.proofs.list_repo.announced_at.Goals as goal

pub returns : goal.returns
returns c =
    let lines = c.args.lines.now in
    let shallows = c.args.shallows.now in
    c.copied.ensures ∙ nth_from_yields_List _ _ _ c.nth.ensures.ran
    (YieldsList-from_chain
    (YieldsList-at c.chain.ensures.first (YieldsList-from_filter _ is_shallow_line
    (YieldsList-at c.filter-shallow.ensures.source (YieldsList-from_slice lines (cc))) c.filter-shallow.ensures.closure (λ x r q k. search rules)))
    (YieldsList-at c.chain.ensures.second (YieldsList-from_filter _ (is_unshallow_line shallows)
    (YieldsList-at c.filter-unshallow.ensures.source (YieldsList-from_slice lines (cc))) c.filter-unshallow.ensures.closure (λ x r q k. search rules)))
    c.chain.ensures.first_done c.chain.ensures.second_done)
