use Rattle.std.proofs.Common.{◌≡◌, List, ℕ, Some, None, slice_get, sym, ap, ◌∙◌, arith}
use Rattle.std.specs.Option.{option_copied}
use Rattle.git_server.proofs.Skipped.{passes_over, next_one, none_next}
use Rattle.git_server.proofs.ls_refs.past_hidden.Goals as goal
use Rattle.git_msg.specs.Asked.{ref_prefixes_in}

pub returns-in-Some-clause-same : goal.returns-in-Some-clause-same
returns-in-Some-clause-same g c =
    let texts : List (List ℕ) = ref_prefixes_in c.args.listing.now.asked in
    let next : slice_get texts c.args.split ≡ Some c.in-Some.next.now = sym c.ref_prefix.ensures ∙ ap option_copied c.in-Some.is in
    passes_over texts c.args.refs.now c.args.at c.first_from.result c.args.split c.requires.rising c.requires.ordered
    (omega (arith, c.first_from.ensures.onward)) c.first_from.ensures.within c.requires.split c.requires.hidden
    (λ k d e more less inside. rw (next_one texts c.args.split c.in-Some.next.now next e) (c.first_from.ensures.before k d more less))

pub returns-in-None-clause-same : goal.returns-in-None-clause-same
returns-in-None-clause-same g c =
    let texts : List (List ℕ) = ref_prefixes_in c.args.listing.now.asked in
    let none : slice_get texts c.args.split ≡ None = sym c.ref_prefix.ensures ∙ ap option_copied c.in-None.is in
    passes_over texts c.args.refs.now c.args.at _ c.args.split c.requires.rising c.requires.ordered c.requires.within (omega arith)
    c.requires.split c.requires.hidden (λ k d e more less inside. none_next texts c.args.split none inside)
