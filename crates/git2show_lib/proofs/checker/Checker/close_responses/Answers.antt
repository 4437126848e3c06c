use Rattle.std.proofs.Common.{◌≡◌, ◌+◌, min, refl, true, ap, ◌∙◌, Ok, Err, ℕ, rules}
use Rattle.git2show_lib.specs.Machine.CheckedStreams.{moved}
use Rattle.git2show_lib.specs.declared.checker.Turn.TheVariants.{End, Opening, Over, Passing, Response, Sieved}
use Rattle.git2show_lib.specs.declared.checking.CheckFault.TheVariants.{Responses}
use Rattle.git2show_lib.proofs.CheckerStands.{over_as, over_before, stood}
use Rattle.git2show_lib.proofs.CheckerEnds.{receiving_closed}
use Rattle.git2show_lib.proofs.CheckerResponses.{ends_well, opening_closed, passes_to_the_end}
use Rattle.git2show_lib.proofs.CheckerSieves.{sieving_closed}
use Rattle.git2show_lib.proofs.checker.Checker.close_responses.Goals as goal

pub returns-in-Opening-clause-carries : goal.returns-in-Opening-clause-carries
returns-in-Opening-clause-carries g c t limit requests responses lent k =
    let (none, zero, unopened, was) = stood c.args.self.now Opening c.in-Opening.is k in
    let place = ap (λ (n : ℕ). Over (Err (Responses (moved n c.close.result)))) zero in
    over_before _ _ true (c.refused-self.ensures ∙ place) refl (k.terms, k.limit_is, k.requests_closed, refl) none unopened
    (opening_closed was c.close.result c.close.ensures.announced c.close.ensures.carries c.close.ensures.kind _)

pub returns-in-Response-clause-carries : goal.returns-in-Response-clause-carries
returns-in-Response-clause-carries g c t limit requests responses lent k =
    let was = stood c.args.self.now Response c.in-Response.is k in
    let close = c.close-in-Response in
    over_as _ _ true c.refused-self-in-Response.ensures refl (k.terms, k.limit_is, k.requests_closed, refl)
    (receiving_closed was close.result close.ensures.announced _ _ close.ensures.carries close.ensures.kind)

pub returns-in-Sieved-clause-carries : goal.returns-in-Sieved-clause-carries
returns-in-Sieved-clause-carries g c t limit requests responses lent k =
    let (was, nothing) = stood c.args.self.now (Sieved c.in-Sieved.start) c.in-Sieved.is k in
    let fault = c.close-in-Sieved.result in
    let before : c.saturating_add-before.result ≡ min (c.in-Sieved.start + c.args.self.now.passed) 18446744073709551615 = search rules in
    let place = ap (λ (n : ℕ). Over (Err (Responses (moved n fault)))) before in
    over_as _ _ true (c.refused-self-in-Sieved.ensures ∙ place) refl (k.terms, k.limit_is, k.requests_closed, refl)
    (sieving_closed was (nothing c.requires.none_waits) fault c.close-in-Sieved.ensures _ _)

pub returns-in-Passing-clause-carries : goal.returns-in-Passing-clause-carries
returns-in-Passing-clause-carries g c t limit requests responses lent k =
    let was = stood c.args.self.now Passing c.in-Passing.is k in
    over_as _ _ true c.refused-self-in-Passing.ensures refl (k.terms, k.limit_is, k.requests_closed, refl)
    (passes_to_the_end was c.place-place.result c.place-place.ensures c.close-in-Passing.result c.close-in-Passing.ensures _ _)

pub returns-in-End-clause-carries : goal.returns-in-End-clause-carries
returns-in-End-clause-carries g c t limit requests responses lent k =
    let was = stood c.args.self.now End c.in-End.is k in
    over_as _ (Ok tt) true refl refl (k.terms, k.limit_is, k.requests_closed, refl) (ends_well was _)
