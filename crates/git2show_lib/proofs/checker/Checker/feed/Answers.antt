use Rattle.std.proofs.Common.{◌≡◌, ◌∷◌, ℕ, [], List, take, sym, ap, ◌∙◌, subst}
use Rattle.git2show_lib.specs.Machine.Checker.{Carries, needed_in}
use Rattle.git2show_lib.specs.declared.checker.Stream.TheVariants.{Requests as OfRequests, Responses as OfResponses}
use Rattle.git2show_lib.proofs.CheckerCalls.{first_taken, leads_of, needed_is, nothing_used, over_in}
use Rattle.git2show_lib.proofs.checker.Checker.feed.Goals as goal

pub returns-then-not-needs-clause-carries : goal.returns-then-not-needs-clause-carries
returns-then-not-needs-clause-carries g c = nothing_used c.args.self.now c.args.from

pub returns-then-is_empty-clause-carries : goal.returns-then-is_empty-clause-carries
returns-then-is_empty-clause-carries g c = nothing_used c.args.self.now c.args.from

pub returns-in-Opening-clause-carries : goal.returns-in-Opening-clause-carries
returns-in-Opening-clause-carries g c =
    let needs = needed_is _ _ (sym c.needs.ensures ∙ c.if-not-needs.false) in
    leads_of c.args.self.now _ _ c.args.from OfResponses needs (ap needed_in c.in-Opening.is) c.feed_opening.ensures.carries

pub returns-in-Request-clause-carries : goal.returns-in-Request-clause-carries
returns-in-Request-clause-carries g c =
    let needs = needed_is _ _ (sym c.needs.ensures ∙ c.if-not-needs.false) in
    leads_of c.args.self.now _ _ c.args.from OfRequests needs (ap needed_in c.in-Request.is) c.feed_request.ensures.carries

pub returns-in-Response-clause-carries : goal.returns-in-Response-clause-carries
returns-in-Response-clause-carries g c =
    let needs = needed_is _ _ (sym c.needs.ensures ∙ c.if-not-needs.false) in
    leads_of c.args.self.now _ _ c.args.from OfResponses needs (ap needed_in c.in-Response.is) c.feed_response.ensures.carries

pub returns-in-Sieved-clause-carries : goal.returns-in-Sieved-clause-carries
returns-in-Sieved-clause-carries g c =
    let needs = needed_is _ _ (sym c.needs.ensures ∙ c.if-not-needs.false) in
    leads_of c.args.self.now _ _ c.args.from OfResponses needs (ap needed_in c.in-Sieved.is) c.feed_sieved.ensures.carries

pub returns-in-Passing-clause-carries : goal.returns-in-Passing-clause-carries
returns-in-Passing-clause-carries g c =
    let needs = needed_is _ _ (sym c.needs.ensures ∙ c.if-not-needs.false) in
    leads_of c.args.self.now _ _ c.args.from OfResponses needs (ap needed_in c.in-Passing.is) c.feed_passing.ensures.carries

pub returns-in-End-clause-carries : goal.returns-in-End-clause-carries
returns-in-End-clause-carries g c =
    let needs = needed_is _ _ (sym c.needs.ensures ∙ c.if-not-needs.false) in
    let (byte, first) = first_taken c.args.chunk.now (sym c.is_empty.ensures ∙ c.if-is_empty.false) in
    let bytes : take c.feed_end.result c.args.chunk.now ≡ byte ∷ [] = ap (λ (n : ℕ). take n c.args.chunk.now) c.feed_end.ensures.used ∙ first in
    leads_of c.args.self.now _ _ c.args.from OfResponses needs (ap needed_in c.in-End.is)
    (subst (λ (l : List ℕ). Carries OfResponses l c.args.self.now c.feed_end.new.self) (sym bytes) (c.feed_end.ensures.carries byte))

pub returns-in-End-clause-stays_done : goal.returns-in-End-clause-stays_done
returns-in-End-clause-stays_done g c = λ stream done. over_in c.feed_end.new.self.turn stream c.feed_end.ensures.over
