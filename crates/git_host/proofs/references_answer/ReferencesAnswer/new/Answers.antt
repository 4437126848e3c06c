use Rattle.std.proofs.Common.{List, refl, sym, ap, subst}
use Rattle.git_msg.specs.Arguments.{Arg}
use Rattle.git_msg.specs.Kept.{Kept}
use Rattle.git_host.specs.ReferencesPlaces.{IsAlike}
use Rattle.git_host.proofs.ReferencesMoves.{ordered_alike, same_alike}
use Rattle.git_host.proofs.references_answer.ReferencesAnswer.new.Goals as goal

pub returns-clause-starts : goal.returns-clause-starts
returns-clause-starts g c =
    let q = c.args.request.asked in
    let same = ap (λ (r : Kept (List Arg)). r.asked) c.new-listing.ensures in
    record {
      alike = ordered_alike q c.new-listing.result c.put_in_order.new.self (subst (IsAlike q) (sym same) (same_alike q)) c.put_in_order.ensures.same;
      stands = record { nothing = refl; last_is = refl; given_is = refl };
    }
