-- The bound of a request is unique, so a reader with the same request is the same.
use Rattle.std.proofs.Common.{◌≡◌, ap, sym, subst, ◌∙◌}
use Rattle.std.proofs.Props.{props}
use Rattle.std.specs.Coded.{le_prop}
use Rattle.git_msg.specs.Machine.HeldRequest.{IsBounded, format_of}
use Rattle.git_msg.specs.declared.offers.Offer.{Offer}
use Rattle.git_msg.specs.declared.reader.RequestReader.{RequestReader}
use Rattle.git_msg.specs.declared.requests.Request.{Request}

pub one_bound : {A : Type 0} (offer : Offer) (q : Request A) (h k : IsBounded offer q) → h ≡ k
one_bound offer q h k =
    let format_prop : IsProp (format_of q ≡ offer.format) = hlevel props in
    ap (λ x. let it : IsBounded offer q = record { covered = x; within = h.within; of_format = h.of_format } in it) (le_prop h.covered k.covered)
    ∙ ap (λ x. let it : IsBounded offer q = record { covered = k.covered; within = x; of_format = h.of_format } in it) (le_prop h.within k.within)
    ∙ ap (λ x. let it : IsBounded offer q = record { covered = k.covered; within = k.within; of_format = x } in it) (format_prop h.of_format k.of_format)

pub same_with : {A : Type 0} (r : RequestReader A) (q : Request A) (bounded : IsBounded r.offer q) → q ≡ r.request
    → record r { request = q; bounded = bounded } ≡ r
same_with {A = A} r q bounded same =
    subst (λ (x : Request A). (h : IsBounded r.offer x) → record r { request = x; bounded = h } ≡ r) (sym same)
    (λ h. ap (λ (b : IsBounded r.offer r.request). record r { bounded = b }) (one_bound r.offer r.request h r.bounded)) bounded
