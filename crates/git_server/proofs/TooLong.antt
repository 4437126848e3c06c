-- A stream that is too long had all the bytes that a stream may have, and its input goes on.
use Rattle.std.proofs.Common.{◌≡◌, ℕ, ◌-◌, Bool, false, List, length, subst, sym, ◌∙◌, inl, inr}
use Rattle.git_pkt.specs.Faults.{StopsBy, last_position}
use Rattle.git_pkt.specs.Splits.{Given}
use Rattle.git_pkt.specs.declared.fault.Fault.{Fault}
use Rattle.git_pkt.specs.declared.fault.Kind.{Kind}
use Rattle.git_pkt.specs.declared.fault.Kind.TheVariants.{PackSource, StreamTooLong, Truncated}
use Rattle.git_server.specs.Sessions.{Setting, IsRefused}
use Rattle.git_server.proofs.Admitted.{not_announced_for}

pub refused_too_long : (s : Setting) (over : Bool) (left : List Given) (rest : List ℕ) (end : ℕ) (fault : Fault) → IsRefused s over left rest end fault
    → fault.kind ≡ StreamTooLong → (over ≡ false) × (end ≡ last_position)
refused_too_long s over left rest end fault (inl (inl r)) is =
    absurd (not_announced_for s.offer s.limit s.repo left fault StreamTooLong tt (record { not_ours = λ e. cc; not_unknown = λ e. cc }) r.announced is)
refused_too_long s over left rest end fault (inl (inr (inl r))) is =
    let stops : StopsBy (end - length rest) rest end StreamTooLong fault.offset =
    subst (λ (k : Kind). StopsBy (end - length rest) rest end k fault.offset) is r.stops in
    (r.goes_on, stops.1)
refused_too_long s over left rest end fault (inl (inr (inr r))) is = absurd (let same : Truncated ≡ StreamTooLong = sym r.name ∙ is in cc)
refused_too_long s over left rest end fault (inr r) is = absurd (let same : PackSource ≡ StreamTooLong = sym r.name ∙ is in cc)
