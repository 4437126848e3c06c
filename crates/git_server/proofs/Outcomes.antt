-- The outcome of a session, while packets are pulled, and the reads of its repository that failed.
use Rattle.std.proofs.Common.{arith, ◌≡◌, ◌≢◌, ◌<◌, ◌⊎◌, ℕ, Option, Some, None, refl, sym, ap, ◌∙◌, subst, inl, inr}
use Rattle.git_pkt.specs.declared.fault.Fault.{Fault}
use Rattle.git_pkt.specs.declared.fault.Kind.{Kind}
use Rattle.git_pkt.specs.declared.fault.Kind.TheVariants.{PackSource, StreamTooLong}
use Rattle.git_server.specs.Repository.{Repository, RepoState}
use Rattle.git_server.specs.Machine.Server.{HasFailed, IsPackLost}
use Rattle.git_server.specs.Machine.ServerCalls.{IsAfterPull}
use Rattle.git_server.specs.declared.outcome.Outcome.{Outcome}
use Rattle.git_server.specs.declared.outcome.Outcome.TheVariants.{Flush, Closed, Refused}

pub stays_as : (old now : Option Outcome) → now ≡ old → IsAfterPull old now
stays_as (Some outcome) now same = same
stays_as None now same = inl same

pub lost_by_pull : (old now : Option Outcome) → old ≡ None → IsPackLost now → IsAfterPull old now
lost_by_pull (Some outcome) now none lost = absurd (cc)
lost_by_pull None now none lost = inr lost

-- one pull after another
pub pulls_on : (old middle now : Option Outcome) → IsAfterPull old middle → IsAfterPull middle now → IsAfterPull old now
pulls_on (Some outcome) middle now first second = subst (λ (o : Option Outcome). IsAfterPull o now) first second
pulls_on None middle now (inl first) second = subst (λ (o : Option Outcome). IsAfterPull o now) first second
pulls_on None middle now (inr (fault, is, name)) second =
    let stays : now ≡ Some (Refused fault) = subst (λ (o : Option Outcome). IsAfterPull o now) is second in
    inr (fault, stays, name)

not_both : (fault other : Fault) → Some (Refused fault) ≡ Some (Refused other) → fault.kind ≡ PackSource → other.kind ≡ StreamTooLong → ⊥
not_both fault other same name too_long =
    let one : fault ≡ other = cc in
    let kinds : PackSource ≡ StreamTooLong = sym name ∙ ap (λ (f : Fault). f.kind) one ∙ too_long in
    cc

-- no pull reports a stream that is too long
pub too_long_before : (old now : Option Outcome) (fault : Fault) → IsAfterPull old now → now ≡ Some (Refused fault) → fault.kind ≡ StreamTooLong
    → old ≡ Some (Refused fault)
too_long_before (Some outcome) now fault after announced too_long = sym after ∙ announced
too_long_before None now fault (inl after) announced too_long = absurd (cc)
too_long_before None now fault (inr (other, is, name)) announced too_long = absurd (not_both other fault (sym is ∙ announced) name too_long)

-- a session that goes on, or ended by another fault, has its packs
pub none_lost : IsPackLost None → ⊥
none_lost (fault, is, name) = let e = is in cc

pub other_lost : (fault : Fault) → fault.kind ≢ PackSource → IsPackLost (Some (Refused fault)) → ⊥
other_lost fault other (lost, is, name) =
    let one : fault ≡ lost = cc in
    other (ap (λ (f : Fault). f.kind) one ∙ name)

-- no read failed by a call that left the outcome as it was
pub failures_as : (old now : Option Outcome) (before was count : ℕ) → now ≡ old → count ≡ was → HasFailed old before was → HasFailed now before count
failures_as old now before was count is same h =
    subst (λ (o : Option Outcome). HasFailed o before count) (sym is) (subst (λ (n : ℕ). HasFailed old before n) (sym same) h)

-- nor by one that ended the session by another fault, or well
pub failures_end : (old now : Option Outcome) (before was count : ℕ) → old ≡ None → count ≡ was → ¬ IsPackLost now → HasFailed old before was
    → HasFailed now before count
failures_end old now before was count none same other h =
    record { risen = λ lost. absurd (other lost); same = λ not_lost. same ∙ h.same (λ lost. none_lost (subst IsPackLost none lost)) }

pub same_state : (a b : RepoState) → b.answers ≡ a.answers → b.failures ≡ a.failures → b ≡ a
same_state a b answers failures = ap (λ (r : Repository). let x : RepoState = record { answers = r; failures = b.failures } in x) answers
    ∙ ap (λ (n : ℕ). let x : RepoState = record { answers = a.answers; failures = n } in x) failures

-- a session lacks a pack or it does not
lost_by : (kind : Kind) → (kind ≡ PackSource) ⊎ (kind ≢ PackSource)
lost_by PackSource = inl refl
lost_by _ = inr (λ e. cc)

lost_or_not : (o : Option Outcome) → IsPackLost o ⊎ (IsPackLost o → ⊥)
lost_or_not None = inr none_lost
lost_or_not (Some Flush) = inr (λ (fault, is, name). let e = is in cc)
lost_or_not (Some Closed) = inr (λ (fault, is, name). let e = is in cc)
lost_or_not (Some (Refused fault)) = by_kind (lost_by fault.kind)
  where
    by_kind : (fault.kind ≡ PackSource) ⊎ (fault.kind ≢ PackSource) → IsPackLost (Some (Refused fault)) ⊎ (IsPackLost (Some (Refused fault)) → ⊥)
    by_kind (inl name) = inl (fault, refl, name)
    by_kind (inr other) = inr (other_lost fault other)

pub lost_where_failed : (o : Option Outcome) (before now : ℕ) → HasFailed o before now → before < now → IsPackLost o
lost_where_failed o before now h rises = by_kind (lost_or_not o)
  where
    by_kind : IsPackLost o ⊎ (IsPackLost o → ⊥) → IsPackLost o
    by_kind (inl lost) = lost
    by_kind (inr other) = absurd (omega (arith, rises, h.same other))
