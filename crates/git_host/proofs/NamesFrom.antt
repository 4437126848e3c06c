-- A text that begins as a reference name does.
use Rattle.std.proofs.Common.{arith, ◌≡◌, ◌≢◌, ℕ, ◌+◌, ◌<◌, ◌≤◌, List, length, slice_index, take, codes, sym, ap, ◌∙◌, subst, inl, inr}
use Rattle.std.proofs.lemmas.Bool.{cases_lt}
use Rattle.std.proofs.lemmas.List.{ext_get_or, get_or-take, length-take-le}
use Rattle.git_names.specs.NextByte.{MayFollow}
use Rattle.git_names.specs.RefName.{BeginsWith, EndsWith, IsRefName}
use Rattle.git_names.proofs.RefNames.{follows_in_name, ref_name_from}
use Rattle.git_host.specs.NextNames.{FollowsFrom, HoldsUpTo, IsCommon}

-- the fronts of texts that begin alike
same_front : (a b : List ℕ) (n k : ℕ) → IsCommon a b n → k ≤ n → take k a ≡ take k b
same_front a b n k h up =
    let long = length-take-le k a (omega (arith, h.within)) in
    let long_other = length-take-le k b (omega (arith, h.within_other)) in
    ext_get_or 0 (take k a) (take k b) (long ∙ sym long_other) (λ i lt.
    let below : i < k = omega arith in
    get_or-take k a i 0 below ∙ h.same i (omega arith) ∙ sym (get_or-take k b i 0 below))

-- a text that has more than four bytes of a reference name at its front begins with `refs/`, as that name does
begins_so : (last name : List ℕ) (n : ℕ) → IsRefName last → IsCommon last name n → 5 ≤ n → BeginsWith name (codes "refs/")
begins_so last name n named h long =
    let other : last ≢ codes "HEAD" = λ is. let short = ap length is in absurd (omega (arith, short, h.within)) in
    let begins = named.begins other in
    record {
      fits = omega (arith, h.within_other);
      reads = λ k below. let up : k < 5 = omega arith in let place : 0 + k ≡ k = omega arith in
          rw place (sym (h.same k (omega arith)) ∙ (rw place at (begins.reads k below)));
    }

-- up to there it keeps the rules
pub holds_so : (last name : List ℕ) (n : ℕ) → IsRefName last → IsCommon last name n → HoldsUpTo name n
holds_so last name n named h = record {
  within = h.within_other;
  follows = λ k lt.
      subst (λ (byte : ℕ). MayFollow (take k name) byte) (h.same k lt)
      (subst (λ (front : List ℕ). MayFollow front (slice_index last k)) (same_front last name n k h (omega arith))
      (follows_in_name last named k (omega (arith, h.within))));
  begins = λ long. begins_so last name n named h long;
}

-- and if each later byte may follow those before it, and a slash may follow all, it is a reference name
pub named_from : (text : List ℕ) (n : ℕ) → HoldsUpTo text n → 5 ≤ n → length text ≤ 32000 → FollowsFrom text n → ¬ EndsWith text (codes ".")
    → MayFollow text 47 → IsRefName text
named_from text n h long most follows dot slash =
    ref_name_from text (λ other. h.begins long) most
    (λ k lt. elim (cases_lt k n) [ inl below ↦ h.follows k below | inr past ↦ follows k past lt ]) dot slash
