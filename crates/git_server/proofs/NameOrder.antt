-- Elements that rise by a key, searched by halves, and the orders of the keys: names and object names.
use Rattle.std.proofs.Common.{◌≡◌, ◌≢◌, ◌↔◌, ℕ, true, false, List, All, length, refl, sym, ap, ◌∙◌, subst, arith, inl, inr}
use Rattle.std.specs.Cmp.{IsTotalOrder}
use Rattle.std.specs.List.{AllAdjacentBelow}
use Rattle.std.specs.List.Sorted.{IsNonDecreasingBy, IsPartitionPoint}
use Rattle.std.specs.Ordering.{is_lt, is_eq, ordering_index, ordering_reverse}
use Rattle.std.specs.declared.cmp.Ordering.{Ordering}
use Rattle.std.specs.declared.cmp.Ordering.TheVariants.{Less, Equal, Greater}
use Rattle.std.proofs.lemmas.Bool.{cases_lt}
use Rattle.std.proofs.lemmas.Cmp.{nat_list_cmp_total, on_total, then_total, tied_itself}
use Rattle.std.proofs.lemmas.List.Sorted.{searchable_from_sorted}
use Rattle.git_names.specs.declared.object_format.Format.{Format}
use Rattle.git_names.specs.declared.object_format.Format.TheVariants.{Sha1, Sha256}
use Rattle.git_names.specs.ObjectName.{ObjectName}
use Rattle.git_server.specs.Objects.{format_cmp, object_cmp}
use Rattle.git_server.specs.SameObjects.{is_tied, same_object}

module _ {X K : Type 0} {R : K → K → Ordering} (total : IsTotalOrder R) (key : X → K) where
  not_before : (a b : K) → is_lt (R a b) ≡ true → is_lt (R b a) ≡ false
  not_before a b low = subst (λ (o : Ordering). is_lt o ≡ false) (sym (total.antisymm b a)) (turned (R a b) low)
    where
      turned : (o : Ordering) → is_lt o ≡ true → is_lt (ordering_reverse o) ≡ false
      turned Less h = refl
      turned Equal h = refl
      turned Greater h = cc

  -- the keys below n come first, then n, then those above
  pub ranks_rise : (xs : List X) (n : K) → AllAdjacentBelow (λ a b. is_lt (R (key a) (key b)) ≡ true) xs (length xs)
      → IsNonDecreasingBy (λ x. ordering_index (R (key x) n)) xs
  ranks_rise xs n rising = searchable_from_sorted total key xs n (λ k d low below. not_before _ _ (rising k d below))

  -- what is not tied with n is not n
  differs : (a n : K) (o : Ordering) → R a n ≡ o → o ≢ Equal → a ≢ n
  differs a n o is untied same = untied (sym is ∙ subst (λ (m : K). R m n ≡ Equal) (sym same) (tied_itself total n))

  -- where the keys split into those below n and those above, none is n
  pub none_is : (xs : List X) (n : K) (i : ℕ)
      → IsPartitionPoint (λ x. R (key x) n ≡ Less) (λ x. R (key x) n ≡ Greater) xs i → All (λ x. key x ≢ n) xs
  none_is xs n i parts k d below =
      elim (cases_lt k i) [
        | inl low ↦ differs _ n Less (parts.0 k d (omega arith) low) (λ h. cc)
        | inr high ↦ differs _ n Greater (parts.1 k d high below) (λ h. cc)
      ]

format_total : IsTotalOrder format_cmp
format_total = record { antisymm = back; trans = low; congr = tied }
  where
    back : (x y : Format) → format_cmp x y ≡ ordering_reverse (format_cmp y x)
    back Sha1 Sha1 = refl
    back Sha1 Sha256 = refl
    back Sha256 Sha1 = refl
    back Sha256 Sha256 = refl

    low : (x y z : Format) → format_cmp x y ≡ Less → format_cmp y z ≡ Less → format_cmp x z ≡ Less
    low Sha1 Sha1 z h g = cc
    low Sha1 Sha256 Sha1 h g = cc
    low Sha1 Sha256 Sha256 h g = refl
    low Sha256 Sha1 z h g = cc
    low Sha256 Sha256 z h g = cc

    tied : (x y z : Format) → format_cmp x y ≡ Equal → format_cmp x z ≡ format_cmp y z
    tied Sha1 Sha1 z h = refl
    tied Sha1 Sha256 z h = cc
    tied Sha256 Sha1 z h = cc
    tied Sha256 Sha256 z h = refl

-- the order of object names is total
pub object_total : IsTotalOrder object_cmp
object_total = then_total (on_total (λ (id : ObjectName). id.format) format_total) (on_total (λ (id : ObjectName). id.bytes) nat_list_cmp_total)

-- the test of two object names
pub is_same : (a b : ObjectName) → is_eq (object_cmp a b) ≡ true ↔ a ≡ b
is_same a b = (
  (λ tied. same_object a b (is_tied _ tied)),
  (λ same. subst (λ (o : ObjectName). is_eq (object_cmp o b) ≡ true) (sym same) (ap is_eq (tied_itself object_total b))),
)
