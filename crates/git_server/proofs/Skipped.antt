-- References that are passed over: none of them is shown.
use Rattle.std.proofs.Common.{◌≡◌, ℕ, zero, suc, ◌+◌, ◌<◌, ◌≤◌, Bool, true, false, inl, inr, List, [], ◌∷◌, length, drop, nat_eq, slice_index_or}
use Rattle.std.proofs.Common.{Option, Some, None, ◌++◌, codes, slice_get, refl, ap, sym, ◌∙◌, subst, arith}
use Rattle.std.specs.List.{starts_with}
use Rattle.std.specs.List.Sorted.{IsSortedBy}
use Rattle.std.specs.Ordering.{is_lt}
use Rattle.std.proofs.lemmas.Bool.{cases_lt, both_ways}
use Rattle.std.proofs.lemmas.Cmp.{nat_list_cmp_total}
use Rattle.std.proofs.lemmas.List.{get_or_default}
use Rattle.std.proofs.lemmas.List.Folds.{list_any_at, list_any_none}
use Rattle.std.proofs.lemmas.Option.{get_or_from_slice_get, slice_get_cases}
use Rattle.std.proofs.lemmas.List.Sorted.{ranks_by, sorted_far}
use Rattle.git_msg.specs.Asked.{ref_prefixes_in}
use Rattle.git_msg.specs.Kept.{Kept}
use Rattle.git_msg.specs.Prefixes.{IsOrdered, OrdersPrefixes, SplitsAt, ShowAlike, goes_before, begins, is_shown, text_cmp}
use Rattle.git_server.specs.Repository.{Entry, Repository, IsRising, comes_before}
use Rattle.git_server.specs.Machine.AnsweredRequest.{references_from}
use Rattle.git_server.specs.Answers.{reference_packets, shown_refs, unborn_packets}
use Rattle.git_server.specs.declared.ls_refs.ReferencesPlace.{ReferencesPlace}
use Rattle.git_server.specs.declared.ls_refs.ReferencesPlace.TheVariants.{First, Entry as EntryPlace}
use Rattle.git_pkt.specs.Packets.{Pkt}
use Rattle.git_msg.proofs.TextOrder.{between, le_itself, le_from_no_lt, no_le_from_lt, no_lt_back, lt_from_le_lt, lt_from_lt_le}
use Rattle.git_msg.proofs.PrefixOrder.{no_begin}
use Rattle.git_msg.specs.Arguments.{Arg}

-- a reference's name does not come after that of a later one
pub names_rise : (refs : List Entry) → IsRising refs → (i j : ℕ) (d : Entry) → i ≤ j → j < length refs
    → goes_before (slice_index_or refs i d).name (slice_index_or refs j d).name ≡ true
names_rise refs rising i j d low below =
    let name : Entry → List ℕ = λ e. e.name in
    let sorted : IsSortedBy (λ a b. is_lt (text_cmp (name a) (name b))) refs =
    λ k e at inside. no_lt_back (slice_index_or refs k e).name (slice_index_or refs (k + 1) e).name (rising k e inside) in
    le_from_no_lt (slice_index_or refs i d).name (slice_index_or refs j d).name
    (sorted_far _ (ranks_by nat_list_cmp_total name) refs sorted i j d low below)

-- what comes before the name at a place comes before the names after it
pub before_up_to : (refs : List Entry) (text : List ℕ) → IsRising refs → (j : ℕ) (e : Entry) → j < length refs
    → comes_before (slice_index_or refs j e).name text ≡ true
    → (k : ℕ) (d : Entry) → k ≤ j → comes_before (slice_index_or refs k d).name text ≡ true
before_up_to refs text rising j e inside less k d low =
    let here = subst (λ (x : Entry). comes_before x.name text ≡ true) (get_or_default refs j e d inside) less in
    lt_from_le_lt (slice_index_or refs k d).name (slice_index_or refs j d).name text (names_rise refs rising k j d low inside) here

-- a name from one that is not shown on, which comes before the next prefix, is not shown
pub hidden : (ps : List (List ℕ)) (a n : List ℕ) (i : ℕ) → IsOrdered ps → SplitsAt ps a i → is_shown ps a ≡ false → goes_before a n ≡ true
    → ((d : List ℕ) → i < length ps → comes_before n (slice_index_or ps i d) ≡ true) → is_shown ps n ≡ false
hidden [] a n i ordered split none low next = absurd (cc)
hidden (p ∷ ps) a n i ordered split none low next = list_any_none (starts_with nat_eq n) (p ∷ ps)
    (λ k d below. by_test k d below (begins n (slice_index_or (p ∷ ps) k d)) refl)
  where
    after : (k : ℕ) (d : List ℕ) → i ≤ k → k < length (p ∷ ps) → goes_before (slice_index_or (p ∷ ps) i d) (slice_index_or (p ∷ ps) k d) ≡ true
    after k d high below = elim (cases_lt i k) [
      | inl more ↦ (ordered i k d more below).0
      | inr most ↦ let same_place : i ≡ k = omega (arith, high, most) in rw same_place (le_itself (slice_index_or (p ∷ ps) k d))
    ]

    by_place : (k : ℕ) (d : List ℕ) → k < length (p ∷ ps) → begins n (slice_index_or (p ∷ ps) k d) ≡ true → begins n (slice_index_or (p ∷ ps) k d) ≡ false
    by_place k d below e = elim (cases_lt k i) [
      | inl early ↦
          let begun = between (slice_index_or (p ∷ ps) k d) a n (split.before k d early) low e in
          absurd (both_ways (is_shown (p ∷ ps) a) none (list_any_at (starts_with nat_eq a) (p ∷ ps) k d below begun))
      | inr late ↦
          let high : i ≤ k = omega (arith, late) in
          let less = next d (omega (arith, high, below)) in
          no_begin (slice_index_or (p ∷ ps) k d) n
          (no_le_from_lt n (slice_index_or (p ∷ ps) k d)
          (lt_from_lt_le n (slice_index_or (p ∷ ps) i d) (slice_index_or (p ∷ ps) k d) less (after k d high below)))
    ]

    by_test : (k : ℕ) (d : List ℕ) → k < length (p ∷ ps) → (b : Bool) → begins n (slice_index_or (p ∷ ps) k d) ≡ b → b ≡ false
    by_test k d below true e = sym e ∙ by_place k d below e
    by_test k d below false e = refl

-- references that are not shown change nothing
pub skips : (ps : List (List ℕ)) (refs : List Entry) (from to : ℕ) → from ≤ to → to ≤ length refs
    → ((k : ℕ) (d : Entry) → from ≤ k → k < to → is_shown ps (slice_index_or refs k d).name ≡ false)
    → shown_refs ps (drop to refs) ≡ shown_refs ps (drop from refs)
skips ps [] from to low high none = let e : to ≡ from = omega (arith, low, high) in rw e refl
skips ps (e ∷ refs) zero zero low high none = refl
skips ps (e ∷ refs) (suc from) zero low high none = absurd (omega (arith, low))
skips ps (e ∷ refs) (suc from) (suc to) low high none =
    skips ps refs from to (omega (arith, low)) (omega (arith, high)) (λ k d more less. none (suc k) d (omega (arith, more)) (omega (arith, less)))
skips ps (e ∷ refs) zero (suc to) low high none =
    let rest = skips ps refs 0 to (omega arith) (omega (arith, high)) (λ k d more less. none (suc k) d (omega arith) (omega (arith, less))) in
    let first : is_shown ps e.name ≡ false = none 0 e (omega arith) (omega arith) in
    rest ∙ rw first refl

-- the references from one that is not shown on, up to the first that does not come before the next prefix
pub passes_over : (ps : List (List ℕ)) (refs : List Entry) (at to split : ℕ) → IsRising refs → IsOrdered ps → at < to → to ≤ length refs
    → ((d : Entry) → SplitsAt ps (slice_index_or refs at d).name split) → ((d : Entry) → is_shown ps (slice_index_or refs at d).name ≡ false)
    → ((k : ℕ) (d : Entry) (e : List ℕ) → at + 1 ≤ k → k < to → split < length ps
    → comes_before (slice_index_or refs k d).name (slice_index_or ps split e) ≡ true)
    → shown_refs ps (drop to refs) ≡ shown_refs ps (drop at refs)
passes_over ps refs at to split rising ordered low high splits none before =
    skips ps refs at to (omega (arith, low)) high (λ k d more less. by_place k d more less)
  where
    by_place : (k : ℕ) (d : Entry) → at ≤ k → k < to → is_shown ps (slice_index_or refs k d).name ≡ false
    by_place k d more less = elim (cases_lt at k) [
      | inl above ↦ hidden ps (slice_index_or refs at d).name (slice_index_or refs k d).name split ordered (splits d) (none d)
          (names_rise refs rising at k d more (omega (arith, less, high))) (λ e inside. before k d e (omega (arith, above)) less inside)
      | inr most ↦ let same_place : k ≡ at = omega (arith, most, more) in rw same_place (none d)
    ]

pub next_one : (ps : List (List ℕ)) (i : ℕ) (text : List ℕ) → slice_get ps i ≡ Some text → (e : List ℕ) → slice_index_or ps i e ≡ text
next_one ps i text found e = get_or_from_slice_get ps i text e found

pub none_next : {P : Type 0} (ps : List (List ℕ)) (i : ℕ) → slice_get ps i ≡ None → i < length ps → P
none_next ps i none inside =
    elim (slice_get_cases ps i).1 [ inl (x, within, here, same) ↦ absurd (cc (none, here)) | inr (most, past) ↦ absurd (omega (arith, inside, most)) ]

-- prefixes that show the same names show the same references
pub alike_refs : (ps qs : List (List ℕ)) (refs : List Entry) → ShowAlike ps qs → shown_refs ps refs ≡ shown_refs qs refs
alike_refs ps qs [] alike = refl
alike_refs ps qs (e ∷ refs) alike = rw (alike e.name, alike_refs ps qs refs alike) refl

-- a request whose prefixes were put in order is answered as it was
alike_packets : (old new : Kept (List Arg)) (refs : List Entry) → OrdersPrefixes old new
    → reference_packets new.asked refs ≡ reference_packets old.asked refs
alike_packets old new refs orders =
    rw (orders.symrefs, orders.peel, ← alike_refs (ref_prefixes_in old.asked) (ref_prefixes_in new.asked) refs orders.alike) refl

alike_unborn : (old new : Kept (List Arg)) (head : Option (List ℕ)) → OrdersPrefixes old new
    → unborn_packets new.asked head ≡ unborn_packets old.asked head
alike_unborn old new None orders = refl
alike_unborn old new (Some target) orders = rw (orders.symrefs, orders.unborn, ← orders.alike (codes "HEAD")) refl

pub alike_answers : (old new : Kept (List Arg)) (repo : Repository) (place : ReferencesPlace) → OrdersPrefixes old new
    → references_from new.asked repo place ≡ references_from old.asked repo place
alike_answers old new repo First orders =
    ap (λ (ps : List Pkt). ps ++ reference_packets new.asked repo.refs) (alike_unborn old new repo.unborn_head orders)
    ∙ ap (λ (ps : List Pkt). unborn_packets old.asked repo.unborn_head ++ ps) (alike_packets old new repo.refs orders)
alike_answers old new repo (EntryPlace next) orders = alike_packets old new (drop next repo.refs) orders
