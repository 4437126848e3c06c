-- Whether an object of a name is there, and its size: that of the only one, since the names rise strictly.
use Rattle.std.proofs.Common.{◌≡◌, ◌≢◌, ◌↔◌, ℕ, ◌<◌, Bool, true, Option, Some, None, List, All, Any, length, refl, sym, ap, ◌∙◌, inl, inr}
use Rattle.std.specs.Prelude.{MatchOption, is_some}
use Rattle.std.specs.List.{HoldsAt}
use Rattle.std.specs.Ordering.{is_eq}
use Rattle.std.proofs.lemmas.Bool.{cases_Bool}
use Rattle.std.proofs.lemmas.List.Folds.{Any-from_list_any, list_any-from_Any, list_any_at}
use Rattle.git_names.specs.ObjectName.{ObjectName}
use Rattle.git_server.specs.Objects.{AreRising, has_object, object_cmp, size_among}
use Rattle.git_server.proofs.FirstOfKey.{only_is}
use Rattle.git_server.proofs.NameOrder.{is_same, object_total}

module _ (objects : List (ObjectName × ℕ)) (id : ObjectName) where
  abbrev test : ObjectName × ℕ → Bool
  test object = is_eq (object_cmp object.0 id)

  -- the test is true just where the list has the name
  pub has_means : has_object objects id ≡ true ↔ Any (λ object. object.0 ≡ id) objects
  has_means = (
    (λ h. let at = Any-from_list_any test objects h in (at.0, at.1, at.2, at.3, (is_same _ id).0 at.4)),
    (λ at. list_any-from_Any test objects (at.0, at.1, at.2, at.3, (is_same _ id).1 at.4)),
  )

  -- so it shows whether a search found it
  pub has_found : (found : Option ℕ)
      → MatchOption found (All (λ object. object.0 ≢ id) objects) (λ at. (at < length objects) × HoldsAt (λ object. object.0 ≡ id) objects at)
      → is_some found ≡ has_object objects id
  has_found None none =
      elim (cases_Bool (has_object objects id)) [
        | inl there ↦ let at = has_means.0 there in absurd (none at.0 at.1 at.2 (ap (λ (object : ObjectName × ℕ). object.0) at.3 ∙ at.4))
        | inr gone ↦ sym gone
      ]
  has_found (Some at) is = sym (list_any_at test objects at (id, 0) is.0 ((is_same _ id).1 (is.1 (id, 0))))

  pub size_is : (found : Option ℕ) → AreRising objects
      → MatchOption found (All (λ object. object.0 ≢ id) objects) (λ size. Any (λ object. (object.0 ≡ id) × (object.1 ≡ size)) objects)
      → size_among objects id ≡ found
  size_is found rising is =
      only_is object_total (λ (object : ObjectName × ℕ). object.0) (λ (object : ObjectName × ℕ). object.1) id test (λ object. is_same object.0 id)
      (λ objects. size_among objects id) refl (λ object objects. refl) objects found rising is
