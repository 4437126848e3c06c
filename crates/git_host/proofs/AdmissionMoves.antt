-- An admission from one report to the next.
use Rattle.std.proofs.Common.{arith, ◌≡◌, ℕ, ◌+◌, ◌<◌, ◌≤◌, Bool, true, false, All, List, [], ◌∷◌, ◌++◌, length, map, take}
use Rattle.std.proofs.Common.{Option, Some, refl, sym, ap, ◌∙◌, subst, inl, inr}
use Rattle.std.proofs.lemmas.List.{take_all}
use Rattle.std.proofs.lemmas.List.Elements.{All-nil, All-push}
use Rattle.std.proofs.lemmas.Option.{slice_get_cases}
use Rattle.git_names.specs.ObjectName.{ObjectName}
use Rattle.git_names.specs.declared.object_format.Format.{Format}
use Rattle.git_msg.specs.Arguments.{Arg}
use Rattle.git_msg.specs.Asked.{want_refs_in, wants_in}
use Rattle.git_host.specs.Admissions.{AdmissionFacts, AtWant, AtWantRef, IsNotOurs, StandsAtStep, all_there, nothing_reported}
use Rattle.git_host.specs.Admissions.{is_want_ref, reference_step, step_by, want_step, with_found, with_want}
use Rattle.git_host.specs.declared.admission.AdmissionStep.{AdmissionStep}
use Rattle.git_host.specs.declared.admission.AdmissionStep.TheVariants.{AskWant, AskWantRef, Admitted, Refused}
use Rattle.git_host.proofs.FetchMoves.{item_there, one_more}
use Rattle.git_host.proofs.Picked.{length_more, map_more}

-- each wanted reference before this place was reported
record SoFar (at : ℕ) (format : Format) (q : List Arg) (a : AdmissionFacts) (ids : List ObjectName) : Type 0 where
  there : a.wants ≡ all_there (wants_in q)
  found : a.found ≡ map Some ids
  so_far : length ids ≡ at
  of_format : All (λ id. id.format ≡ format) ids

references_from : (at : ℕ) (format : Format) (q : List Arg) (a : AdmissionFacts) (ids : List ObjectName) → SoFar at format q a ids
    → at < length (want_refs_in q) + 1 → StandsAtStep (reference_step at (want_refs_in q)) format q a ids
references_from at format q a ids h within =
    elim (slice_get_cases (want_refs_in q) at).1 [
      | inl (x, less, here, same) ↦
          subst (λ (o : Option (List ℕ)). StandsAtStep (step_by o (AskWantRef at) Admitted) format q a ids) (sym here)
          (record { within = less; there = h.there; found = h.found; so_far = h.so_far; of_format = h.of_format })
      | inr (most, is) ↦
          subst (λ (o : Option (List ℕ)). StandsAtStep (step_by o (AskWantRef at) Admitted) format q a ids) (sym is)
          (record { there = h.there; found = h.found; all = omega (arith, h.so_far, most, within); of_format = h.of_format })
    ]

wants_from : (at : ℕ) (format : Format) (q : List Arg) (a : AdmissionFacts) (ids : List ObjectName) → a.wants ≡ all_there (take at (wants_in q))
    → a.found ≡ [] → ids ≡ [] → StandsAtStep (want_step at (wants_in q) (want_refs_in q)) format q a ids
wants_from at format q a ids so_far none none_kept =
    elim (slice_get_cases (wants_in q) at).1 [
      | inl (x, less, here, same) ↦
          subst (λ (o : Option ObjectName). StandsAtStep (step_by o (AskWant at) (reference_step 0 (want_refs_in q))) format q a ids) (sym here)
          (record { within = less; so_far = so_far; none_found = none; none_kept = none_kept })
      | inr (most, is) ↦
          subst (λ (o : Option ObjectName). StandsAtStep (step_by o (AskWant at) (reference_step 0 (want_refs_in q))) format q a ids) (sym is)
          (references_from 0 format q a ids (record {
            there = so_far ∙ ap all_there (take_all at (wants_in q) most);
            found = none ∙ ap (map Some) (sym none_kept);
            so_far = ap length none_kept;
            of_format = subst (All (λ id. id.format ≡ format)) (sym none_kept) (All-nil (λ id. id.format ≡ format));
          }) (omega arith))
    ]

pub admission_begins : (step : AdmissionStep) (format : Format) (q : List Arg) (ids : List ObjectName) → step ≡ want_step 0 (wants_in q) (want_refs_in q)
    → ids ≡ [] → StandsAtStep step format q nothing_reported ids
admission_begins step format q ids is none =
    subst (λ (s : AdmissionStep). StandsAtStep s format q nothing_reported ids) (sym is) (wants_from 0 format q nothing_reported ids refl refl none)

after_one : (at : ℕ) (format : Format) (q : List Arg) (a : AdmissionFacts) (ids : List ObjectName) → AtWant at q a ids
    → StandsAtStep (want_step (at + 1) (wants_in q) (want_refs_in q)) format q (with_want true a) ids
after_one at format q a ids h =
    let (id, here) = item_there (wants_in q) at h.within in
    wants_from (at + 1) format q (with_want true a) ids
    (ap (λ (l : List Bool). l ++ true ∷ []) h.so_far ∙ sym (map_more (λ (x : ObjectName). true) (take at (wants_in q)) id)
    ∙ ap all_there (sym (one_more (wants_in q) at id here))) h.none_found h.none_kept

pub after_there : (step : AdmissionStep) (at : ℕ) (format : Format) (q : List Arg) (a : AdmissionFacts) (ids : List ObjectName) (has : Bool)
    → (at < length (wants_in q) → step ≡ want_step (at + 1) (wants_in q) (want_refs_in q)) → has ≡ true → AtWant at q a ids
    → StandsAtStep step format q (with_want has a) ids
after_there step at format q a ids has more is h =
    subst (λ (s : AdmissionStep). StandsAtStep s format q (with_want has a) ids) (sym (more h.within))
    (subst (λ (b : Bool). StandsAtStep (want_step (at + 1) (wants_in q) (want_refs_in q)) format q (with_want b a) ids) (sym is)
    (after_one at format q a ids h))

pub after_want : (at : ℕ) (q : List Arg) (a : AdmissionFacts) (ids : List ObjectName) (has : Bool) → has ≡ false → AtWant at q a ids
    → (length ids ≤ length (want_refs_in q)) × IsNotOurs q (with_want has a)
after_want at q a ids has is h = (
  omega (arith, ap length h.none_kept),
  record {
    at = at;
    within = h.within;
    wants = ap (λ (l : List Bool). l ++ has ∷ []) h.so_far ∙ ap (λ (b : Bool). all_there (take at (wants_in q)) ++ b ∷ []) is;
    none_found = h.none_found;
  },
)

after_one_found : (at : ℕ) (format : Format) (q : List Arg) (a : AdmissionFacts) (ids : List ObjectName) (id : ObjectName)
    → id.format ≡ format → AtWantRef at format q a ids
    → StandsAtStep (reference_step (at + 1) (want_refs_in q)) format q (with_found (Some id) a) (ids ++ id ∷ [])
after_one_found at format q a ids id of h = references_from (at + 1) format q (with_found (Some id) a) (ids ++ id ∷ []) (record {
  there = h.there;
  found = ap (λ (l : List (Option ObjectName)). l ++ Some id ∷ []) h.found ∙ sym (map_more Some ids id);
  so_far = omega (arith, length_more ids id, h.so_far);
  of_format = All-push (λ (x : ObjectName). x.format ≡ format) ids id h.of_format of;
}) (omega (arith, h.within))

pub after_found : (step : AdmissionStep) (at : ℕ) (format : Format) (q : List Arg) (a : AdmissionFacts) (ids kept : List ObjectName) (id : ObjectName)
    (found : Option ObjectName) → (at < length (want_refs_in q) → step ≡ reference_step (at + 1) (want_refs_in q)) → kept ≡ ids ++ id ∷ [] → found ≡ Some id
    → id.format ≡ format → AtWantRef at format q a ids → StandsAtStep step format q (with_found found a) kept
after_found step at format q a ids kept id found more is here of h =
    subst (λ (s : AdmissionStep). StandsAtStep s format q (with_found found a) kept) (sym (more h.within))
    (subst (λ (l : List ObjectName). StandsAtStep (reference_step (at + 1) (want_refs_in q)) format q (with_found found a) l) (sym is)
    (subst (λ (o : Option ObjectName). StandsAtStep (reference_step (at + 1) (want_refs_in q)) format q (with_found o a) (ids ++ id ∷ [])) (sym here)
    (after_one_found at format q a ids id of h)))

-- another step asks for no reference
pub other_step : (step : AdmissionStep) → ((at : ℕ) → step ≡ AskWantRef at → ⊥) → is_want_ref step ≡ false
other_step (AskWant at) other = refl
other_step (AskWantRef at) other = absurd (other at refl)
other_step Admitted other = refl
other_step (Refused kind) other = refl
