-- What is found of the name of a reference.
use Rattle.std.proofs.Common.{◌≡◌, ℕ, true, false, List, Option, refl}
use Rattle.git_names.specs.RefName.{IsRefName}
use Rattle.git_host.specs.NextNames.{Judges, comes_after}
use Rattle.git_host.specs.declared.next_name.NextName.{NextName}
use Rattle.git_host.specs.declared.next_name.NextName.TheVariants.{Bad, Unsorted, Next}

pub judged_name : (last : Option (List ℕ)) (name : List ℕ) (found : NextName) → (found ≡ Bad → ⊥) → Judges last name found → IsRefName name
judged_name last name Bad good h = absurd (good refl)
judged_name last name Unsorted good h = h.0
judged_name last name Next good h = h.0

pub judged_unsorted : (last : Option (List ℕ)) (name : List ℕ) (found : NextName) → found ≡ Unsorted → Judges last name found → comes_after last name ≡ false
judged_unsorted last name Bad is h = absurd (cc is)
judged_unsorted last name Unsorted is h = h.1
judged_unsorted last name Next is h = absurd (cc is)

pub judged_next : (last : Option (List ℕ)) (name : List ℕ) (found : NextName) → (found ≡ Bad → ⊥) → (found ≡ Unsorted → ⊥) → Judges last name found
    → comes_after last name ≡ true
judged_next last name Bad good sorted h = absurd (good refl)
judged_next last name Unsorted good sorted h = absurd (sorted refl)
judged_next last name Next good sorted h = h.1
