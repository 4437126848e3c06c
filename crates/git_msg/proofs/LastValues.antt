-- The last value of an attribute that a reference line repeats.
use Rattle.std.proofs.Common.{◌≡◌, ℕ, Option, Some, None, List, [], ◌∷◌, ◌++◌, refl, subst}
use Rattle.std.specs.List.{cons_option}
use Rattle.git_names.specs.declared.object_format.Format.{Format}
use Rattle.git_msg.specs.Checks.{Passes}
use Rattle.git_msg.specs.Texts.{last_of}
use Rattle.git_msg.specs.References.{value_behind, values_of, IsAttribute, attribute_checks}
use Rattle.git_msg.proofs.ReferenceWords.{value_spelled}

AllMeet : (List ℕ → Type 0) → List (List ℕ) → Type 0
AllMeet P [] = Unit {0}
AllMeet P (v ∷ vs) = P v × AllMeet P vs

last_meets : (P : List ℕ → Type 0) (vs : List (List ℕ)) (x : List ℕ) → AllMeet P vs → last_of vs ≡ Some x → P x
unfolding AllMeet
last_meets P [] x h e = cc
last_meets P (v ∷ []) x h e = let same : v ≡ x = cc in subst P same h.0
last_meets P (v ∷ w ∷ vs) x h e = last_meets P (w ∷ vs) x h.1 e

module _ (format : Format) (key : List ℕ) (P : List ℕ → Type 0)
    (demands : (word value : List ℕ) → IsAttribute format word → word ≡ key ++ value → P value) where
  one_more : (w : List ℕ) (o : Option (List ℕ)) (vs : List (List ℕ)) → value_behind key w ≡ o → IsAttribute format w → AllMeet P vs
      → AllMeet P (cons_option o vs)
  unfolding AllMeet
  one_more w None vs e is h = h
  one_more w (Some v) vs e is h = (demands w v is (value_spelled key w v e), h)

  all_meet : (words : List (List ℕ)) → Passes (attribute_checks format words) → AllMeet P (values_of key words)
  unfolding AllMeet
  all_meet [] h = tt
  all_meet (w ∷ ws) h = one_more w (value_behind key w) (values_of key ws) refl h.0 (all_meet ws h.1)

  -- the last value of a key has the property that an attribute of this key must have
  pub last_value : (words : List (List ℕ)) (x : List ℕ) → Passes (attribute_checks format words) → last_of (values_of key words) ≡ Some x → P x
  last_value words x h e = last_meets P (values_of key words) x (all_meet words h) e
