-- A line that names features, with one more of them.
use Rattle.std.proofs.Common.{◌≡◌, ℕ, true, not, List, [], ◌∷◌, ◌++◌, refl, sym, ◌∙◌, append_assoc}
use Rattle.git_msg.specs.Asked.{is_empty}
use Rattle.git_msg.specs.Features.{capability_text, spaced}
use Rattle.git_server.specs.Machine.AdvertisementLines.{Names, separator_after}
use Rattle.git_server.specs.declared.advertisement.FeaturesLine.{FeaturesLine}

spaced_more : (word : List ℕ) (words : List (List ℕ)) (feature : List ℕ)
    → spaced ((word ∷ words) ++ feature ∷ []) ≡ spaced (word ∷ words) ++ 32 ∷ feature
spaced_more word [] feature = refl
spaced_more word (next ∷ words) feature = rw (spaced_more next words feature) (simp append_assoc)

feature_added : (key : List ℕ) (features : List (List ℕ)) (feature : List ℕ)
    → capability_text key (features ++ feature ∷ []) ≡ (capability_text key features ++ separator_after (not (is_empty features))) ++ feature
feature_added key [] feature = simp append_assoc
feature_added key (word ∷ words) feature = rw (spaced_more word words feature) (simp append_assoc)

some_after : (features : List (List ℕ)) (feature : List ℕ) → not (is_empty (features ++ feature ∷ [])) ≡ true
some_after [] feature = refl
some_after (word ∷ words) feature = refl

-- a feature that is offered is named after the others
pub names_more : (old new : FeaturesLine) (feature key : List ℕ) (features : List (List ℕ)) → Names old key features
    → new.text.bytes ≡ (old.text.bytes ++ separator_after old.has_features) ++ feature → new.has_features ≡ true
    → Names new key (features ++ feature ∷ [])
names_more old new feature key features names text has = record {
  text = text ∙ rw (names.text, names.has_features) (sym (feature_added key features feature));
  has_features = has ∙ sym (some_after features feature);
}
