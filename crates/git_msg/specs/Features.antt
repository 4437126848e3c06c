-- The features of commands as an advertisement names them: a key, and if there are features, their words after `=`, separated by single spaces.
use Rattle.std.specs.Prelude.{ℕ, Bool, true, false, List, [], ◌∷◌, ◌++◌, Option, Some, None, codes}
use Rattle.std.specs.List.{flat_map}
use Rattle.git_msg.specs.declared.arguments.Command.{Command}
use Rattle.git_msg.specs.declared.arguments.Command.TheVariants.{LsRefs, Fetch, ObjectInfo}
use Rattle.git_msg.specs.declared.offers.Offer.{Offer}

-- a word, if it is advertised
abbrev pub where_offered : Bool → List ℕ → List (List ℕ)
where_offered true word = word ∷ []
where_offered false word = []

-- the advertised words of a list that states for each word whether it is advertised
abbrev pub offered_words : List (Bool × List ℕ) → List (List ℕ)
offered_words = flat_map (λ row. where_offered row.0 row.1)

-- the features of a command, each with whether it is advertised, in the order in which they are written
abbrev pub features_of : Command → Offer → List (Bool × List ℕ)
features_of LsRefs offer = (offer.unborn, codes "unborn") ∷ []
features_of Fetch offer =
    (offer.shallow, codes "shallow") ∷ (offer.ref_in_want, codes "ref-in-want") ∷ (offer.wait_for_done, codes "wait-for-done")
    ∷ (offer.filter, codes "filter") ∷ []
features_of ObjectInfo offer = []

-- the features of `ls-refs` that are advertised
abbrev pub ls_refs_features : Offer → List (List ℕ)
ls_refs_features offer = offered_words (features_of LsRefs offer)

-- the features of `fetch` that are advertised
abbrev pub fetch_features : Offer → List (List ℕ)
fetch_features offer = offered_words (features_of Fetch offer)

-- the words, separated by single spaces
abbrev pub spaced : List (List ℕ) → List ℕ
spaced [] = []
spaced (word ∷ []) = word
spaced (word ∷ next ∷ words) = word ++ 32 ∷ spaced (next ∷ words)

-- the value that names these features, if there are any
abbrev pub features_value : List (List ℕ) → Option (List ℕ)
features_value [] = None
features_value (word ∷ words) = Some (spaced (word ∷ words))

-- a key alone, or with a value
abbrev pub valued : List ℕ → Option (List ℕ) → List ℕ
valued key None = key
valued key (Some value) = key ++ 61 ∷ value

-- the text of a capability line that names a command and its features
abbrev pub capability_text : List ℕ → List (List ℕ) → List ℕ
capability_text key features = valued key (features_value features)
