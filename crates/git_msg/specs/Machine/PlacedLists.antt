-- Lists, each at its place.
use Rattle.std.specs.Prelude.{ℕ, All, List, Vec, [], ◌∷◌, get_or, length, map, sum_by}
use Rattle.git_msg.specs.declared.parts.Lists.{Lists}
use Rattle.git_msg.specs.declared.words.TextWord.{TextWord}
use Rattle.git_msg.specs.Machine.TextPools.{IsEnd, text_place}

module _ {X A : Type 0} where
  abbrev pub lists_of : Lists X A → List (Vec X A)
  lists_of l = l.first ∷ l.second ∷ l.third ∷ l.fourth ∷ l.fifth ∷ []

  -- the items in the list at this place
  abbrev pub items_at : Lists X A → ℕ → List X
  items_at l place = get_or (map (λ v. v.items) (lists_of l)) place []

  -- how many items all lists have
  abbrev pub items_in : Lists X A → ℕ
  items_in l = sum_by (λ v. length v.items) (lists_of l)

-- all texts of a word end where its list states
abbrev pub AreEnds : {A : Type 0} → List ℕ → Lists ℕ A → Type 0
AreEnds bytes ends = (word : TextWord) → All (IsEnd bytes) (items_at ends (text_place word))
