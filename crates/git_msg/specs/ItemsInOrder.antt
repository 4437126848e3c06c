-- Texts that are items one after another, each allowed after those before it, and the first text of a list at which that ends.
use Rattle.std.specs.Prelude.{◌≡◌, ℕ, ◌+◌, List, [], ◌∷◌, ◌++◌, length}
use Rattle.git_msg.specs.Memory.{HasRefused}

-- May before text item: after the items before it the text may be this item
module _ {X Y : Type 0} (May : List Y → X → Y → Type 0) where
  -- after those before them the texts are these items
  abbrev pub AreItems : List Y → List X → List Y → Type 0
  AreItems before [] [] = Unit {0}
  AreItems before (text ∷ texts) (item ∷ items) = May before text item × AreItems (before ++ item ∷ []) texts items
  AreItems before _ _ = ⊥

  -- the texts before one of them are items, and after these the reading stops at that one, for this reason
  pub record StopsAt (Why : List Y → X → Type 0) (texts : List X) : Type 0 where
    pub front : List X
    pub at : X
    pub back : List X
    pub items : List Y
    pub whole : texts ≡ front ++ at ∷ back
    pub taken : AreItems [] front items
    pub why : Why items at

  -- after the items the text is none, and has this number, where that of the first text is `first`
  pub record IsBadAt (first number : ℕ) (items : List Y) (text : X) : Type 0 where
    pub at_number : number ≡ first + length items
    pub refused : (item : Y) → ¬ May items text item

  -- the first text that is no item has this number
  abbrev pub HasBad : ℕ → ℕ → List X → Type 0
  HasBad first number = StopsAt (IsBadAt first number)

  -- after the items the text is one that takes memory, which refused so many bytes
  pub record LacksMemory (Takes : Y → Type 0) (bytes : List Y → Y → ℕ) (refuses : ℕ → Type 0) (items : List Y) (text : X) : Type 0 where
    pub item : Y
    pub may : May items text item
    pub takes_memory : Takes item
    pub refused : HasRefused refuses (bytes items item)
