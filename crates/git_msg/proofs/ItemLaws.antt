-- Laws of items one after another, and of the first text at which they end.
use Rattle.std.proofs.Common.{arith, ◌≡◌, ℕ, ◌+◌, List, [], ◌∷◌, ◌++◌, refl, ap, sym, ◌∙◌, subst, append_assoc, append-nil, length, inl, inr}
use Rattle.std.specs.Prelude.{All}
use Rattle.std.proofs.lemmas.List.Elements.{All-cons, All-nil}
use Rattle.git_msg.specs.ItemsInOrder.{AreItems, StopsAt, IsBadAt, HasBad}
use Rattle.git_msg.proofs.Cuts.{not_empty, two_cuts}

module _ {X Y : Type 0} (May : List Y → X → Y → Type 0) where
  -- there are as many items as texts
  pub as_many : (before : List Y) (texts : List X) (items : List Y) → AreItems May before texts items → length items ≡ length texts
  as_many before [] [] are = refl
  as_many before (t ∷ ts) (i ∷ is) are = omega (arith, as_many (before ++ i ∷ []) ts is are.1)
  as_many before [] (i ∷ is) are = absurd are
  as_many before (t ∷ ts) [] are = absurd are

  -- what is so of each text that may be an item is so of all items
  pub all_items : (P : Y → Type 0) → ((before : List Y) (text : X) (item : Y) → May before text item → P item) → (before : List Y) (texts : List X)
      (items : List Y) → AreItems May before texts items → All P items
  all_items P each before [] [] are = All-nil P
  all_items P each before (t ∷ ts) (i ∷ is) are = All-cons P i is (each before t i are.0) (all_items P each (before ++ i ∷ []) ts is are.1)
  all_items P each before [] (i ∷ is) are = absurd are
  all_items P each before (t ∷ ts) [] are = absurd are

  -- with one more
  pub items_more : (before : List Y) (texts : List X) (items : List Y) (text : X) (item : Y) → AreItems May before texts items
      → May (before ++ items) text item → AreItems May before (texts ++ text ∷ []) (items ++ item ∷ [])
  items_more before [] [] text item are may = (rw append-nil at may, tt)
  items_more before (t ∷ ts) (i ∷ is) text item are may =
      (are.0, items_more (before ++ i ∷ []) ts is text item are.1 (rw (append_assoc before (i ∷ []) is) may))
  items_more before [] (i ∷ is) text item are may = absurd are
  items_more before (t ∷ ts) [] text item are may = absurd are

  -- the items of texts in two parts
  record Parts (before : List Y) (first second : List X) (items : List Y) : Type 0 where
    front : List Y
    back : List Y
    whole : items ≡ front ++ back
    are_first : AreItems May before first front
    are_second : AreItems May (before ++ front) second back

  parts_of : (before : List Y) (first second : List X) (items : List Y) → AreItems May before (first ++ second) items → Parts before first second items
  parts_of before [] second items are = record { front = []; back = items; whole = refl; are_first = tt; are_second = rw append-nil are }
  parts_of before (t ∷ ts) second [] are = absurd are
  parts_of before (t ∷ ts) second (i ∷ is) are =
      let later = parts_of (before ++ i ∷ []) ts second is are.1 in
      record {
        front = i ∷ later.front;
        back = later.back;
        whole = ap (λ (xs : List Y). i ∷ xs) later.whole;
        are_first = (are.0, later.are_first);
        are_second = rw (← append_assoc before (i ∷ []) later.front) later.are_second;
      }

  first_item : (before : List Y) (text : X) (texts : List X) (items : List Y) → AreItems May before (text ∷ texts) items
      → (item : Y) × May before text item
  first_item before text texts [] are = absurd are
  first_item before text texts (i ∷ is) are = (i, are.0)

  -- the last of them
  pub record LastItem (before : List Y) (texts : List X) (text : X) (items : List Y) : Type 0 where
    pub front : List Y
    pub last : Y
    pub whole : items ≡ front ++ last ∷ []
    pub taken : AreItems May before texts front
    pub is_item : May (before ++ front) text last

  pub last_item : (before : List Y) (texts : List X) (text : X) (items : List Y) → AreItems May before (texts ++ text ∷ []) items
      → LastItem before texts text items
  last_item before texts text items are = let p = parts_of before texts (text ∷ []) items are in by p.front p.back p.whole p.are_first p.are_second
    where
      by : (front back : List Y) → items ≡ front ++ back → AreItems May before texts front → AreItems May (before ++ front) (text ∷ []) back
          → LastItem before texts text items
      by front (item ∷ []) whole taken is = record { front = front; last = item; whole = whole; taken = taken; is_item = is.0 }
      by front [] whole taken is = absurd is
      by front (item ∷ other ∷ others) whole taken is = absurd is.1

  -- where it stops, it stops whatever comes after that
  pub stops_with : (Why : List Y → X → Type 0) (texts others back : List X) (s : StopsAt May Why texts) → others ≡ s.front ++ s.at ∷ back
      → StopsAt May Why others
  stops_with Why texts others back s whole =
      record { front = s.front; at = s.at; back = back; items = s.items; whole = whole; taken = s.taken; why = s.why }

  pub stops_with_more : (Why : List Y → X → Type 0) (texts more : List X) → StopsAt May Why texts → StopsAt May Why (texts ++ more)
  stops_with_more Why texts more s =
      stops_with Why texts (texts ++ more) (s.back ++ more) s (ap (λ (ts : List X). ts ++ more) s.whole ∙ append_assoc s.front (s.at ∷ s.back) more)

  -- a text that may be one item only
  module _ (one : (before : List Y) (text : X) (a b : Y) → May before text a → May before text b → a ≡ b) where
    -- so texts are one list of items
    pub one_list : (before : List Y) (texts : List X) (a b : List Y) → AreItems May before texts a → AreItems May before texts b → a ≡ b
    one_list before [] [] [] h k = refl
    one_list before (t ∷ ts) (x ∷ xs) (y ∷ ys) h k =
        let same = one before t x y h.0 k.0 in
        rw (same, one_list (before ++ y ∷ []) ts xs ys (rw same at h.1) k.1) refl
    one_list before [] [] (y ∷ ys) h k = absurd k
    one_list before [] (x ∷ xs) b h k = absurd h
    one_list before (t ∷ ts) [] b h k = absurd h
    one_list before (t ∷ ts) (x ∷ xs) [] h k = absurd k

    -- a reason for which it stops only at texts that are no item
    module _ (Why : List Y → X → Type 0) (never : (before : List Y) (text : X) (item : Y) → May before text item → Why before text → ⊥) where
      -- in texts that are items it does not stop
      pub items_or_stop : (texts : List X) (items : List Y) → AreItems May [] texts items → StopsAt May Why texts → ⊥
      items_or_stop texts items are s =
          let p = parts_of [] s.front (s.at ∷ s.back) items (rw s.whole at are) in
          let (item, may) = first_item p.front s.at s.back p.back p.are_second in
          never s.items s.at item (subst (λ (before : List Y). May before s.at item) (one_list [] s.front p.front s.items p.are_first s.taken) may) s.why

      -- nor in the front of others
      not_in_front : (front mid texts : List X) (items : List Y) (s : StopsAt May Why texts) → AreItems May [] front items → front ≡ s.front ++ s.at ∷ mid → ⊥
      not_in_front front mid texts items s are whole = items_or_stop front items are (stops_with Why texts front mid s whole)

      -- so behind texts that are items it stops at the last
      pub stop_at_last : (front : List X) (last : X) (items : List Y) → AreItems May [] front items → StopsAt May Why (front ++ last ∷ []) → Why items last
      stop_at_last front last items are s = elim (two_cuts front s.front last s.at [] s.back s.whole) [
        | inl here ↦ rw (one_list [] s.front items s.items (rw here.0 at are) s.taken, here.1) s.why
        | inr (inl (mid, is, left)) ↦ absurd (not_in_front front mid (front ++ last ∷ []) items s are is)
        | inr (inr (mid, is, left)) ↦ absurd (not_empty mid s.at s.back left)
      ]

    -- and for two such reasons it stops at the same text, after the same items
    pub one_stop : (Why Other : List Y → X → Type 0) → ((before : List Y) (text : X) (item : Y) → May before text item → Why before text → ⊥)
        → ((before : List Y) (text : X) (item : Y) → May before text item → Other before text → ⊥) → (texts : List X)
        → (h : StopsAt May Why texts) (k : StopsAt May Other texts) → (h.items ≡ k.items) × (h.at ≡ k.at)
    one_stop Why Other never none texts h k = elim (two_cuts h.front k.front h.at k.at h.back k.back (sym h.whole ∙ k.whole)) [
      | inl here ↦ (one_list [] k.front h.items k.items (rw here.0 at h.taken) k.taken, here.1)
      | inr (inl (mid, is, left)) ↦ absurd (not_in_front Other none h.front mid texts h.items k h.taken is)
      | inr (inr (mid, is, left)) ↦ absurd (not_in_front Why never k.front mid texts k.items h k.taken is)
    ]

    -- texts that are items have no bad one
    pub items_or_bad : (first number : ℕ) (texts : List X) (items : List Y) → AreItems May [] texts items → HasBad May first number texts → ⊥
    items_or_bad first number = items_or_stop (IsBadAt May first number) (λ before text item may bad. bad.refused item may)

    -- and the first bad one has one number
    pub one_bad : (first number other : ℕ) (texts : List X) → HasBad May first number texts → HasBad May first other texts → number ≡ other
    one_bad first number other texts h k =
        let same = one_stop (IsBadAt May first number) (IsBadAt May first other) (λ before text item may bad. bad.refused item may)
        (λ before text item may bad. bad.refused item may) texts h k in
        h.why.at_number ∙ ap (λ (items : List Y). first + length items) same.0 ∙ sym k.why.at_number
