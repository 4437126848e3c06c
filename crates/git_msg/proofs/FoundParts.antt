-- If a property holds of every part that an element of a list may have, it holds of all parts found in the list.
use Rattle.std.proofs.Common.{All, List, [], ◌∷◌, Option, Some, None, IfSome}
use Rattle.std.specs.List.{filter_map, cons_option}
use Rattle.std.proofs.lemmas.List.Elements.{All-cons, All-head, All-nil, All-tail}

module _ {X Y : Type 0} (P : Y → Type 0) (part : X → Option Y) where
  one_more : (found : Option Y) (ys : List Y) → IfSome found P → All P ys → All P (cons_option found ys)
  one_more None ys holds others = others
  one_more (Some y) ys holds others = All-cons P y ys holds others

  pub All-filter_map : (xs : List X) → All (λ x. IfSome (part x) P) xs → All P (filter_map part xs)
  All-filter_map [] all = All-nil P
  All-filter_map (x ∷ xs) all =
      one_more (part x) (filter_map part xs) (All-head (λ x. IfSome (part x) P) x xs all)
      (All-filter_map xs (All-tail (λ x. IfSome (part x) P) x xs all))
