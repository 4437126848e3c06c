-- A request whose prefixes are sorted, and some of them dropped: its bytes are counted as before.
use Rattle.std.proofs.Common.{◌≡◌, ℕ, ◌+◌, ◌≤◌, ◌<◌, Bool, true, false, if◌then◌else◌, List, [], ◌∷◌, All, length, map, refl}
use Rattle.std.proofs.Common.{ap, sym, subst, arith, rules}
use Rattle.std.specs.List.{dedup, dedup_from, sum_by}
use Rattle.std.specs.List.Sorted.{IsPermutation}
use Rattle.std.proofs.lemmas.List.{get_or-map, length-map}
use Rattle.std.proofs.lemmas.List.Sums.{sum_by-cons}
use Rattle.std.proofs.lemmas.List.Filters.{All-dedup}
use Rattle.std.proofs.lemmas.List.Sorted.{All-permutation, IsPermutation-map, sum_by-IsPermutation}
use Rattle.git_names.specs.declared.object_format.Format.{Format}
use Rattle.git_names.specs.declared.object_format.Format.TheVariants.{Sha1}
use Rattle.git_msg.specs.Arguments.{Arg, IsInRange, with_text, written_text}
use Rattle.git_msg.specs.declared.words.Word.{Word}
use Rattle.git_msg.specs.declared.words.Word.TheVariants.{Text as of_text}
use Rattle.git_msg.specs.declared.words.TextWord.{TextWord}
use Rattle.git_msg.specs.Asked.{bytes_of, is_word}
use Rattle.git_msg.specs.Kept.{IsSound}
use Rattle.git_msg.specs.Machine.ArgumentLists.{held, held_at, stored}
use Rattle.git_msg.specs.Machine.HeldTexts.{texts_of}
use Rattle.git_msg.specs.declared.lists.ArgumentLists.{ArgumentLists}
use Rattle.git_msg.proofs.HeldArguments.{all_held, all_of_word, fewer_held, held_in_order}
use Rattle.git_msg.specs.Prefixes.{Prunes, begins}

-- fewer prefixes have no more bytes, and a property of all arguments still holds
module _ (P : Arg → Type 0) (make : List ℕ → Arg) where
  abbrev weight : Arg → ℕ
  weight arg = length (written_text arg)

  less_step : (k x : List ℕ) (xs : List (List ℕ)) (b : Bool)
      → sum_by weight (map make (dedup_from begins k xs)) ≤ weight (make k) + sum_by weight (map make xs)
      → sum_by weight (map make (dedup_from begins x xs)) ≤ weight (make x) + sum_by weight (map make xs)
      → sum_by weight (map make (if b then dedup_from begins k xs else k ∷ dedup_from begins x xs)) ≤ weight (make k) +
      (weight (make x) + sum_by weight (map make xs))
  less_step k x xs true past next = omega (arith, past)
  less_step k x xs false past next = omega (arith, next, sum_by-cons weight (make k) (map make (dedup_from begins x xs)))

  less_from : (k : List ℕ) (xs : List (List ℕ)) → sum_by weight (map make (dedup_from begins k xs)) ≤ weight (make k) + sum_by weight (map make xs)
  less_from k [] = omega (arith, sum_by-cons weight (make k) [])
  less_from k (x ∷ xs) =
      subst (λ (n : ℕ). sum_by weight (map make (dedup_from begins k (x ∷ xs))) ≤ weight (make k) + n) (sym (sum_by-cons weight (make x) (map make xs)))
      (less_step k x xs (begins x k) (less_from k xs) (less_from x xs))

  pub less_pruned : (xs : List (List ℕ)) → sum_by weight (map make (dedup begins xs)) ≤ sum_by weight (map make xs)
  less_pruned [] = omega arith
  less_pruned (x ∷ xs) = search (rules, sum_by-cons, less_from)

  to_made : (xs : List (List ℕ)) → All P (map make xs) → All (λ p. P (make p)) xs
  to_made [] h = λ k d below. absurd (omega (arith, below))
  to_made (x ∷ xs) h = by_place
    where
      by_place : All (λ p. P (make p)) (x ∷ xs)
      by_place k d below = subst P (get_or-map make (x ∷ xs) k d (make d) below) (h k (make d) (omega (arith, below, length-map (x ∷ xs) make)))

  from_made : (xs : List (List ℕ)) → All (λ p. P (make p)) xs → All P (map make xs)
  from_made [] h = λ k d below. absurd (omega (arith, below))
  from_made (x ∷ xs) h = by_place
    where
      by_place : All P (map make (x ∷ xs))
      by_place k d below =
          let inside : k < length (x ∷ xs) = omega (arith, below, length-map (x ∷ xs) make) in
          subst P (sym (get_or-map make (x ∷ xs) k x d inside)) (h k x inside)

  pub all_pruned : (xs : List (List ℕ)) → All P (map make xs) → All P (map make (dedup begins xs))
  all_pruned xs h = from_made (dedup begins xs) (All-dedup begins (λ p. P (make p)) xs (to_made xs h))

  pub all_moved : (xs ys : List (List ℕ)) → IsPermutation xs ys → All P (map make xs) → All P (map make ys)
  all_moved xs ys moved = All-permutation P (map make xs) (map make ys) (IsPermutation-map make xs ys moved)

module _ {A : Type 0} (q new : ArgumentLists A)
    (others : (word : Word) → is_word word (of_text TextWord.RefPrefix) ≡ false → held_at new word ≡ held_at q word)
    (prunes : Prunes (texts_of q.texts TextWord.RefPrefix) (texts_of new.texts TextWord.RefPrefix)) where
  made : List (List ℕ) → List Arg
  made texts = map (with_text TextWord.RefPrefix) texts

  -- what holds of all arguments still does
  all_at : (P : Arg → Type 0) → All P (held q) → (word : Word) → All P (held_at new word)
  unfolding made
  all_at P all (of_text TextWord.RefPrefix) =
      subst (λ (ps : List (List ℕ)). All P (made ps)) (sym prunes.kept)
      (all_pruned P (with_text TextWord.RefPrefix) prunes.moved
      (all_moved P (with_text TextWord.RefPrefix) (texts_of q.texts TextWord.RefPrefix) prunes.moved prunes.same
      (all_of_word q P all (of_text TextWord.RefPrefix))))
  all_at P all word = subst (All P) (sym (others word refl)) (all_of_word q P all word)

  pub all_stay : (P : Arg → Type 0) → All P (held q) → All P (held new)
  all_stay P all = all_held new P (all_at P all)

  -- and have no more bytes
  bytes_at : (word : Word) → bytes_of (held_at new word) ≤ bytes_of (held_at q word)
  unfolding made
  bytes_at (of_text TextWord.RefPrefix) =
      let less = less_pruned (IsInRange Sha1) (with_text TextWord.RefPrefix) prunes.moved in
      let now = ap (λ (ps : List (List ℕ)). bytes_of (made ps)) prunes.kept in
      let same = sum_by-IsPermutation (λ arg. length (written_text arg)) (made (texts_of q.texts TextWord.RefPrefix)) (made prunes.moved)
      (IsPermutation-map (with_text TextWord.RefPrefix) (texts_of q.texts TextWord.RefPrefix) prunes.moved prunes.same) in
      omega (arith, less, now, same)
  bytes_at word = omega (arith, ap bytes_of (others word refl))

  pub sound_pruned : (format : Format) (kept limit : ℕ) → stored new ≤ stored q
      → IsSound (record { format = format; asked = held q; kept = kept; limit = limit; stored = stored q })
      → IsSound (record { format = format; asked = held new; kept = kept; limit = limit; stored = stored new })
  sound_pruned format kept limit less h = record {
    ranges = all_stay (IsInRange format) h.ranges;
    in_order = held_in_order new;
    written = omega (arith, h.written, fewer_held q new (λ arg. length (written_text arg)) bytes_at);
    covered = omega (arith, less, h.covered);
    space = h.space;
    in_range = h.in_range;
  }
