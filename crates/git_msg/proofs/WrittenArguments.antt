-- Arguments as they are written: what one more adds, and that they ask for the same.
use Rattle.std.proofs.Common.{arith, ◌≡◌, ℕ, ◌+◌, ◌≤◌, Bool, true, false, not, ◌&&◌, List, [], ◌∷◌, ◌++◌, refl, sym, ap, ◌∙◌, append-nil}
use Rattle.std.proofs.Common.{if◌then◌else◌, Option, None}
use Rattle.std.specs.Prelude.{All, sum_by}
use Rattle.std.specs.List.{filter_map, flat_map, list_any, cons_option}
use Rattle.std.proofs.lemmas.Grind.{common_steps}
use Rattle.std.proofs.lemmas.List.Elements.{filter-append, filter_passes, All-filter, All-append, All-nil, All-head, All-tail}
use Rattle.std.proofs.lemmas.List.Sums.{sum_by-append, sum_by-cons}
use Rattle.git_msg.specs.declared.flags.Flag.{Flag}
use Rattle.git_msg.specs.declared.words.Word.{Word}
use Rattle.git_msg.specs.declared.words.Word.TheVariants.{Flag as of_flag, Object as of_object, Text as of_text, Number as of_number}
use Rattle.git_msg.specs.declared.words.ObjectWord.{ObjectWord}
use Rattle.git_msg.specs.declared.words.TextWord.{TextWord}
use Rattle.git_msg.specs.declared.words.NumberWord.{NumberWord}
use Rattle.git_msg.specs.Arguments.{Arg, word_of, words}
use Rattle.git_msg.specs.Asked.{is_word, is_of, of_word, last_counts, last_alone, all_or_last, counting, written, with_one, AreInOrder}
use Rattle.git_msg.specs.Asked.{value_in}
use Rattle.git_msg.proofs.HeadWords.{apart}

-- what counts of a word's arguments with one more after them
abbrev pub added_as : Bool → List Arg → Arg → List Arg
added_as true args arg = arg ∷ []
added_as false args arg = args ++ arg ∷ []

abbrev pub added : Word → List Arg → Arg → List Arg
added word args arg = if is_of word arg then added_as (last_counts word) args arg else args

last_behind : (args : List Arg) (arg : Arg) → last_alone (args ++ arg ∷ []) ≡ arg ∷ []
last_behind [] arg = refl
last_behind (a ∷ []) arg = refl
last_behind (a ∷ b ∷ args) arg = last_behind (b ∷ args) arg

added_by : (is last : Bool) (args : List Arg) (arg : Arg)
    → all_or_last last (args ++ (if is then arg ∷ [] else [])) ≡ (if is then added_as last (all_or_last last args) arg else all_or_last last args)
added_by true true args arg = last_behind args arg
added_by true false args arg = refl
added_by false last args arg = ap (all_or_last last) (append-nil args)

one_alone : (word : Word) (arg : Arg) (is : Bool) → is_of word arg ≡ is → of_word word (arg ∷ []) ≡ (if is then arg ∷ [] else [])
one_alone word arg true is = grind (arith, common_steps, is)
one_alone word arg false is = grind (arith, common_steps, is)

pub one_more : (word : Word) (args : List Arg) (arg : Arg) → counting word (args ++ arg ∷ []) ≡ added word (counting word args) arg
one_more word args arg =
    ap (all_or_last (last_counts word))
    (filter-append (is_of word) args (arg ∷ []) ∙ ap (λ (l : List Arg). of_word word args ++ l) (one_alone word arg (is_of word arg) refl))
    ∙ added_by (is_of word arg) (last_counts word) (of_word word args) arg

-- the word is none of these
abbrev never : Word → List Word → Bool
never word [] = true
never word (first ∷ order) = not (is_word first word) && never word order

-- the word is just one of these
abbrev IsInAs : Bool → Type 0 → Type 0 → Type 0
IsInAs true here later = here
IsInAs false here later = later

abbrev IsIn : Word → List Word → Type 0
IsIn word [] = ⊥
IsIn word (first ∷ order) = IsInAs (is_word first word) ((first ≡ word) × (never word order ≡ true)) (IsIn word order)

-- each word is in the written order once
in_words : (word : Word) → IsIn word words
in_words (of_flag Flag.Size) = (refl, refl)
in_words (of_object ObjectWord.Want) = (refl, refl)
in_words (of_text TextWord.Filter) = (refl, refl)
in_words (of_number NumberWord.Deepen) = (refl, refl)
in_words word = (refl, refl)

-- lists of arguments by their words, one after the other
module _ (held : Word → List Arg) (own : (word : Word) → All (λ arg. is_of word arg ≡ true) (held word)) where
  -- looking for those of a word finds all of them
  finds_all : (word : Word) (l : List Arg) → All (λ arg. is_of word arg ≡ true) l → of_word word l ≡ l
  finds_all word [] h = refl
  finds_all word (a ∷ l) h =
      let one = All-head (λ (arg : Arg). is_of word arg ≡ true) a l h in
      let others = finds_all word l (All-tail (λ (arg : Arg). is_of word arg ≡ true) a l h) in
      grind (arith, common_steps, one, others)

  -- and looking for those of another word finds none
  finds_none : (word other : Word) (l : List Arg) → is_word other word ≡ false → All (λ arg. is_of other arg ≡ true) l → of_word word l ≡ []
  finds_none word other [] not h = refl
  finds_none word other (a ∷ l) not h =
      let one = All-head (λ (arg : Arg). is_of other arg ≡ true) a l h in
      let differs : is_of word a ≡ false = apart word other (word_of a) one not in
      let others = finds_none word other l not (All-tail (λ (arg : Arg). is_of other arg ≡ true) a l h) in
      grind (arith, common_steps, differs, others)

  none_at : (word first : Word) (order : List Word) (is : Bool) → is_word first word ≡ is → (not is && never word order) ≡ true
      → (never word order ≡ true → of_word word (flat_map held order) ≡ []) → of_word word (flat_map held (first ∷ order)) ≡ []
  none_at word first order true is h later = absurd (cc)
  none_at word first order false is h later =
      filter-append (is_of word) (held first) (flat_map held order) ∙ rw (finds_none word first (held first) is (own first), later h) refl

  none_found : (word : Word) (order : List Word) → never word order ≡ true → of_word word (flat_map held order) ≡ []
  none_found word [] h = refl
  none_found word (first ∷ order) h = none_at word first order (is_word first word) refl h (none_found word order)

  found_at : (word first : Word) (order : List Word) (is : Bool) → is_word first word ≡ is
      → IsInAs is ((first ≡ word) × (never word order ≡ true)) (IsIn word order)
      → (IsIn word order → of_word word (flat_map held order) ≡ held word) → of_word word (flat_map held (first ∷ order)) ≡ held word
  found_at word first order true is once later =
      filter-append (is_of word) (held first) (flat_map held order)
      ∙ rw (once.0, finds_all word (held word) (own word), none_found word order once.1) (append-nil (held word))
  found_at word first order false is once later =
      filter-append (is_of word) (held first) (flat_map held order) ∙ rw (finds_none word first (held first) is (own first)) (later once)

  found_in : (word : Word) (order : List Word) → IsIn word order → of_word word (flat_map held order) ≡ held word
  found_in word [] h = absurd h
  found_in word (first ∷ order) once = found_at word first order (is_word first word) refl once (found_in word order)

  pub found : (word : Word) → of_word word (flat_map held words) ≡ held word
  found word = found_in word words (in_words word)

pub same_lists : (f g : Word → List Arg) → ((word : Word) → f word ≡ g word) → (order : List Word) → flat_map f order ≡ flat_map g order
same_lists f g same [] = refl
same_lists f g same (word ∷ order) = rw (same word, same_lists f g same order) refl

-- lists that differ for one word alone
unchanged_at : (f g : Word → List Arg) (word first : Word) (order : List Word) (is : Bool) → is_word first word ≡ is → (is ≡ false → f first ≡ g first)
    → (not is && never word order) ≡ true → (never word order ≡ true → flat_map f order ≡ flat_map g order)
    → flat_map f (first ∷ order) ≡ flat_map g (first ∷ order)
unchanged_at f g word first order true is same h later = absurd (cc)
unchanged_at f g word first order false is same h later = rw (same refl, later h) refl

unchanged : (f g : Word → List Arg) (word : Word) → ((other : Word) → is_word other word ≡ false → f other ≡ g other)
    → (order : List Word) → never word order ≡ true → flat_map f order ≡ flat_map g order
unchanged f g word same [] h = refl
unchanged f g word same (first ∷ order) h =
    unchanged_at f g word first order (is_word first word) refl (same first) h (unchanged f g word same order)

-- lists of arguments that all count
module _ (held : Word → List Arg) (own : (word : Word) → All (λ arg. is_of word arg ≡ true) (held word))
    (count : (word : Word) → all_or_last (last_counts word) (held word) ≡ held word) where
  pub counts : (word : Word) → counting word (flat_map held words) ≡ held word
  counts word = ap (all_or_last (last_counts word)) (found held own word) ∙ count word

  pub in_order : AreInOrder (flat_map held words)
  in_order = same_lists held (λ word. counting word (flat_map held words)) (λ word. sym (counts word)) words

  -- with one more
  pub with_one_more : (more : Word → List Arg) (arg : Arg) → ((word : Word) → more word ≡ added word (held word) arg)
      → flat_map more words ≡ with_one (flat_map held words) arg
  with_one_more more arg is =
      same_lists more (λ word. counting word (flat_map held words ++ arg ∷ []))
      (λ word. is word ∙ ap (λ (l : List Arg). added word l arg) (sym (counts word)) ∙ sym (one_more word (flat_map held words) arg)) words

-- ---- what counts of any arguments

all_last : (P : Arg → Type 0) (args : List Arg) → All P args → All P (last_alone args)
all_last P [] h = h
all_last P (a ∷ []) h = h
all_last P (a ∷ b ∷ args) h = all_last P (b ∷ args) (All-tail P a (b ∷ args) h)

all_kept : (P : Arg → Type 0) (last : Bool) (args : List Arg) → All P args → All P (all_or_last last args)
all_kept P true args h = all_last P args h
all_kept P false args h = h

last_of_last : (args : List Arg) → last_alone (last_alone args) ≡ last_alone args
last_of_last [] = refl
last_of_last (a ∷ []) = refl
last_of_last (a ∷ b ∷ args) = last_of_last (b ∷ args)

twice : (last : Bool) (args : List Arg) → all_or_last last (all_or_last last args) ≡ all_or_last last args
twice true args = last_of_last args
twice false args = refl

module _ (args : List Arg) where
  pub counted_own : (word : Word) → All (λ arg. is_of word arg ≡ true) (counting word args)
  counted_own word = all_kept (λ arg. is_of word arg ≡ true) (last_counts word) (of_word word args) (filter_passes (is_of word) args)

  counted_twice : (word : Word) → all_or_last (last_counts word) (counting word args) ≡ counting word args
  counted_twice word = twice (last_counts word) (of_word word args)

  -- what is written asks for the same
  pub written_again : AreInOrder (written args)
  written_again = in_order (λ word. counting word args) counted_own counted_twice

  -- and one more argument adds the same to it
  pub one_behind : (arg : Arg) → with_one args arg ≡ with_one (written args) arg
  one_behind arg =
      with_one_more (λ word. counting word args) counted_own counted_twice (λ word. counting word (args ++ arg ∷ [])) arg (λ word. one_more word args arg)

-- what holds of each argument holds of each that is written
pub all_flat : (P : Arg → Type 0) (f : Word → List Arg) → ((word : Word) → All P (f word)) → (order : List Word) → All P (flat_map f order)
all_flat P f each [] = All-nil P
all_flat P f each (word ∷ order) = All-append P (f word) (flat_map f order) (each word) (all_flat P f each order)

pub all_written : (P : Arg → Type 0) (args : List Arg) → All P args → All P (written args)
all_written P args h =
    all_flat P (λ word. counting word args)
    (λ word. all_kept P (last_counts word) (of_word word args) (All-filter (is_of word) P args h)) words

-- ---- what one argument more writes

module _ (bytes : Arg → ℕ) (args : List Arg) (arg : Arg) where
  abbrev new_of : Word → List Arg
  new_of word = counting word (args ++ arg ∷ [])

  abbrev old_of : Word → List Arg
  old_of word = counting word args

  same_of : (word : Word) → is_of word arg ≡ false → new_of word ≡ old_of word
  same_of word not = one_more word args arg ∙ ap (λ (b : Bool). if b then added_as (last_counts word) (old_of word) arg else old_of word) not

  no_more_as : (last : Bool) (old : List Arg) → sum_by bytes (added_as last old arg) ≤ sum_by bytes old + bytes arg
  no_more_as true old = omega (arith, sum_by-cons bytes arg [])
  no_more_as false old = omega (arith, sum_by-append bytes old (arg ∷ []), sum_by-cons bytes arg [])

  no_more_of : (word : Word) → is_of word arg ≡ true → sum_by bytes (new_of word) ≤ sum_by bytes (old_of word) + bytes arg
  no_more_of word is =
      let new = one_more word args arg ∙ ap (λ (b : Bool). if b then added_as (last_counts word) (old_of word) arg else old_of word) is in
      rw new (no_more_as (last_counts word) (old_of word))

  no_more_at : (first : Word) (order : List Word) (is : Bool) → is_of first arg ≡ is
      → IsInAs is ((first ≡ (word_of arg)) × (never (word_of arg) order ≡ true)) (IsIn (word_of arg) order)
      → (IsIn (word_of arg) order → sum_by bytes (flat_map new_of order) ≤ sum_by bytes (flat_map old_of order) + bytes arg)
      → sum_by bytes (flat_map new_of (first ∷ order)) ≤ sum_by bytes (flat_map old_of (first ∷ order)) + bytes arg
  no_more_at first order true is once more =
      let head = no_more_of first is in
      let tail = ap (sum_by bytes) (unchanged new_of old_of (word_of arg) same_of order once.1) in
      omega (
        arith,
        head,
        tail,
        sum_by-append bytes (new_of first) (flat_map new_of order),
        sum_by-append bytes (old_of first) (flat_map old_of order),
      )
  no_more_at first order false is once more =
      let head = ap (sum_by bytes) (same_of first is) in
      omega (
        arith,
        head,
        more once,
        sum_by-append bytes (new_of first) (flat_map new_of order),
        sum_by-append bytes (old_of first) (flat_map old_of order),
      )

  no_more_in : (order : List Word) → IsIn (word_of arg) order → sum_by bytes (flat_map new_of order) ≤ sum_by bytes (flat_map old_of order) + bytes arg
  no_more_in [] once = absurd once
  no_more_in (first ∷ order) once = no_more_at first order (is_of first arg) refl once (no_more_in order)

  pub writes_no_more : sum_by bytes (with_one args arg) ≤ sum_by bytes (written args) + bytes arg
  writes_no_more = no_more_in words (in_words (word_of arg))

-- ---- looking up

at_value : {X : Type 0} (value : Arg → Option X) (word : Word) (arg : Arg) (args : List Arg) (is : Bool) → is_of word arg ≡ is
    → cons_option (if is then value arg else None) (filter_map value (of_word word args))
    ≡ filter_map value (if is then arg ∷ of_word word args else of_word word args)
at_value value word arg args true is = refl
at_value value word arg args false is = refl

pub by_value : {X : Type 0} (value : Arg → Option X) (word : Word) (args : List Arg)
    → filter_map (value_in value word) args ≡ filter_map value (of_word word args)
by_value value word [] = refl
by_value value word (arg ∷ args) =
    ap (cons_option (if is_of word arg then value arg else None)) (by_value value word args) ∙ at_value value word arg args (is_of word arg) refl

abbrev pub is_some : List Arg → Bool
is_some [] = false
is_some (arg ∷ args) = true

any_at : (word : Word) (arg : Arg) (args : List Arg) (is : Bool) → is_of word arg ≡ is → list_any (is_of word) args ≡ is_some (of_word word args)
    → list_any (is_of word) (arg ∷ args) ≡ is_some (of_word word (arg ∷ args))
any_at word arg args true is later = grind (arith, common_steps, is)
any_at word arg args false is later = grind (arith, common_steps, is, later)

pub any_of : (word : Word) (args : List Arg) → list_any (is_of word) args ≡ is_some (of_word word args)
any_of word [] = refl
any_of word (arg ∷ args) = any_at word arg args (is_of word arg) refl (any_of word args)
