-- The lists that are stored of a request are its arguments in their order, and looking up in these finds what is stored.
use Rattle.std.proofs.Common.{arith, ◌≡◌, ℕ, ◌+◌, ◌<◌, ◌≤◌, subst, ◌==◌, ◌||◌, Bool, true, false, Option, Some, None, List, [], ◌∷◌, ◌++◌, map, refl, sym}
use Rattle.std.proofs.Common.{ap, append-nil, ◌∙◌, add-one, drop, drop-cons, get_or, length, if◌then◌else◌}
use Rattle.std.specs.Prelude.{All, set, slice_get, sum_by}
use Rattle.std.proofs.Common.{◌-◌, suc, zero}
use Rattle.std.specs.List.{filter_map, flat_map, list_any}
use Rattle.std.proofs.lemmas.List.{map-append}
use Rattle.std.proofs.lemmas.List.Elements.{All-nil, All-cons, All-filter, All-map}
use Rattle.std.proofs.lemmas.List.Sums.{sum_by-append}
use Rattle.git_names.specs.ObjectName.{ObjectName}
use Rattle.git_msg.specs.declared.flags.Flag.{Flag}
use Rattle.git_msg.specs.declared.flags.FlagSet.{FlagSet}
use Rattle.git_msg.specs.declared.lists.ArgumentLists.{ArgumentLists}
use Rattle.git_msg.specs.declared.parts.Lists.{Lists}
use Rattle.git_msg.specs.declared.parts.Texts.{Texts}
use Rattle.git_msg.specs.declared.words.Word.{Word}
use Rattle.git_msg.specs.declared.words.Word.TheVariants.{Flag as of_flag, Object as of_object, Text as of_text, Number as of_number}
use Rattle.git_msg.specs.declared.words.ObjectWord.{ObjectWord}
use Rattle.git_msg.specs.declared.words.TextWord.{TextWord}
use Rattle.git_msg.specs.declared.words.NumberWord.{NumberWord}
use Rattle.git_msg.specs.Arguments.{Arg, alone, with_id, with_number, with_text, words}
use Rattle.git_msg.specs.Asked.{is_given, is_word, is_of, of_word, last_counts, all_or_last, AreInOrder, flag_among, value_in}
use Rattle.git_msg.specs.Asked.{id_of, ids, number, number_of, text_of, texts, where_asked, where_given, with_one}
use Rattle.git_msg.specs.Machine.ArgumentLists.{held, held_at, ids_at, is_held, number_at, number_place, object_place, place_of}
use Rattle.git_msg.specs.Machine.PlacedLists.{items_at, items_in, lists_of}
use Rattle.git_msg.specs.Machine.TextPools.{text_place, where_same}
use Rattle.git_msg.specs.Machine.HeldTexts.{texts_of}
use Rattle.git_msg.specs.Prefixes.{ShowAlike, is_shown}
use Rattle.git_msg.specs.Texts.{last_of}
use Rattle.git_msg.proofs.HeadWords.{itself, same_word}
use Rattle.git_msg.proofs.PlacedLists.{none_given, nothing_at, replaced}
use Rattle.git_msg.proofs.WrittenArguments.{added, all_flat, any_of, by_value, found, in_order, is_some, same_lists, with_one_more}

-- words are the same just where their places are
flag_place : (a b : Flag) → (place_of a == place_of b) ≡ is_word (of_flag a) (of_flag b)
flag_place Flag.Size Flag.Size = refl
flag_place a Flag.Size = refl
flag_place a b = refl

list_place : (a b : ObjectWord) → (object_place a == object_place b) ≡ is_word (of_object a) (of_object b)
list_place ObjectWord.Want ObjectWord.Want = refl
list_place a ObjectWord.Want = refl
list_place a b = refl

pool_place : (a b : TextWord) → (text_place a == text_place b) ≡ is_word (of_text a) (of_text b)
pool_place TextWord.Filter TextWord.Filter = refl
pool_place a TextWord.Filter = refl
pool_place a b = refl

own_place : (a b : NumberWord) → (number_place a == number_place b) ≡ is_word (of_number a) (of_number b)
own_place NumberWord.Deepen NumberWord.Deepen = refl
own_place a NumberWord.Deepen = refl
own_place a b = refl

same_flag : (a b : Flag) → is_word (of_flag a) (of_flag b) ≡ true → a ≡ b
same_flag a b h = let same = same_word (of_flag a) (of_flag b) h in cc

same_list : (a b : ObjectWord) → is_word (of_object a) (of_object b) ≡ true → a ≡ b
same_list a b h = let same = same_word (of_object a) (of_object b) h in cc

same_pool : (a b : TextWord) → is_word (of_text a) (of_text b) ≡ true → a ≡ b
same_pool a b h = let same = same_word (of_text a) (of_text b) h in cc

same_own : (a b : NumberWord) → is_word (of_number a) (of_number b) ≡ true → a ≡ b
same_own a b h = let same = same_word (of_number a) (of_number b) h in cc

-- what is made of the values of a word has it
all_made : {X : Type 0} (word : Word) (make : X → Arg) (xs : List X) → ((x : X) → is_of word (make x) ≡ true)
    → All (λ arg. is_of word arg ≡ true) (map make xs)
all_made word make xs own = All-map (λ (arg : Arg). is_of word arg ≡ true) make xs (λ i d within. own (get_or xs i d))

own_flag : (set : Bool) (flag : Flag) → All (λ arg. is_of (of_flag flag) arg ≡ true) (where_asked set flag)
own_flag true flag = All-cons (λ (arg : Arg). is_of (of_flag flag) arg ≡ true) (alone flag) [] (itself (of_flag flag)) (All-nil _)
own_flag false flag = All-nil _

own_number : (word : NumberWord) (given : Option ℕ) → All (λ arg. is_of (of_number word) arg ≡ true) (where_given word given)
own_number word None = All-nil _
own_number word (Some n) = All-cons (λ (arg : Arg). is_of (of_number word) arg ≡ true) (with_number word n) [] (itself (of_number word)) (All-nil _)

one_flag : (set : Bool) (flag : Flag) → all_or_last true (where_asked set flag) ≡ where_asked set flag
one_flag true flag = refl
one_flag false flag = refl

one_number : (word : NumberWord) (given : Option ℕ) → all_or_last true (where_given word given) ≡ where_given word given
one_number word None = refl
one_number word (Some n) = refl

some_flag : (set : Bool) (flag : Flag) → is_some (where_asked set flag) ≡ set
some_flag true flag = refl
some_flag false flag = refl

some_number : (word : NumberWord) (given : Option ℕ) → last_of (filter_map number_of (where_given word given)) ≡ given
some_number word None = refl
some_number word (Some n) = refl

all_there : {X : Type 0} (value : Arg → Option X) (make : X → Arg) → ((x : X) → value (make x) ≡ Some x) → (xs : List X)
    → filter_map value (map make xs) ≡ xs
all_there value make is [] = refl
all_there value make is (x ∷ xs) = rw (is x, all_there value make is xs) refl

-- an item of two lists, one behind the other
get_front : {X : Type 0} (xs ys : List X) (i : ℕ) → i < length xs → slice_get (xs ++ ys) i ≡ slice_get xs i
get_front [] ys i below = absurd (omega (arith, below))
get_front (x ∷ xs) ys zero below = refl
get_front (x ∷ xs) ys (suc i) below = get_front xs ys i (omega (arith, below))

get_behind : {X : Type 0} (xs ys : List X) (i : ℕ) → length xs ≤ i → slice_get (xs ++ ys) i ≡ slice_get ys (i - length xs)
get_behind [] ys i past = let same : i ≡ i - 0 = omega arith in ap (slice_get ys) same
get_behind (x ∷ xs) ys zero past = absurd (omega (arith, past))
get_behind (x ∷ xs) ys (suc i) past =
    let same : i - length xs ≡ suc i - length (x ∷ xs) = omega arith in get_behind xs ys i (omega (arith, past)) ∙ ap (slice_get ys) same

-- the arguments of a word's values, with one value more for one word
module _ {W X : Type 0} (make : W → X → Arg) where
  one_made : (old : List X) (one of : W) (x : X) (is : Bool) → (is ≡ true → of ≡ one)
      → map (make of) (old ++ (if is then x ∷ [] else [])) ≡ (if is then map (make of) old ++ make one x ∷ [] else map (make of) old)
  one_made old one of x true same = rw (same refl) (map-append (make one) old (x ∷ []))
  one_made old one of x false same = ap (map (make of)) (append-nil old)

module _ {A : Type 0} (q : ArgumentLists A) where
  held_own : (word : Word) → All (λ arg. is_of word arg ≡ true) (held_at q word)
  held_own (of_flag flag) = own_flag (is_held q.flags flag) flag
  held_own (of_object word) = all_made (of_object word) (with_id word) (ids_at q word) (λ id. itself (of_object word))
  held_own (of_text word) = all_made (of_text word) (with_text word) (texts_of q.texts word) (λ text. itself (of_text word))
  held_own (of_number word) = own_number word (number_at q word)

  held_count : (word : Word) → all_or_last (last_counts word) (held_at q word) ≡ held_at q word
  held_count (of_flag flag) = one_flag (is_held q.flags flag) flag
  held_count (of_number word) = one_number word (number_at q word)
  held_count word = refl

  pub held_in_order : AreInOrder (held q)
  unfolding held
  held_in_order = in_order (held_at q) held_own held_count

  -- looking up
  values_are : {X : Type 0} (value : Arg → Option X) (word : Word) → filter_map (value_in value word) (held q) ≡ filter_map value (held_at q word)
  unfolding held
  values_are value word = by_value value word (held q) ∙ ap (filter_map value) (found (held_at q) held_own word)

  pub ids_are : (word : ObjectWord) → ids word (held q) ≡ ids_at q word
  ids_are word = values_are id_of (of_object word) ∙ all_there id_of (with_id word) (λ id. refl) (ids_at q word)

  pub texts_are : (word : TextWord) → texts word (held q) ≡ texts_of q.texts word
  texts_are word = values_are text_of (of_text word) ∙ all_there text_of (with_text word) (λ text. refl) (texts_of q.texts word)

  pub number_is : (word : NumberWord) → number word (held q) ≡ number_at q word
  number_is word = ap last_of (values_are number_of (of_number word)) ∙ some_number word (number_at q word)

  pub flag_is : (flag : Flag) → flag_among (held q) flag ≡ is_held q.flags flag
  unfolding held
  flag_is flag = any_of (of_flag flag) (held q) ∙ ap is_some (found (held_at q) held_own (of_flag flag)) ∙ some_flag (is_held q.flags flag) flag

  -- the lists after one more argument
  abbrev Adds : Arg → ArgumentLists A → Type 0
  Adds arg new = (word : Word) → held_at new word ≡ added word (held_at q word) arg

  adds_one : (new : ArgumentLists A) (arg : Arg) → Adds arg new → held new ≡ with_one (held q) arg
  unfolding held
  adds_one new arg adds = with_one_more (held_at q) held_own held_count (held_at new) arg adds

  set_flag : (of flag : Flag) (is set : Bool) → (is ≡ true → of ≡ flag)
      → where_asked (is || set) of ≡ (if is then alone flag ∷ [] else where_asked set of)
  set_flag of flag true set same = rw (same refl) refl
  set_flag of flag false set same = refl

  pub adds_flag : (new : FlagSet) (flag : Flag)
      → ((place : ℕ) → get_or new.set place false ≡ ((place == place_of flag) || get_or q.flags.set place false))
      → held (record q { flags = new }) ≡ with_one (held q) (alone flag)
  adds_flag new flag is = adds_one (record q { flags = new }) (alone flag) adds
    where
      adds : Adds (alone flag) (record q { flags = new })
      adds (of_flag of) =
          ap (λ (set : Bool). where_asked set of) (is (place_of of) ∙ ap (λ (b : Bool). b || is_held q.flags of) (flag_place of flag))
          ∙ set_flag of flag (is_word (of_flag of) (of_flag flag)) (is_held q.flags of) (same_flag of flag)
      adds word = refl

  pub adds_id : (new : Lists ObjectName A) (word : ObjectWord) (id : ObjectName)
      → ((of : ℕ) → items_at new of ≡ items_at q.objects of ++ where_same of (object_place word) id)
      → held (record q { objects = new }) ≡ with_one (held q) (with_id word id)
  adds_id new word id is = adds_one (record q { objects = new }) (with_id word id) adds
    where
      adds : Adds (with_id word id) (record q { objects = new })
      adds (of_object of) =
          ap (map (with_id of)) (is (object_place of))
          ∙ one_made with_id (ids_at q of) word of id (object_place of == object_place word) (λ e. same_list of word (sym (list_place of word) ∙ e))
          ∙ ap (λ (b : Bool). if b then map (with_id of) (ids_at q of) ++ with_id word id ∷ [] else map (with_id of) (ids_at q of)) (list_place of word)
      adds other = refl

  pub adds_text : (new : Texts A) (word : TextWord) (text : List ℕ)
      → ((of : TextWord) → texts_of new of ≡ texts_of q.texts of ++ where_same (text_place of) (text_place word) text)
      → held (record q { texts = new }) ≡ with_one (held q) (with_text word text)
  adds_text new word text is = adds_one (record q { texts = new }) (with_text word text) adds
    where
      adds : Adds (with_text word text) (record q { texts = new })
      adds (of_text of) =
          ap (map (with_text of)) (is of)
          ∙ one_made with_text (texts_of q.texts of) word of text (text_place of == text_place word) (λ e. same_pool of word (sym (pool_place of word) ∙ e))
          ∙ ap (λ (b : Bool). if b then map (with_text of) (texts_of q.texts of) ++ with_text word text ∷ [] else map (with_text of) (texts_of q.texts of))
          (pool_place of word)
      adds other = refl

  -- or after none
  pub same_ids : (new : Lists ObjectName A) → ((of : ℕ) → items_at new of ≡ items_at q.objects of) → held (record q { objects = new }) ≡ held q
  unfolding held
  same_ids new is = same_lists (held_at (record q { objects = new })) (held_at q) same words
    where
      same : (word : Word) → held_at (record q { objects = new }) word ≡ held_at q word
      same (of_object of) = ap (map (with_id of)) (is (object_place of))
      same other = refl

  pub same_texts : (new : Texts A) → ((of : TextWord) → texts_of new of ≡ texts_of q.texts of) → held (record q { texts = new }) ≡ held q
  unfolding held
  same_texts new is = same_lists (held_at (record q { texts = new })) (held_at q) same words
    where
      same : (word : Word) → held_at (record q { texts = new }) word ≡ held_at q word
      same (of_text of) = ap (map (with_text of)) (is of)
      same other = refl

  -- where the prefixes are others
  pub elsewhere : (new : Texts A) → ((of : TextWord) → (text_place of == 0) ≡ false → texts_of new of ≡ texts_of q.texts of)
      → (of : Word) → is_word of (of_text TextWord.RefPrefix) ≡ false → held_at (record q { texts = new }) of ≡ held_at q of
  elsewhere new same (of_text of) other = ap (map (with_text of)) (same of (pool_place of TextWord.RefPrefix ∙ other))
  elsewhere new same of other = refl

  given_number : (of word : NumberWord) (is : Bool) (new : ℕ) (old : Option ℕ) → (is ≡ true → of ≡ word)
      → where_given of (if is then Some new else old) ≡ (if is then with_number word new ∷ [] else where_given of old)
  given_number of word true new old same = rw (same refl) refl
  given_number of word false new old same = refl

  pub adds_number : (at : ℕ) (word : NumberWord) (number : ℕ) → at ≡ number_place word → at < length q.numbers
      → held (record q { numbers = set q.numbers at (Some number) }) ≡ with_one (held q) (with_number word number)
  adds_number at word number there within = adds_one (record q { numbers = set q.numbers at (Some number) }) (with_number word number) adds
    where
      adds : Adds (with_number word number) (record q { numbers = set q.numbers at (Some number) })
      adds (of_number of) =
          ap (where_given of) (replaced q.numbers at (number_place of) (Some number) None within
          ∙ ap (λ (b : Bool). if b then Some number else number_at q of) (ap (λ (n : ℕ). number_place of == n) there ∙ own_place of word))
          ∙ given_number of word (is_word (of_number of) (of_number word)) number (number_at q of) (same_own of word)
      adds other = refl

  -- nothing is held in empty lists
  module _ (flags : (place : ℕ) → get_or q.flags.set place false ≡ false) (objects : items_in q.objects ≡ 0)
      (texts : (word : TextWord) → texts_of q.texts word ≡ []) (numbers : list_any is_given q.numbers ≡ false) where
    none_at : (word : Word) → held_at q word ≡ []
    none_at (of_flag flag) = ap (λ (set : Bool). where_asked set flag) (flags (place_of flag))
    none_at (of_object word) = ap (map (with_id word)) (nothing_at (map (λ v. v.items) (lists_of q.objects)) (object_place word) objects)
    none_at (of_text word) = ap (map (with_text word)) (texts word)
    none_at (of_number word) = ap (where_given word) (none_given q.numbers (number_place word) numbers)

    pub none_held : held q ≡ []
    unfolding held
    none_held = same_lists (held_at q) (λ word. []) none_at words

  -- the server options alone
  abbrev option_word : Word
  option_word = of_text TextWord.ServerOption

  abbrev alone_at : Word → List Arg
  alone_at word = if is_word word option_word then held_at q option_word else []

  module _ (new : ArgumentLists A) (flags : (place : ℕ) → get_or new.flags.set place false ≡ false) (objects : items_in new.objects ≡ 0)
      (same : texts_of new.texts TextWord.ServerOption ≡ texts_of q.texts TextWord.ServerOption)
      (others : (word : TextWord) → (text_place word == 4) ≡ false → texts_of new.texts word ≡ [])
      (numbers : list_any is_given new.numbers ≡ false) where
    option_at : (word : Word) → held_at new word ≡ alone_at word
    option_at (of_flag flag) = ap (λ (set : Bool). where_asked set flag) (flags (place_of flag))
    option_at (of_object word) = ap (map (with_id word)) (nothing_at (map (λ v. v.items) (lists_of new.objects)) (object_place word) objects)
    option_at (of_text TextWord.ServerOption) = ap (map (with_text TextWord.ServerOption)) same
    option_at (of_text word) = ap (map (with_text word)) (others word refl)
    option_at (of_number word) = ap (where_given word) (none_given new.numbers (number_place word) numbers)

    pub options_held : held new ≡ of_word option_word (held q)
    unfolding held
    options_held =
        same_lists (held_at new) alone_at option_at words ∙ append-nil (held_at q option_word) ∙ sym (found (held_at q) held_own option_word)

  -- the arguments from a word on
  from_word : (order : List Word) (i : ℕ) (d : Word) → i < length order
      → flat_map (held_at q) (drop i order) ≡ held_at q (get_or order i d) ++ flat_map (held_at q) (drop (i + 1) order)
  from_word order i d within = rw (add-one, drop-cons order i d within) refl

  pub own_argument : (order : List Word) (k i : ℕ) (d : Word) → k < length order → i < length (held_at q (get_or order k d))
      → slice_get (flat_map (held_at q) (drop k order)) i ≡ slice_get (held_at q (get_or order k d)) i
  own_argument order k i d within below =
      ap (λ (args : List Arg). slice_get args i) (from_word order k d within)
      ∙ get_front (held_at q (get_or order k d)) (flat_map (held_at q) (drop (k + 1) order)) i below

  pub later_argument : (order : List Word) (k i : ℕ) (d : Word) → k < length order → length (held_at q (get_or order k d)) ≤ i
      → slice_get (flat_map (held_at q) (drop k order)) i
      ≡ slice_get (flat_map (held_at q) (drop (k + 1) order)) (i - length (held_at q (get_or order k d)))
  later_argument order k i d within past =
      ap (λ (args : List Arg). slice_get args i) (from_word order k d within)
      ∙ get_behind (held_at q (get_or order k d)) (flat_map (held_at q) (drop (k + 1) order)) i past

  pub held_is : held q ≡ flat_map (held_at q) words
  unfolding held
  held_is = refl

  -- what holds of all arguments holds of those of each word
  pub all_of_word : (P : Arg → Type 0) → All P (held q) → (word : Word) → All P (held_at q word)
  unfolding held
  all_of_word P all word = subst (All P) (found (held_at q) held_own word) (All-filter (is_of word) P (flat_map (held_at q) words) all)

  pub all_held : (P : Arg → Type 0) → ((word : Word) → All P (held_at q word)) → All P (held q)
  unfolding held
  all_held P each = all_flat P (held_at q) each words

-- and if no word's arguments count for more, all do not
pub fewer_held : {A : Type 0} (q new : ArgumentLists A) (f : Arg → ℕ) → ((word : Word) → sum_by f (held_at new word) ≤ sum_by f (held_at q word))
    → sum_by f (held new) ≤ sum_by f (held q)
unfolding held
fewer_held q new f less = by_words words
  where
    by_words : (order : List Word) → sum_by f (flat_map (held_at new) order) ≤ sum_by f (flat_map (held_at q) order)
    by_words [] = omega arith
    by_words (word ∷ order) =
        omega (
          arith,
          less word,
          by_words order,
          sum_by-append f (held_at new word) (flat_map (held_at new) order),
          sum_by-append f (held_at q word) (flat_map (held_at q) order),
        )

-- the arguments of words whose lists are the same are found alike
pub flag_found : {A : Type 0} (q new : ArgumentLists A) (flag : Flag) → held_at new (of_flag flag) ≡ held_at q (of_flag flag)
    → flag_among (held new) flag ≡ flag_among (held q) flag
unfolding held
flag_found q new flag same =
    any_of (of_flag flag) (held new) ∙ ap is_some (found (held_at new) (held_own new) (of_flag flag) ∙ same)
    ∙ sym (any_of (of_flag flag) (held q) ∙ ap is_some (found (held_at q) (held_own q) (of_flag flag)))

pub prefixes_alike : {A : Type 0} (q new : ArgumentLists A) → ShowAlike (texts_of q.texts TextWord.RefPrefix) (texts_of new.texts TextWord.RefPrefix)
    → ShowAlike (texts TextWord.RefPrefix (held q)) (texts TextWord.RefPrefix (held new))
prefixes_alike q new alike name =
    ap (λ (ps : List (List ℕ)). is_shown ps name) (texts_are q TextWord.RefPrefix)
    ∙ alike name
    ∙ sym (ap (λ (ps : List (List ℕ)). is_shown ps name) (texts_are new TextWord.RefPrefix))
