-- The server options are the first of the arguments that are written.
use Rattle.std.proofs.Common.{arith, ◌≡◌, ◌⊎◌, inl, inr, Bool, true, false, not, List, [], ◌∷◌, ◌++◌, refl, sym, ap, subst, ◌∙◌}
use Rattle.std.specs.Prelude.{All, filter}
use Rattle.std.specs.List.{flat_map, list_all}
use Rattle.std.proofs.lemmas.Bool.{and_parts}
use Rattle.std.proofs.lemmas.Grind.{common_steps}
use Rattle.std.proofs.lemmas.List.Elements.{All-append, All-head, All-nil, All-tail, All-weaker}
use Rattle.git_msg.specs.declared.arguments.Command.TheVariants.{LsRefs, Fetch, ObjectInfo}
use Rattle.git_msg.specs.declared.words.Word.{Word}
use Rattle.git_msg.specs.declared.words.Word.TheVariants.{Text as of_text}
use Rattle.git_msg.specs.declared.words.TextWord.{TextWord}
use Rattle.git_msg.specs.Arguments.{Arg, with_text, word_of, words_of}
use Rattle.git_msg.specs.Asked.{is_word, is_of, counting, AreInOrder}
use Rattle.git_names.specs.declared.object_format.Format.{Format}
use Rattle.git_pkt.specs.Packets.{Pkt}
use Rattle.git_msg.specs.WrittenRequest.{argument_line, is_option, options_and_rest, options_apart}
use Rattle.git_msg.proofs.HeadWords.{apart}
use Rattle.git_msg.proofs.WrittenArguments.{counted_own}

-- none of the arguments is a server option
abbrev pub HaveNoOption : List Arg → Type 0
HaveNoOption args = All (λ arg. is_option arg ≡ false) args

-- the first ones are server options, and none of the others is
abbrev pub HaveOptionsFirst : List Arg → Type 0
HaveOptionsFirst [] = Unit {0}
HaveOptionsFirst (arg ∷ args) = ((is_option arg ≡ true) × HaveOptionsFirst args) ⊎ HaveNoOption (arg ∷ args)

-- server options have the word of their own
option_is : (arg : Arg) → is_of (of_text TextWord.ServerOption) arg ≡ is_option arg
option_is (with_text TextWord.ServerOption text) = refl
option_is (with_text TextWord.Filter text) = refl
option_is arg = refl

false_of_not : (b : Bool) → not b ≡ true → b ≡ false
false_of_not true h = absurd (cc)
false_of_not false h = refl

is_other : Word → Bool
is_other word = not (is_word word (of_text TextWord.ServerOption))

-- an argument with another word is none
other_is_none : (word : Word) → is_other word ≡ true → (arg : Arg) → is_of word arg ≡ true → is_option arg ≡ false
unfolding is_other
other_is_none word other arg is =
    sym (option_is arg)
    ∙ apart (of_text TextWord.ServerOption) word (word_of arg) is (false_of_not (is_word word (of_text TextWord.ServerOption)) other)

none_among : (args : List Arg) (order : List Word) → list_all is_other order ≡ true → HaveNoOption (flat_map (λ word. counting word args) order)
none_among args [] h = All-nil (λ arg. is_option arg ≡ false)
none_among args (word ∷ order) h =
    let others = and_parts _ _ h in
    All-append (λ arg. is_option arg ≡ false) (counting word args) (flat_map (λ w. counting w args) order)
    (All-weaker (λ arg. is_of word arg ≡ true) (λ arg. is_option arg ≡ false) (other_is_none word others.0) (counting word args) (counted_own args word))
    (none_among args order others.1)

-- options before arguments that are none
first_alone : (args : List Arg) → HaveNoOption args → HaveOptionsFirst args
first_alone [] none = tt
first_alone (arg ∷ args) none = inr none

options_before : (front args : List Arg) → All (λ arg. is_option arg ≡ true) front → HaveNoOption args → HaveOptionsFirst (front ++ args)
options_before [] args are none = first_alone args none
options_before (arg ∷ front) args are none =
    inl (All-head (λ a. is_option a ≡ true) arg front are, options_before front args (All-tail (λ a. is_option a ≡ true) arg front are) none)

-- all words but that of server options, which is the first
abbrev other_words : List Word
other_words = words_of LsRefs ++ (words_of Fetch ++ words_of ObjectInfo)

others_are_other : list_all is_other other_words ≡ true
unfolding is_other
others_are_other = refl

pub options_first : (args : List Arg) → AreInOrder args → HaveOptionsFirst args
options_first args in_order =
    subst HaveOptionsFirst (sym in_order)
    (options_before (counting (of_text TextWord.ServerOption) args) (flat_map (λ word. counting word args) other_words)
    (All-weaker (λ arg. is_of (of_text TextWord.ServerOption) arg ≡ true) (λ arg. is_option arg ≡ true) (λ arg is. sym (option_is arg) ∙ is)
    (counting (of_text TextWord.ServerOption) args) (counted_own args (of_text TextWord.ServerOption)))
    (none_among args other_words others_are_other))

-- so they are written apart from the others
no_options : (args : List Arg) → HaveNoOption args → filter is_option args ≡ []
no_options [] none = refl
no_options (arg ∷ args) none =
    let other = All-head (λ a. is_option a ≡ false) arg args none in
    let later = no_options args (All-tail (λ a. is_option a ≡ false) arg args none) in
    grind (arith, common_steps, other, later)

all_others : (args : List Arg) → HaveNoOption args → filter (λ arg. not (is_option arg)) args ≡ args
all_others [] none = refl
all_others (arg ∷ args) none =
    let other = All-head (λ a. is_option a ≡ false) arg args none in
    let later = all_others args (All-tail (λ a. is_option a ≡ false) arg args none) in
    grind (arith, common_steps, other, later)

module _ (object_format : Bool) (format : Format) where
  option_apart : (arg : Arg) (args : List Arg) (is : Bool) → is_option arg ≡ is → is ≡ true
      → options_and_rest object_format format args ≡ options_apart object_format format args
      → options_and_rest object_format format (arg ∷ args) ≡ options_apart object_format format (arg ∷ args)
  option_apart arg args true is one later = rw is (ap (λ (ps : List Pkt). argument_line arg ∷ ps) later)
  option_apart arg args false is one later = absurd (cc)

  others_apart : (arg : Arg) (args : List Arg) → is_option arg ≡ false → HaveNoOption (arg ∷ args)
      → options_and_rest object_format format (arg ∷ args) ≡ options_apart object_format format (arg ∷ args)
  others_apart arg args other none = rw (no_options (arg ∷ args) none, all_others (arg ∷ args) none, other) refl

  apart_by : (args : List Arg) → HaveOptionsFirst args
      → options_and_rest object_format format args ≡ options_apart object_format format args
  apart_by [] first = refl
  apart_by (arg ∷ args) (inl h) = option_apart arg args (is_option arg) refl h.0 (apart_by args h.1)
  apart_by (arg ∷ args) (inr none) = others_apart arg args (All-head (λ a. is_option a ≡ false) arg args none) none

  pub options_apart_of : (args : List Arg) → AreInOrder args
      → options_and_rest object_format format args ≡ options_apart object_format format args
  options_apart_of args in_order = apart_by args (options_first args in_order)
