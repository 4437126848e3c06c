-- The words at the head of lines: a line has one, and each is in the list of its command once.
use Rattle.std.proofs.Common.{arith, ◌≡◌, ◌≢◌, ℕ, ◌+◌, ◌<◌, ◌≤◌, ◌==◌, ◌||◌, true, false, not, List, [], ◌∷◌, ◌++◌, length, get_or, refl, sym, ap, ◌∙◌}
use Rattle.std.proofs.Common.{drop, subst, suc, zero, IfSome, inl, inr, if◌then◌else◌, Option, Some, None, append-nil, length-append}
use Rattle.std.specs.List.{before_first}
use Rattle.std.specs.Str.{bytes_eq}
use Rattle.std.proofs.Math.Nat.{eq-or-lt_of_le}
use Rattle.std.proofs.Math.Seq.{drop-append_seam}
use Rattle.std.proofs.lemmas.Bool.{false_from_ne_true}
use Rattle.std.proofs.lemmas.List.{get_or_default}
use Rattle.std.proofs.lemmas.Slice.Eq.{bytes_eq-Decides}
use Rattle.git_msg.specs.declared.arguments.Command.{Command}
use Rattle.git_msg.specs.declared.arguments.Command.TheVariants.{LsRefs, Fetch, ObjectInfo}
use Rattle.git_msg.specs.declared.flags.Flag.{Flag}
use Rattle.git_msg.specs.declared.words.Word.{Word}
use Rattle.git_msg.specs.declared.words.Word.TheVariants.{Flag as of_flag, Object as of_object, Text as of_text, Number as of_number}
use Rattle.git_msg.specs.declared.words.ObjectWord.{ObjectWord}
use Rattle.git_msg.specs.declared.words.TextWord.{TextWord}
use Rattle.git_msg.specs.declared.words.NumberWord.{NumberWord}
use Rattle.git_msg.specs.Arguments.{Arg, alone, with_id, line_of, row, word_of, words, words_of, written_text, written_value, IsNoArgument}
use Rattle.git_msg.specs.Flags.{flag_row}
use Rattle.git_msg.specs.Asked.{is_word, same_keyword}

-- the word at the head of a line, which a space or `=` ends
abbrev first_word : List ℕ → List ℕ
first_word line = before_first (λ c. c == 32 || c == 61) line

abbrev word_among : List Word → List ℕ → Option Word
word_among [] first = None
word_among (word ∷ others) first = if bytes_eq first (first_word (row word).keyword) then Some word else word_among others first

abbrev pub word_in : List ℕ → Option Word
word_in line = word_among words (first_word line)

pub word_heads : (word : Word) (value : List ℕ) → word_in (line_of word value) ≡ Some word
word_heads (of_flag Flag.Size) value = refl
word_heads (of_object ObjectWord.Want) value = refl
word_heads (of_text TextWord.Filter) value = refl
word_heads (of_number NumberWord.Deepen) value = refl
word_heads word value = refl

-- it is unique
pub one_word : (line : List ℕ) (word other : Word) (value next : List ℕ) → line ≡ line_of word value → line ≡ line_of other next → word ≡ other
one_word line word other value next h k =
    let same : Some word ≡ Some other = sym (word_heads word value) ∙ ap word_in (sym h ∙ k) ∙ word_heads other next in
    cc

-- and so is what follows it
abbrev pub HasValue : Word → Type 0
HasValue (of_flag flag) = ⊥
HasValue word = Unit {0}

pub one_value : (word : Word) (line value next : List ℕ) → HasValue word → line ≡ line_of word value → line ≡ line_of word next → value ≡ next
one_value (of_flag flag) line value next has h k = absurd has
one_value word line value next has h k =
    sym (drop-append_seam (row word).keyword value)
    ∙ ap (λ (l : List ℕ). drop (length (row word).keyword) l) (sym h ∙ k)
    ∙ drop-append_seam (row word).keyword next

-- the line of an argument is its word and its value, and a longer value makes a longer line
pub written_is : (arg : Arg) → written_text arg ≡ line_of (word_of arg) (written_value arg)
written_is (alone flag) = append-nil (flag_row flag).keyword
written_is (with_id word id) = refl
written_is arg = refl

pub line_grows : (word : Word) (a b : List ℕ) → length a ≤ length b → length (line_of word a) ≤ length (line_of word b)
line_grows (of_flag flag) a b h = omega arith
line_grows word a b h = omega (arith, length-append (row word).keyword a, length-append (row word).keyword b)

-- whether two words are the same
pub itself : (word : Word) → is_word word word ≡ true
itself (of_flag flag) = (bytes_eq-Decides (row (of_flag flag)).keyword (row (of_flag flag)).keyword).1 refl
itself word = (bytes_eq-Decides (row word).keyword (row word).keyword).1 refl

keywords_alike : (word other : Word) → HasValue word → HasValue other → same_keyword word other ≡ true → word ≡ other
keywords_alike (of_flag word) other has also h = absurd has
keywords_alike word (of_flag other) has also h = absurd also
keywords_alike word other has also h =
    one_word (line_of word []) word other [] [] refl (ap (λ (l : List ℕ). l ++ []) ((bytes_eq-Decides (row word).keyword (row other).keyword).0 h))

pub same_word : (word other : Word) → is_word word other ≡ true → word ≡ other
same_word (of_flag word) (of_flag other) h =
    one_word (line_of (of_flag word) []) (of_flag word) (of_flag other) [] [] refl
    ((bytes_eq-Decides (row (of_flag word)).keyword (row (of_flag other)).keyword).0 h)
same_word (of_object word) (of_object other) h = keywords_alike (of_object word) (of_object other) tt tt h
same_word (of_text word) (of_text other) h = keywords_alike (of_text word) (of_text other) tt tt h
same_word (of_number word) (of_number other) h = keywords_alike (of_number word) (of_number other) tt tt h
same_word word other h = absurd (cc)

pub apart : (word other of : Word) → is_word other of ≡ true → is_word other word ≡ false → is_word word of ≡ false
apart word other of is not =
    false_from_ne_true (is_word word of)
    (λ h. let first : other ≡ of = same_word other of is in
    let second : word ≡ of = same_word word of h in
    let again : is_word other other ≡ false = cc in
    let own = itself other in
    absurd (cc))

-- the place of a word among those of its command
abbrev place_among : List Word → Word → ℕ
place_among [] word = 0
place_among (first ∷ others) word = if is_word first word then 0 else place_among others word + 1

-- the word of one command is in its list
abbrev IsThere : Option Command → Word → Word → Type 0
IsThere None word d = Unit {0}
IsThere (Some c) word d =
    (place_among (words_of c) word < length (words_of c)) × (get_or (words_of c) (place_among (words_of c) word) d ≡ word)

there : (word d : Word) → IsThere (row word).command word d
there (of_flag Flag.Size) d = (omega arith, refl)
there (of_object ObjectWord.Want) d = (omega arith, refl)
there (of_text TextWord.Filter) d = (omega arith, refl)
there (of_text TextWord.ServerOption) d = tt
there (of_number NumberWord.Deepen) d = (omega arith, refl)
there word d = (omega arith, refl)

-- the words of a command belong to it
abbrev AreOf : Command → List Word → Type 0
AreOf command [] = Unit {0}
AreOf command (word ∷ others) = ((row word).command ≡ Some command) × AreOf command others

own_words : (command : Command) → AreOf command (words_of command)
own_words LsRefs = search
own_words Fetch = search
own_words ObjectInfo = search

own_among : (command : Command) (order : List Word) (i : ℕ) (d : Word) → AreOf command order → i < length order
    → (row (get_or order i d)).command ≡ Some command
own_among command [] i d of within = absurd (omega arith)
own_among command (word ∷ others) zero d of within = of.0
own_among command (word ∷ others) (suc i) d of within = own_among command others i d of.1 (omega arith)

pub own_command : (command : Command) (order : List Word) (i : ℕ) (d : Word) → order ≡ words_of command → i < length order
    → (row (get_or order i d)).command ≡ Some command
own_command command order i d is within = own_among command order i d (subst (AreOf command) (sym is) (own_words command)) within

-- a line that begins with none of a list's words from this place on
abbrev pub BeginsWithNone : List Word → ℕ → List ℕ → Type 0
BeginsWithNone order from line = (k : ℕ) (d : Word) (value : List ℕ) → from ≤ k → k < length order → line ≢ line_of (get_or order k d) value

pub none_past : (order : List Word) (line : List ℕ) (from : ℕ) → length order ≤ from → BeginsWithNone order from line
none_past order line from past k d value above below h = omega (arith, past, above, below)

-- nor with the one before it
pub none_at : (order : List Word) (line : List ℕ) (from at : ℕ) (e : Word) → from ≡ at + 1 → at < length order → BeginsWithNone order from line
    → ((value : List ℕ) → line ≢ line_of (get_or order at e) value) → BeginsWithNone order at line
none_at order line from at e next within later not k d value above below h = elim (eq-or-lt_of_le above) [
  | inl here ↦
      let same : get_or order k d ≡ get_or order at e = ap (λ (n : ℕ). get_or order n d) (sym here) ∙ get_or_default order at d e within in
      not value (h ∙ ap (λ (w : Word). line_of w value) same)
  | inr past ↦ later k d value (omega (arith, past, next)) below h
]

-- if it begins with none of a command's words, it is no argument
pub none_there : (command : Command) (order : List Word) (line : List ℕ) (from : ℕ) → order ≡ words_of command → from ≤ 0
    → BeginsWithNone order from line → IsNoArgument command line
none_there command order line from is first none word value of h =
    let (within, at) = subst (λ (own : Option Command). IsThere own word word) of (there word word) in
    (rw is at none) (place_among (words_of command) word) word value (omega arith) within (h ∙ sym (ap (λ (w : Word). line_of w value) at))

-- nor if its first word is none of the command's, or it is not the line of that word
pub none_named : (command : Command) (line : List ℕ)
    → IfSome (word_in line) (λ word. (row word).command ≡ Some command → (value : List ℕ) → line ≢ line_of word value) → IsNoArgument command line
none_named command line none word value of h =
    let found : word_in line ≡ Some word = ap word_in h ∙ word_heads word value in
    subst (λ (o : Option Word). IfSome o (λ w. (row w).command ≡ Some command → (v : List ℕ) → line ≢ line_of w v)) found none of value h
