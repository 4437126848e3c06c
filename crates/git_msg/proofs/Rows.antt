-- A key is one, and a text is one argument or has one error.
use Rattle.std.proofs.Common.{arith, ◌≡◌, ◌≢◌, ℕ, ◌<◌, ◌≤◌, ◌⊎◌, false, List, ap, sym, ◌∙◌, subst, length, inl, inr, rules}
use Rattle.std.proofs.lemmas.Bool.{false_from_ne_true}
use Rattle.std.proofs.lemmas.Slice.Eq.{bytes_eq-Decides}
use Rattle.std.specs.Str.{bytes_eq}
use Rattle.git_names.specs.declared.object_format.Format.{Format}
use Rattle.git_names.proofs.ObjectNames.{one_object_name}
use Rattle.git_pkt.specs.declared.fault.Kind.{Kind}
use Rattle.git_msg.specs.declared.offers.Offer.{Offer}
use Rattle.git_msg.specs.declared.arguments.Command.{Command}
use Rattle.git_msg.specs.declared.capability_key.Key.{Key}
use Rattle.git_msg.specs.declared.capability_key.Key.TheVariants.{CommandKey, OtherKey}
use Rattle.git_msg.specs.declared.words.Word.{Word}
use Rattle.git_msg.specs.declared.words.Word.TheVariants.{Flag as of_flag, Object as of_object, Text as of_text, Number as of_number}
use Rattle.git_msg.specs.declared.words.TextWord.{TextWord}
use Rattle.git_msg.specs.Arguments.{Arg, alone, with_id, with_text, with_number, word_of, line_of, least_text, most_text, refusal_of, IsTextOf, IsNoTextOf}
use Rattle.git_msg.specs.Arguments.{HasArgument, StatesValue, IsArgument, ReadsAs, IsNoArgument, IsNoValue, IsTextFault, IsArgumentFault, IsRowFault}
use Rattle.git_msg.specs.Lines.{IsWordOf, key_by}
use Rattle.git_msg.proofs.DigitValues.{one_number}
use Rattle.git_msg.proofs.HeadWords.{HasValue, one_value, one_word}

-- a text other than the word
other_word : (text word : List ℕ) → text ≢ word → bytes_eq text word ≡ false
other_word text word differ = false_from_ne_true (bytes_eq text word) (λ e. differ ((bytes_eq-Decides text word).0 e))

in_key : (text : List ℕ) (key : Key) → IsWordOf text key → key_by text ≡ key
in_key text OtherKey h = search (rules, other_word)
in_key text CommandKey h = ap key_by h
in_key text key h = ap key_by h

-- a word is one key
pub one_key : (text : List ℕ) (a b : Key) → IsWordOf text a → IsWordOf text b → a ≡ b
one_key text a b h k = sym (in_key text a h) ∙ in_key text b k

-- an argument's text is one argument
one_stated : (format : Format) (text : List ℕ) (a b : Arg) → word_of a ≡ word_of b → HasArgument format text a → HasArgument format text b → a ≡ b
one_stated format text (alone flag) (alone other) same h k = cc
one_stated format text (with_id word id) (with_id other next) same h k =
    let words : word ≡ other = cc in
    let value : h.value ≡ k.value = one_value (of_object word) text h.value k.value tt h.spelled (rw words k.spelled) in
    let ids : id ≡ next = one_object_name format k.value id next (rw (← value) h.states) k.states in
    cc
one_stated format text (with_text word a) (with_text other b) same h k =
    let words : word ≡ other = cc in
    let value : h.value ≡ k.value = one_value (of_text word) text h.value k.value tt h.spelled (rw words k.spelled) in
    let texts : a ≡ b = sym h.states.0 ∙ value ∙ k.states.0 in
    cc
one_stated format text (with_number word n) (with_number other m) same h k =
    let words : word ≡ other = cc in
    let value : h.value ≡ k.value = one_value (of_number word) text h.value k.value tt h.spelled (rw words k.spelled) in
    let numbers : n ≡ m = one_number k.value n m (rw (← value) h.states.is_number) k.states.is_number in
    cc
one_stated format text a b same h k = absurd (cc)

pub one_argument : (c : Command) (format : Format) (text : List ℕ) (a b : Arg) → IsArgument c format text a → IsArgument c format text b → a ≡ b
one_argument c format text a b h k =
    one_stated format text a b (one_word text (word_of a) (word_of b) h.1.value k.1.value h.1.spelled k.1.spelled) h.1 k.1

-- a text that is allowed after a word is not refused there
lengths_apart : (least : ℕ) (text : List ℕ) → (least ≤ length text) × (length text ≤ most_text) → (length text < least) ⊎ (most_text < length text) → ⊥
lengths_apart least text h (inl k) = omega (arith, h.0, k)
lengths_apart least text h (inr k) = omega (arith, h.1, k)

pub text_or_none : (word : TextWord) (text : List ℕ) → IsTextOf word text → IsNoTextOf word text → ⊥
text_or_none TextWord.WantRef text h k = k h
text_or_none TextWord.ServerOption text h (inl k) = let value = h.0 in cc
text_or_none TextWord.ServerOption text h (inr k) = omega (arith, h.1, k)
text_or_none word text h k = lengths_apart (least_text word) text h k

-- nor is any value
value_or_fault : (format : Format) (value : List ℕ) (arg : Arg) → StatesValue format value arg → IsNoValue (word_of arg) format value → ⊥
value_or_fault format value (alone flag) h k = k
value_or_fault format value (with_id word id) h k = k id h
value_or_fault format value (with_text word text) h k = text_or_none word value (rw h.0 h.1) k
value_or_fault format value (with_number word number) h k = k number h

has_value : (word : Word) (format : Format) (value : List ℕ) → IsNoValue word format value → HasValue word
has_value (of_flag flag) format value h = h
has_value word format value h = tt

by_row : (c : Command) (format : Format) (text : List ℕ) (a : Arg) (kind : Kind) → HasArgument format text a → IsRowFault c format text kind → ⊥
by_row c format text a kind h k =
    let same : k.word ≡ word_of a = one_word text k.word (word_of a) k.value h.value k.spelled h.spelled in
    let spelled : text ≡ line_of (word_of a) k.value = subst (λ (w : Word). text ≡ line_of w k.value) same k.spelled in
    let refused : IsNoValue (word_of a) format k.value = subst (λ (w : Word). IsNoValue w format k.value) same k.refused in
    let value : k.value ≡ h.value = one_value (word_of a) text k.value h.value (has_value (word_of a) format k.value refused) spelled h.spelled in
    value_or_fault format h.value a h.states (subst (IsNoValue (word_of a) format) value refused)

-- a text that is no argument of the command is not one, nor one that is refused for its value
none_or_argument : (c : Command) (format : Format) (text : List ℕ) (a : Arg) → IsNoArgument c text → IsArgument c format text a → ⊥
none_or_argument c format text a none h = none (word_of a) h.1.value h.0 h.1.spelled

-- a text that is refused for its value has one error
rows_agree : (c : Command) (format : Format) (text : List ℕ) (kind other : Kind) → IsRowFault c format text kind → IsRowFault c format text other
    → kind ≡ other
rows_agree c format text kind other h k = h.named ∙ ap refusal_of (one_word text h.word k.word h.value k.value h.spelled k.spelled) ∙ sym k.named

text_fault_or_argument : (c : Command) (format : Format) (text : List ℕ) (a : Arg) (kind : Kind) → IsArgument c format text a
    → IsTextFault c format text kind → ⊥
text_fault_or_argument c format text a kind h (inl k) = none_or_argument c format text a k.0 h
text_fault_or_argument c format text a kind h (inr k) = by_row c format text a kind h.1 k

-- a text is an argument or has an error, never both
pub argument_or_fault : (c : Command) (offer : Offer) (text : List ℕ) (a : Arg) (kind : Kind) → ReadsAs c offer text a
    → IsArgumentFault c offer text kind → ⊥
argument_or_fault c offer text a kind h (inl k) = text_fault_or_argument c offer.format text a kind h.is_argument k
argument_or_fault c offer text a kind h (inr k) =
    let same = one_argument c offer.format text a k.0.arg h.is_argument k.0.is_argument in
    let offered = h.offered in
    let unoffered = k.0.unoffered in
    absurd (cc)

-- and has one error
text_faults_agree : (c : Command) (format : Format) (text : List ℕ) (kind other : Kind) → IsTextFault c format text kind → IsTextFault c format text other
    → kind ≡ other
text_faults_agree c format text kind other (inl h) (inl k) = h.1 ∙ sym k.1
text_faults_agree c format text kind other (inl h) (inr k) = absurd (h.0 k.word k.value k.of k.spelled)
text_faults_agree c format text kind other (inr h) (inl k) = absurd (k.0 h.word h.value h.of h.spelled)
text_faults_agree c format text kind other (inr h) (inr k) = rows_agree c format text kind other h k

pub one_argument_fault : (c : Command) (offer : Offer) (text : List ℕ) (kind other : Kind) → IsArgumentFault c offer text kind
    → IsArgumentFault c offer text other → kind ≡ other
one_argument_fault c offer text kind other (inl h) (inl k) = text_faults_agree c offer.format text kind other h k
one_argument_fault c offer text kind other (inl h) (inr k) = absurd (text_fault_or_argument c offer.format text k.0.arg kind k.0.is_argument h)
one_argument_fault c offer text kind other (inr h) (inl k) = absurd (text_fault_or_argument c offer.format text h.0.arg other h.0.is_argument k)
one_argument_fault c offer text kind other (inr h) (inr k) = h.1 ∙ sym k.1
