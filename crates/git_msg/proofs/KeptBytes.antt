-- The bytes stored of a request are counted with each further argument, and what follows for its arguments in their order.
use Rattle.std.proofs.Common.{arith, refl, Bool, true, false, Bor, if◌then◌else◌, ◌≡◌, ℕ, ◌+◌, ◌<◌, ◌≤◌, ◌^◌, Option, Some, None}
use Rattle.std.proofs.Common.{List, [], ◌∷◌, ◌++◌, ap, sym, subst, rules}
use Rattle.std.proofs.Common.{decimal, length, option_map, length-append}
use Rattle.std.specs.Prelude.{All, IfSome, OnSome, slice_get}
use Rattle.std.specs.Option.{option_copied}
use Rattle.std.proofs.lemmas.List.Elements.{All-push, All-weaker}
use Rattle.std.proofs.lemmas.List.Sums.{sum_by-cons}
use Rattle.std.proofs.lemmas.Option.{slice_get_within, get_or_from_slice_get}
use Rattle.git_names.specs.declared.object_format.Format.{Format}
use Rattle.git_pkt.proofs.FaultTexts.{decimal_fits}
use Rattle.git_msg.specs.declared.arguments.Argument.{Argument}
use Rattle.git_msg.specs.declared.arguments.Command.{Command}
use Rattle.git_msg.specs.declared.flags.Flag.{Flag}
use Rattle.git_msg.specs.declared.words.Word.{Word}
use Rattle.git_msg.specs.declared.words.Word.TheVariants.{Flag as of_flag, Object as of_object, Text as of_text, Number as of_number}
use Rattle.git_msg.specs.declared.words.ObjectWord.{ObjectWord}
use Rattle.git_msg.specs.declared.words.TextWord.{TextWord}
use Rattle.git_msg.specs.declared.words.NumberWord.{NumberWord}
use Rattle.git_names.specs.ObjectName.{hex_of}
use Rattle.git_msg.specs.Arguments.{Arg, alone, with_id, with_text, with_number, row, word_of, MayHave, shown}
use Rattle.git_msg.specs.Arguments.{IsInRange, IsNumberOf, IsTextOf, stored_in, written_text, written_value}
use Rattle.git_msg.specs.Asked.{bytes_of, is_word, text_in, texts, with_one}
use Rattle.git_msg.specs.Kept.{Kept, AreOf, IsSound, KeepsOne}
use Rattle.git_msg.specs.WrittenRequest.{FitsLine}
use Rattle.git_msg.proofs.FoundParts.{All-filter_map}
use Rattle.git_msg.proofs.HeadWords.{same_word}
use Rattle.git_msg.proofs.WrittenArguments.{all_written, written_again, writes_no_more}
use Rattle.git_msg.proofs.WrittenNames.{hex_of-at_least, hex_of-at_most}

-- a word is short
record IsKeyword (word : Word) : Type 0 where
  some_text : 1 ≤ length (row word).keyword
  short : length (row word).keyword ≤ 15

is_keyword : (word : Word) → IsKeyword word
is_keyword (of_flag Flag.Size) = record { some_text = omega arith; short = omega arith }
is_keyword (of_object ObjectWord.Want) = record { some_text = omega arith; short = omega arith }
is_keyword (of_text TextWord.Filter) = record { some_text = omega arith; short = omega arith }
is_keyword (of_number NumberWord.Deepen) = record { some_text = omega arith; short = omega arith }
is_keyword word = record { some_text = omega arith; short = omega arith }

-- that before a text is no shorter than what is stored beside the text
before_text : (word : TextWord) → 6 ≤ length (row (of_text word)).keyword
before_text TextWord.Filter = omega arith
before_text word = omega arith

text_short : (word : TextWord) (text : List ℕ) → IsTextOf word text → length text ≤ 65502
text_short TextWord.WantRef text fits = omega (arith, fits.at_most)
text_short word text fits = omega (arith, fits.1)

text_line_fits : (word : TextWord) (text : List ℕ) → IsTextOf word text → FitsLine (with_text word text)
text_line_fits TextWord.ServerOption text fits = omega (arith, fits.1, length-append (row (of_text TextWord.ServerOption)).keyword text)
text_line_fits TextWord.WantRef text fits = omega (arith, fits.at_most, length-append (row (of_text TextWord.WantRef)).keyword text)
text_line_fits word text fits = omega (arith, fits.1, length-append (row (of_text word)).keyword text)

pub small_number : (word : NumberWord) (number : ℕ) → IsNumberOf word number → number < 2 ^ 64
small_number NumberWord.Deepen number fits = omega (arith, fits.1)
small_number NumberWord.DeepenSince number fits = omega (arith, fits)

-- few bytes are stored of a value, no more than its line has, and its line fits into a packet
record IsMeasured (arg : Arg) : Type 0 where
  stored : stored_in arg ≤ length (written_text arg)
  few : stored_in arg ≤ 65535
  fits : FitsLine arg

measured : (format : Format) (arg : Arg) → IsInRange format arg → IsMeasured arg
measured format (alone flag) fits =
    let k = is_keyword (of_flag flag) in
    record {
      stored = omega arith;
      few = omega arith;
      fits = omega (arith, k.short, length-append (row (of_flag flag)).keyword []);
    }
measured format (with_id word id) fits = record {
  stored = omega (arith, hex_of-at_least format id fits, length-append (row (of_object word)).keyword (hex_of id));
  few = omega arith;
  fits = omega (arith, hex_of-at_most format id fits, (is_keyword (of_object word)).short, length-append (row (of_object word)).keyword (hex_of id));
}
measured format (with_text word text) fits =
    let short = text_short word text fits in
    record {
      stored = omega (arith, before_text word, length-append (row (of_text word)).keyword text);
      few = omega arith;
      fits = text_line_fits word text fits;
    }
measured format (with_number word number) fits =
    let k = is_keyword (of_number word) in
    record {
      stored = omega arith;
      few = omega arith;
      fits = omega (
        arith,
        k.short,
        decimal_fits number (small_number word number fits),
        length-append (row (of_number word)).keyword (decimal number),
      );
    }

-- no more bytes are stored of an argument than its text has
pub stored_fits : (format : Format) (arg : Arg) → IsInRange format arg → stored_in arg ≤ length (written_text arg)
stored_fits format arg value = (measured format arg value).stored

-- there are no more arguments than bytes, since each has a text
has_text : (arg : Arg) → 1 ≤ length (written_text arg)
has_text arg = let k = is_keyword (word_of arg) in omega (arith, k.some_text, length-append (row (word_of arg)).keyword (written_value arg))

count_at_most : (args : List Arg) → length args ≤ bytes_of args
count_at_most [] = omega arith
count_at_most (arg ∷ args) = omega (arith, has_text arg, count_at_most args, sum_by-cons (λ a. length (written_text a)) arg args)

-- the arguments stay sound with one more that is in its range and is counted with at least its written form
pub stays_sound : (old new : Kept (List Arg)) (arg : Arg) (long : ℕ) → IsSound old → IsInRange old.format arg → length (written_text arg) ≤ long
    → old.kept + long ≤ old.limit → KeepsOne old arg long new → IsSound new
stays_sound old new arg long h range counted space keeps =
    let all = all_written (IsInRange old.format) (old.asked ++ arg ∷ []) (All-push (IsInRange old.format) old.asked arg h.ranges range) in
    let more = writes_no_more (λ a. length (written_text a)) old.asked arg in
    record {
      ranges = rw (keeps.format, keeps.asked) all;
      in_order = rw keeps.asked (written_again (old.asked ++ arg ∷ []));
      written = omega (arith, more, ap bytes_of h.in_order, ap bytes_of keeps.asked, keeps.kept, counted, h.written);
      covered = omega (arith, keeps.kept, keeps.stored, h.covered, counted, stored_fits old.format arg range);
      space = omega (arith, keeps.kept, keeps.limit, space);
      in_range = omega (arith, keeps.limit, h.in_range);
    }

-- and they still belong to their command
pub stay_of : (command : Command) (args : List Arg) (arg : Arg) → AreOf command args → MayHave command arg → AreOf command (with_one args arg)
stay_of command args arg all of = all_written (MayHave command) (args ++ arg ∷ []) (All-push (MayHave command) args arg all of)

-- few bytes are stored of an argument
pub stored_short : (format : Format) (arg : Arg) → IsInRange format arg → stored_in arg ≤ 65535
stored_short format arg range = (measured format arg range).few

-- an argument that is allowed in a request fits into a packet
pub value_fits : (format : Format) (arg : Arg) → IsInRange format arg → FitsLine arg
value_fits format arg value = (measured format arg value).fits

-- so a request has few arguments, and each of them fits
pub place_bound : (q : Kept (List Arg)) (i : ℕ) (result : Option Argument) → IsSound q → option_map shown result ≡ slice_get q.asked i
    → OnSome result (i + 1 < 2 ^ 64)
place_bound q i None h same = tt
place_bound q i (Some argument) h same = search (rules, slice_get_within, count_at_most)

pub all_at : {X : Type 0} (P : X → Type 0) (xs : List X) (i : ℕ) (x : X) → All P xs → slice_get xs i ≡ Some x → P x
all_at P xs i x h at = subst P (get_or_from_slice_get xs i x x at) (h i x (slice_get_within xs i x at))

pub line_fits : (q : Kept (List Arg)) (i : ℕ) (result : Option Argument) → IsSound q → option_map shown result ≡ slice_get q.asked i
    → IfSome result (λ argument. FitsLine (shown argument))
line_fits q i None h same = tt
line_fits q i (Some argument) h same =
    value_fits q.format (shown argument) (all_at (IsInRange q.format) q.asked i (shown argument) h.ranges (sym same))

-- a text after a word is allowed there
found_fits : (format : Format) (word : TextWord) (arg : Arg) → IsInRange format arg → IfSome (text_in word arg) (IsTextOf word)
found_fits format word (with_text of text) fits = by_word (is_word (of_text word) (of_text of)) refl
  where
    by_word : (is : Bool) → is_word (of_text word) (of_text of) ≡ is → IfSome (if is then Some text else None) (IsTextOf word)
    by_word true e = let same = same_word (of_text word) (of_text of) e in let words : of ≡ word = cc in subst (λ (t : TextWord). IsTextOf t text) words fits
    by_word false e = tt
found_fits format word arg fits = tt

pub text_fits : (q : Kept (List Arg)) (word : TextWord) (i : ℕ) (found : Option (Bor (List ℕ))) → IsSound q
    → option_copied found ≡ slice_get (texts word q.asked) i → IfSome found (λ text. IsInRange q.format (with_text word text.now))
text_fits q word i None h same = tt
text_fits q word i (Some text) h same =
    all_at (IsTextOf word) (texts word q.asked) i text.now (All-filter_map (IsTextOf word) (text_in word) q.asked
    (All-weaker (IsInRange q.format) (λ arg. IfSome (text_in word arg) (IsTextOf word)) (found_fits q.format word) q.asked h.ranges)) (sym same)
