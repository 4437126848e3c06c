-- Digits in lower case are the written form of an object name.
use Rattle.std.proofs.Common.{arith, ◌≡◌, ℕ, ◌+◌, ◌-◌, ◌*◌, ◌<◌, Bool, true, false, not, ◌||◌, List, [], ◌∷◌, ◌++◌, length, take, drop, replicate}
use Rattle.std.proofs.Common.{nat_lt, refl, sym, ap, ◌∙◌, Ok}
use Rattle.std.specs.List.{AllPass}
use Rattle.std.proofs.lemmas.List.Elements.{All-head, All-tail}
use Rattle.std.proofs.lemmas.Bool.{ltb-true}
use Rattle.std.proofs.Math.Seq.{take-append_seam, drop-append_seam}
use Rattle.git_names.specs.declared.object_format.Format.{Format}
use Rattle.git_names.specs.declared.object_format.Format.TheVariants.{Sha1, Sha256}
use Rattle.git_names.specs.Digits.{IsHexDigit, digit_value, is_lower_digit}
use Rattle.git_names.specs.ObjectFormat.{digits_of, width_of}
use Rattle.git_names.specs.ObjectName.{IsObjectName, ObjectName, hex_of}
use Rattle.git_names.proofs.Pairs.{ArePairs, decode_of-pairs, length-pairs}
use Rattle.git_names.proofs.Tables.{all_pass, all_pass-at}
use Rattle.git_host.specs.WrittenDigits.{SpellsId}

-- a digit in lower case is a digit
abbrev is_small : ℕ → Bool
is_small c = not (is_lower_digit c) || nat_lt (digit_value c) 16

small_if_lower : (lower small : Bool) → (not lower || small) ≡ true → lower ≡ true → small ≡ true
small_if_lower true small h is = h
small_if_lower false small h is = cc is

all_small : all_pass is_small 103 ≡ true
unfolding digit_value
all_small = refl

is_digit : (c : ℕ) → is_lower_digit c ≡ true → IsHexDigit c
is_digit c h =
    let below : c < 103 = grind arith in
    ltb-true (digit_value c) 16 (small_if_lower (is_lower_digit c) (nat_lt (digit_value c) 16) (all_pass-at is_small 103 c all_small below) h)

-- the bytes of pairs of digits
abbrev bytes_of : List ℕ → List ℕ
bytes_of [] = []
bytes_of (high ∷ []) = []
bytes_of (high ∷ low ∷ text) = (digit_value high * 16 + digit_value low) ∷ bytes_of text

abbrev lower_holds : ℕ → Type 0
lower_holds c = is_lower_digit c ≡ true

spell_pairs : (text : List ℕ) (n : ℕ) → length text ≡ 2 * n → AllPass is_lower_digit text → ArePairs text (bytes_of text)
unfolding ArePairs
spell_pairs [] n even lower = tt
spell_pairs (high ∷ []) n even lower = absurd (omega arith)
spell_pairs (high ∷ low ∷ text) n even lower =
    let more = All-tail lower_holds high (low ∷ text) lower in (
      record {
        high_digit = is_digit high (All-head lower_holds high (low ∷ text) lower);
        low_digit = is_digit low (All-head lower_holds low text more);
        value = refl;
      },
      spell_pairs text (n - 1) (omega arith) (All-tail lower_holds low text more),
    )

twice_width : (format : Format) → digits_of format ≡ 2 * width_of format
twice_width Sha1 = refl
twice_width Sha256 = refl

-- the object that they name
abbrev named_by : Format → List ℕ → ObjectName
named_by format text = record { format = format; bytes = bytes_of text ++ replicate (32 - width_of format) 0 }

is_named : (format : Format) (text : List ℕ) → length text ≡ digits_of format → AllPass is_lower_digit text → IsObjectName format text (named_by format text)
is_named format text count lower =
    let twice = twice_width format in
    let pairs = spell_pairs text (width_of format) (count ∙ twice) lower in
    let long = length-pairs text (bytes_of text) pairs in
    let size : length (bytes_of text) ≡ width_of format = omega arith in
    let zeros : List ℕ = replicate (32 - width_of format) 0 in
    let front : take (width_of format) (bytes_of text ++ zeros) ≡ bytes_of text = rw size at (take-append_seam (bytes_of text) zeros) in
    let back : drop (width_of format) (bytes_of text ++ zeros) ≡ zeros = rw size at (drop-append_seam (bytes_of text) zeros) in
    record { count = count; of_format = refl; decodes = decode_of-pairs text (bytes_of text) pairs ∙ ap Ok (sym front); padded = back }

pub spells_itself : (format : Format) (text : List ℕ)
    → ((format : Format) (text : List ℕ) (id : ObjectName) → IsObjectName format text id → AllPass is_lower_digit text → text ≡ hex_of id)
    → length text ≡ digits_of format → AllPass is_lower_digit text → SpellsId format text text
spells_itself format text one count lower =
    let named = is_named format text count lower in
    record { id = named_by format text; named = named; written = one format text (named_by format text) named lower }
