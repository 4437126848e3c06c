-- Pairs of digits, and what the crate `hex` decodes and encodes.
use Rattle.std.proofs.Common.{◌≡◌, ℕ, suc, ◌+◌, ◌*◌, ◌/◌, ◌%◌, ◌<◌, true, List, [], ◌∷◌, length, slice_index, refl, sym, ap, ap₂, ◌∙◌, arith}
use Rattle.std.proofs.Common.{Result, Ok, Err, MatchResult, nat_le, inl, inr}
use Rattle.std.specs.Result.{IsOk}
use Rattle.std.proofs.lemmas.Bool.{cases_lt}
use Rattle.std.proofs.lemmas.List.{get_or_past}
use Rattle.std.specs.Str.{IsAscii, IsUtf8}
use Rattle.std.proofs.lemmas.Str.{IsUtf8-from_ascii}
use Rattle.std.specs.List.{AllPass}
use Rattle.std.specs.Result.{result_unwrap_or}
use Rattle.std.proofs.lemmas.List.Elements.{All-head, All-tail}
use Rattle.hex.specs.Hex.{decode_of, decode_pairs, digit_or_error, encode_lower, encode_with, is_hex_digit, lower_digits, pair_value, value_at}
use Rattle.hex.specs.declared.error.FromHexError.{FromHexError}
use Rattle.hex.proofs.HexLemmas.{IsAscii-encode_with, decode_of-even, decode_of-ok}
use Rattle.hex.proofs.Pairs.{cons_byte, decode_pairs-ok_pair}
use Rattle.git_names.specs.Digits.{IsHexDigit, digit_value, lower_digit}
use Rattle.git_names.proofs.HexDigits.{hex_digit_value-digit, IsHexDigit-is_hex_digit}
use Rattle.git_names.proofs.Tables.{all_pass, all_pass-at}

-- two digits that spell a byte, the high four bits first
pub record IsPair (high low byte : ℕ) : Type 0 where
  pub high_digit : IsHexDigit high
  pub low_digit : IsHexDigit low
  pub value : byte ≡ digit_value high * 16 + digit_value low

-- the text spells the bytes, two digits for each
unfoldable pub ArePairs : List ℕ → List ℕ → Type 0
ArePairs [] [] = Unit {0}
ArePairs (high ∷ low ∷ text) (byte ∷ bytes) = IsPair high low byte × ArePairs text bytes
ArePairs _ _ = ⊥

-- pairs have two digits for each byte
pub length-pairs : (text bytes : List ℕ) → ArePairs text bytes → length text ≡ 2 * length bytes
unfolding ArePairs
length-pairs [] [] h = refl
length-pairs [] (byte ∷ bytes) h = absurd h
length-pairs (high ∷ []) bytes h = absurd h
length-pairs (high ∷ low ∷ text) [] h = absurd h
length-pairs (high ∷ low ∷ text) (byte ∷ bytes) h =
    let more = length-pairs text bytes h.1 in
    omega arith

-- a text that has a pair for each byte
pub pairs_from : (text bytes : List ℕ) → length text ≡ 2 * length bytes
    → ((k : ℕ) → k < length bytes → IsPair (slice_index text (2 * k)) (slice_index text (2 * k + 1)) (slice_index bytes k))
    → ArePairs text bytes
unfolding ArePairs
pairs_from [] [] long h = tt
pairs_from [] (byte ∷ bytes) long h = absurd (omega arith)
pairs_from (high ∷ []) [] long h = absurd (omega arith)
pairs_from (high ∷ []) (byte ∷ bytes) long h = absurd (omega arith)
pairs_from (high ∷ low ∷ text) [] long h = absurd (omega arith)
pairs_from (high ∷ low ∷ text) (byte ∷ bytes) long h = (
  h 0 (omega arith),
  pairs_from text bytes (omega arith) (λ k lt.
      let first : 2 * suc k ≡ suc (suc (2 * k)) = omega arith in
      let second : 2 * suc k + 1 ≡ suc (suc (2 * k + 1)) = omega arith in
      rw (second, first) at (h (suc k) (omega arith))),
)

-- ---- what is decoded

-- pairs decode to their bytes
decode_pairs-pairs : (i : ℕ) (text bytes : List ℕ) → ArePairs text bytes → decode_pairs i text ≡ Ok bytes
unfolding ArePairs decode_pairs
decode_pairs-pairs i [] [] h = refl
decode_pairs-pairs i [] (byte ∷ bytes) h = absurd h
decode_pairs-pairs i (high ∷ []) bytes h = absurd h
decode_pairs-pairs i (high ∷ low ∷ text) [] h = absurd h
decode_pairs-pairs i (high ∷ low ∷ text) (byte ∷ bytes) h =
    let first : value_at high i ≡ Ok (digit_value high) = ap (digit_or_error high i) (hex_digit_value-digit high h.0.high_digit) in
    let second : value_at low (i + 1) ≡ Ok (digit_value low) = ap (digit_or_error low (i + 1)) (hex_digit_value-digit low h.0.low_digit) in
    let pair : pair_value high low i ≡ Ok byte = rw (first, second) (ap Ok (sym h.0.value)) in
    decode_pairs-ok_pair i high low byte text pair ∙ ap (cons_byte byte) (decode_pairs-pairs (i + 2) text bytes h.1)

pub decode_of-pairs : (text bytes : List ℕ) → ArePairs text bytes → decode_of text ≡ Ok bytes
decode_of-pairs text bytes h =
    let twice = length-pairs text bytes h in
    decode_of-even text (omega arith) ∙ decode_pairs-pairs 0 text bytes h

-- the fact of `AllPass is_hex_digit`
abbrev digit_holds : ℕ → Type 0
digit_holds c = is_hex_digit c ≡ true

-- an even number of digits form pairs
pairs_of_digits : (text : List ℕ) → length text % 2 ≡ 0 → AllPass is_hex_digit text → (bytes : List ℕ) × ArePairs text bytes
unfolding ArePairs
pairs_of_digits [] even digits = ([], tt)
pairs_of_digits (high ∷ []) even digits = absurd (omega arith)
pairs_of_digits (high ∷ low ∷ text) even digits =
    let more = All-tail digit_holds high (low ∷ text) digits in
    let rest = pairs_of_digits text (omega arith) (All-tail digit_holds low text more) in
    let pair : IsPair high low (digit_value high * 16 + digit_value low) = record {
      high_digit = IsHexDigit-is_hex_digit high (All-head digit_holds high (low ∷ text) digits);
      low_digit = IsHexDigit-is_hex_digit low (All-head digit_holds low text more);
      value = refl;
    } in
    ((digit_value high * 16 + digit_value low) ∷ rest.0, (pair, rest.1))

-- a text decodes to one list of bytes
pub same_bytes : (text x y : List ℕ) → decode_of text ≡ Ok x → decode_of text ≡ Ok y → x ≡ y
same_bytes text x y p q = ap (λ (r : Result (List ℕ) FromHexError). result_unwrap_or r []) (sym p ∙ q)

-- a text that decodes consists of pairs
pub pairs-decode_of : (text bytes : List ℕ) → decode_of text ≡ Ok bytes → ArePairs text bytes
pairs-decode_of text bytes h =
    let ok = decode_of-ok text bytes h in
    let pairs = pairs_of_digits text ok.0 ok.1 in
    rw (same_bytes text pairs.0 bytes (decode_of-pairs text pairs.0 pairs.1) h) at pairs.1

-- ---- what is encoded

-- the digits of each byte
pub encode_lower-from : (text bytes : List ℕ) → length text ≡ 2 * length bytes
    → ((k : ℕ) → k < length bytes → slice_index text (2 * k) ≡ lower_digit (slice_index bytes k / 16))
    → ((k : ℕ) → k < length bytes → slice_index text (2 * k + 1) ≡ lower_digit (slice_index bytes k % 16))
    → text ≡ encode_lower bytes
unfolding encode_with lower_digit
encode_lower-from [] [] long high low = refl
encode_lower-from [] (byte ∷ bytes) long high low = absurd (omega arith)
encode_lower-from (first ∷ []) [] long high low = absurd (omega arith)
encode_lower-from (first ∷ []) (byte ∷ bytes) long high low = absurd (omega arith)
encode_lower-from (first ∷ second ∷ text) [] long high low = absurd (omega arith)
encode_lower-from (first ∷ second ∷ text) (byte ∷ bytes) long high low =
    let more = encode_lower-from text bytes (omega arith)
    (λ k lt. let next : 2 * suc k ≡ suc (suc (2 * k)) = omega arith in rw next at (high (suc k) (omega arith)))
    (λ k lt. let next : 2 * suc k + 1 ≡ suc (suc (2 * k + 1)) = omega arith in rw next at (low (suc k) (omega arith))) in
    ap₂ (λ (a b : ℕ). a ∷ b ∷ text) (high 0 (omega arith)) (low 0 (omega arith))
    ∙ ap (λ (s : List ℕ). lower_digit (byte / 16) ∷ lower_digit (byte % 16) ∷ s) more

-- the digits are text
all_are_ascii : all_pass (λ (d : ℕ). nat_le (slice_index lower_digits d) 127) 16 ≡ true
all_are_ascii = refl

IsAscii-lower_digits : IsAscii lower_digits
IsAscii-lower_digits i =
    elim (cases_lt i 16) [
      | inl below ↦ let small = all_pass-at (λ (d : ℕ). nat_le (slice_index lower_digits d) 127) 16 i all_are_ascii below in grind arith
      | inr past ↦ rw (get_or_past lower_digits i 0 past) (omega arith)
    ]

pub IsUtf8-encode_lower : (bytes : List ℕ) → IsUtf8 (encode_lower bytes)
IsUtf8-encode_lower bytes = IsUtf8-from_ascii (encode_lower bytes) (IsAscii-encode_with lower_digits bytes IsAscii-lower_digits)

-- a call that refuses only what is not text accepts a text
pub read_as_text : {A B Text : Type 0} (P : A → Type 0) (Q : B → Type 0) (r : Result A B) → MatchResult r P (λ fault. (¬ Text) × Q fault)
    → Text → IsOk r
read_as_text P Q (Ok text) h is = refl
read_as_text P Q (Err fault) h is = absurd (h.0 is)
