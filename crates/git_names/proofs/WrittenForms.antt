-- The written forms of object names.
use Rattle.std.proofs.Common.{◌≡◌, ℕ, zero, suc, ◌/◌, ◌%◌, ◌<◌, true, List, [], ◌∷◌, length, slice_index, refl, sym, ap, ◌∙◌, arith}
use Rattle.std.specs.List.{AllPass}
use Rattle.std.proofs.lemmas.List.Elements.{All-cons, All-head, All-nil, All-tail}
use Rattle.hex.specs.Hex.{encode_lower, encode_with}
use Rattle.git_names.specs.declared.object_format.Format.{Format}
use Rattle.git_names.specs.declared.object_format.Format.TheVariants.{Sha1, Sha256}
use Rattle.git_names.specs.ObjectFormat.{digits_of}
use Rattle.git_names.specs.Digits.{IsHexDigit, digit_value, is_lower_digit, lower_digit}
use Rattle.git_names.specs.ObjectName.{IsObjectName, IsOid, ObjectName, hex_of, name_bytes}
use Rattle.git_names.proofs.HexDigits.{is_lower_digit-lower_digit, lower_digit-digit_value}
use Rattle.git_names.proofs.ObjectNames.{bytes_of_part, one_object_name, reads_back-hex_of}
use Rattle.git_names.proofs.Pairs.{ArePairs, pairs-decode_of}

-- the fact of `AllPass is_lower_digit`
abbrev lower_holds : ℕ → Type 0
lower_holds c = is_lower_digit c ≡ true

-- the written form is in lower case
lower-encoded : (bytes : List ℕ) → ((i : ℕ) → slice_index bytes i < 256) → AllPass is_lower_digit (encode_lower bytes)
unfolding encode_with lower_digit
lower-encoded [] fits = All-nil lower_holds
lower-encoded (byte ∷ bytes) fits =
    let fit : byte < 256 = fits 0 in
    let high = is_lower_digit-lower_digit (byte / 16) (omega arith) in
    let low = is_lower_digit-lower_digit (byte % 16) (omega arith) in
    All-cons lower_holds (lower_digit (byte / 16)) (lower_digit (byte % 16) ∷ encode_lower bytes) high
    (All-cons lower_holds (lower_digit (byte % 16)) (encode_lower bytes) low (lower-encoded bytes (λ i. fits (suc i))))

pub lower-hex_of : (id : ObjectName) → IsOid id → AllPass is_lower_digit (hex_of id)
lower-hex_of id h = lower-encoded (name_bytes id) (bytes_of_part _ id.bytes h.in_range)

-- pairs in lower case are the written form
encoded-lower : (text bytes : List ℕ) → ArePairs text bytes → AllPass is_lower_digit text → text ≡ encode_lower bytes
unfolding ArePairs encode_with lower_digit
encoded-lower [] [] h lower = refl
encoded-lower [] (byte ∷ bytes) h lower = absurd h
encoded-lower (high ∷ []) bytes h lower = absurd h
encoded-lower (high ∷ low ∷ text) [] h lower = absurd h
encoded-lower (high ∷ low ∷ text) (byte ∷ bytes) h lower =
    let more = All-tail lower_holds high (low ∷ text) lower in
    let first = lower_digit-digit_value high (All-head lower_holds high (low ∷ text) lower) in
    let second = lower_digit-digit_value low (All-head lower_holds low text more) in
    let small = h.0.high_digit in
    let little = h.0.low_digit in
    let value = h.0.value in
    let upper : byte / 16 ≡ digit_value high = omega arith in
    let under : byte % 16 ≡ digit_value low = omega arith in
    let rest = encoded-lower text bytes h.1 (All-tail lower_holds low text more) in
    rw (upper, under, first, second) (ap (λ (s : List ℕ). high ∷ low ∷ s) rest)

pub hex_of-lower : (format : Format) (text : List ℕ) (id : ObjectName) → IsObjectName format text id → AllPass is_lower_digit text → text ≡ hex_of id
hex_of-lower format text id h lower = encoded-lower text (name_bytes id) (pairs-decode_of text (name_bytes id) h.decodes) lower

-- the number of digits determines the format
format_of_digits : (a b : Format) → digits_of a ≡ digits_of b → a ≡ b
format_of_digits Sha1 Sha1 h = refl
format_of_digits Sha1 Sha256 h = absurd (omega arith)
format_of_digits Sha256 Sha1 h = absurd (omega arith)
format_of_digits Sha256 Sha256 h = refl

pub hex_of-apart : (a b : ObjectName) → IsOid a → IsOid b → hex_of a ≡ hex_of b → a ≡ b
hex_of-apart a b h k same =
    let left = reads_back-hex_of a h in
    let right = reads_back-hex_of b k in
    let long : length (hex_of a) ≡ length (hex_of b) = ap (λ (s : List ℕ). length s) same in
    let kind = format_of_digits a.format b.format (sym left.count ∙ long ∙ right.count) in
    one_object_name a.format (hex_of a) a b left (rw (same, kind) right)

-- each byte of pairs is a digit
digits-pairs : (text bytes : List ℕ) → ArePairs text bytes → (k : ℕ) → k < length text → IsHexDigit (slice_index text k)
unfolding ArePairs
digits-pairs [] [] h k lt = absurd (omega arith)
digits-pairs [] (byte ∷ bytes) h k lt = absurd h
digits-pairs (high ∷ []) bytes h k lt = absurd h
digits-pairs (high ∷ low ∷ text) [] h k lt = absurd h
digits-pairs (high ∷ low ∷ text) (byte ∷ bytes) h zero lt = h.0.high_digit
digits-pairs (high ∷ low ∷ text) (byte ∷ bytes) h (suc zero) lt = h.0.low_digit
digits-pairs (high ∷ low ∷ text) (byte ∷ bytes) h (suc (suc k)) lt = digits-pairs text bytes h.1 k (omega arith)

pub digits-object_name : (format : Format) (text : List ℕ) (id : ObjectName) → IsObjectName format text id
    → (k : ℕ) → k < length text → IsHexDigit (slice_index text k)
digits-object_name format text id h = digits-pairs text (name_bytes id) (pairs-decode_of text (name_bytes id) h.decodes)
