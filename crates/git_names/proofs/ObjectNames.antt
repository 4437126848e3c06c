-- Properties of object names and of their texts.
use Rattle.std.proofs.Common.{◌≡◌, ◌≢◌, ℕ, zero, suc, ◌-◌, ◌*◌, ◌/◌, ◌%◌, ◌<◌, ◌≤◌, List, [], ◌∷◌, ◌++◌, length, slice_index, take, drop, replicate, refl}
use Rattle.std.proofs.Common.{Option, Some, None, MatchOption, Result, Ok, Err, MatchResult, sym, ap, subst, ◌∙◌, inl, inr, arith}
use Rattle.std.specs.Result.{IsErr}
use Rattle.std.proofs.lemmas.Result.{MatchResult-from_err}
use Rattle.std.proofs.Math.Seq.{take-append_seam, drop-append_seam}
use Rattle.std.proofs.lemmas.Bool.{cases_lt}
use Rattle.std.proofs.lemmas.List.{get_or-take, take-append-drop, length-append, length-replicate}
use Rattle.std.proofs.lemmas.List.{length-take, length-take-le, get_or_past, get_or-replicate}
use Rattle.hex.specs.Hex.{decode_of, decode_sized, encode_lower, encode_with, lower_digits}
use Rattle.hex.specs.declared.error.FromHexError.{FromHexError}
use Rattle.hex.proofs.HexLemmas.{decode_of-encode_lower, decode_of-ok, decode_sized-ok, decode_sized-twice, length-encode_with}
use Rattle.git_names.specs.declared.object_format.Format.{Format}
use Rattle.git_names.specs.declared.object_format.Format.TheVariants.{Sha1, Sha256}
use Rattle.git_names.specs.ObjectFormat.{width_of, digits_of}
use Rattle.git_names.specs.ObjectName.{Decodes, IsNoObjectName, IsObjectName, IsOid, ObjectName, format_of_count, hex_of, name_bytes}
use Rattle.git_names.proofs.Pairs.{same_bytes}

-- two digits for each byte of the format
digits_of-width : (format : Format) → digits_of format ≡ 2 * width_of format
digits_of-width Sha1 = refl
digits_of-width Sha256 = refl

width_of-within : (format : Format) → width_of format ≤ 32
width_of-within Sha1 = omega arith
width_of-within Sha256 = omega arith

-- an object name has as many bytes as its format
length-name_bytes : (format : Format) (text : List ℕ) (id : ObjectName) → IsObjectName format text id → length (name_bytes id) ≡ width_of format
length-name_bytes format text id h =
    let twice = (decode_of-ok text (name_bytes id) h.decodes).2 in
    let digits = digits_of-width format in
    let count = h.count in
    omega arith

-- ---- one text, one object name

-- object names with the same parts are the same
same_name : (a b : ObjectName) → a.format ≡ b.format → a.bytes ≡ b.bytes → a ≡ b
same_name a b e f =
    let made : Format → List ℕ → ObjectName = λ format bytes. record { format = format; bytes = bytes } in
    ap (λ (format : Format). made format a.bytes) e ∙ ap (made b.format) f

-- a text is one object name at most
pub one_object_name : (format : Format) (text : List ℕ) (a b : ObjectName) → IsObjectName format text a → IsObjectName format text b → a ≡ b
one_object_name format text a b p q =
    let kind : a.format ≡ b.format = p.of_format ∙ sym q.of_format in
    let front : name_bytes a ≡ name_bytes b = same_bytes text (name_bytes a) (name_bytes b) p.decodes q.decodes in
    let back : drop (width_of a.format) a.bytes ≡ drop (width_of b.format) b.bytes =
    p.padded ∙ ap (λ (f : Format). replicate (32 - width_of f) 0) kind ∙ sym q.padded in
    let whole : a.bytes ≡ b.bytes =
    sym (take-append-drop (width_of a.format) a.bytes) ∙ ap (λ (s : List ℕ). s ++ drop (width_of a.format) a.bytes) front
    ∙ ap (λ (s : List ℕ). name_bytes b ++ s) back ∙ take-append-drop (width_of b.format) b.bytes in
    same_name a b kind whole

-- ---- the written form

-- the first bytes of a list of bytes are bytes
pub bytes_of_part : (n : ℕ) (bytes : List ℕ) → ((i : ℕ) → slice_index bytes i < 256) → (i : ℕ) → slice_index (take n bytes) i < 256
bytes_of_part n bytes fits i =
    elim (cases_lt i n) [
      | inl below ↦ rw (get_or-take n bytes i 0 below) (fits i)
      | inr past ↦
          let short : length (take n bytes) ≤ i = omega (arith, length-take n bytes) in
          rw (get_or_past (take n bytes) i 0 short) (omega arith)
    ]

-- the written form of an object name reads back
pub reads_back-hex_of : (id : ObjectName) → IsOid id → IsObjectName id.format (hex_of id) id
reads_back-hex_of id h =
    let size = h.size in
    let within = width_of-within id.format in
    let fits = bytes_of_part (width_of id.format) id.bytes h.in_range in
    let twice = length-encode_with lower_digits (name_bytes id) in
    let digits = digits_of-width id.format in
    let long = length-take-le (width_of id.format) id.bytes (omega arith) in
    record { count = omega arith; of_format = refl; decodes = decode_of-encode_lower (name_bytes id) fits; padded = h.padded }

-- ---- writing

-- the digits of the first bytes
take-encode_lower : (w : ℕ) (bytes : List ℕ) → take (2 * w) (encode_lower bytes) ≡ encode_lower (take w bytes)
unfolding encode_with
take-encode_lower zero bytes = refl
take-encode_lower (suc w) [] = let none : 2 * suc w ≡ suc (suc (2 * w)) = omega arith in rw none refl
take-encode_lower (suc w) (byte ∷ bytes) =
    let more : 2 * suc w ≡ suc (suc (2 * w)) = omega arith in
    rw more (ap (λ (s : List ℕ). slice_index lower_digits (byte / 16) ∷ slice_index lower_digits (byte % 16) ∷ s) (take-encode_lower w bytes))

-- the digits of a name are the first digits of all its bytes
pub hex_of-front : (id : ObjectName) → take (digits_of id.format) (encode_lower id.bytes) ≡ hex_of id
hex_of-front id = rw (digits_of-width id.format) (take-encode_lower (width_of id.format) id.bytes)

-- it has at most as many digits as the names of its format
pub hex_of-fits : (id : ObjectName) → length (hex_of id) ≤ digits_of id.format
hex_of-fits id =
    let twice = length-encode_with lower_digits (name_bytes id) in
    let within = length-take (width_of id.format) id.bytes in
    let digits = digits_of-width id.format in
    omega arith

-- ---- the values

-- bytes followed by zeros are bytes
in_range-padded : (front : List ℕ) (n : ℕ) → ((i : ℕ) → slice_index front i < 256) → (i : ℕ) → slice_index (front ++ replicate n 0) i < 256
in_range-padded [] n h i =
    elim (cases_lt i n) [
      | inl below ↦ rw (get_or-replicate {A = ℕ} n i 0 0 below) (omega arith)
      | inr past ↦
          let short : length {A = ℕ} (replicate n 0) ≤ i = omega (arith, length-replicate {A = ℕ} n 0) in
          rw (get_or_past (replicate n 0) i 0 short) (omega arith)
    ]
in_range-padded (b ∷ front) n h zero = h 0
in_range-padded (b ∷ front) n h (suc i) = in_range-padded front n (λ k. h (suc k)) i

-- the name that a text spells is a value of object names
pub IsOid-of_text : (format : Format) (text : List ℕ) (id : ObjectName) → IsObjectName format text id → IsOid id
IsOid-of_text format text id h =
    let front = length-name_bytes format text id h in
    let within = width_of-within format in
    let whole : name_bytes id ++ replicate (32 - width_of id.format) 0 ≡ id.bytes =
    ap (λ (s : List ℕ). name_bytes id ++ s) (sym h.padded) ∙ take-append-drop (width_of id.format) id.bytes in
    let rest : 32 - width_of id.format ≡ 32 - width_of format = ap (λ (f : Format). 32 - width_of f) h.of_format in
    let joined = length-append (name_bytes id) (replicate (32 - width_of id.format) 0) in
    let zeros = length-replicate {A = ℕ} (32 - width_of id.format) 0 in
    let size : length (name_bytes id ++ replicate (32 - width_of id.format) 0) ≡ 32 = omega arith in
    record {
      size = rw whole at size;
      in_range = rw whole at (in_range-padded (name_bytes id) (32 - width_of id.format) (decode_of-ok text (name_bytes id) h.decodes).3);
      padded = h.padded;
    }

-- ---- decoding into a buffer

-- a text with as many digits as the format's names decodes into a buffer of the format's width
decode_sized-counted : (format : Format) (text : List ℕ) → length text ≡ digits_of format → decode_sized text (width_of format) ≡ decode_of text
decode_sized-counted format text count = decode_sized-twice text (width_of format) (count ∙ digits_of-width format)

-- decoded bytes are an object name
decoded_name : (format : Format) (text bytes : List ℕ) → decode_sized text (width_of format) ≡ Ok bytes
    → IsObjectName format text (record { format = format; bytes = bytes ++ replicate (32 - width_of format) 0 })
decoded_name format text bytes is =
    let long = decode_sized-ok text (width_of format) bytes is in
    let decodes : decode_of text ≡ Ok bytes = sym (decode_sized-twice text (width_of format) long) ∙ is in
    let size : length bytes ≡ width_of format = let twice = (decode_of-ok text bytes decodes).2 in omega arith in
    let zeros : List ℕ = replicate (32 - width_of format) 0 in
    let front : take (width_of format) (bytes ++ zeros) ≡ bytes = rw size at (take-append_seam bytes zeros) in
    let back : drop (width_of format) (bytes ++ zeros) ≡ zeros = rw size at (drop-append_seam bytes zeros) in
    record { count = long ∙ sym (digits_of-width format); of_format = refl; decodes = decodes ∙ ap Ok (sym front); padded = back }

-- an object name decodes
pub Decodes-name : (format : Format) (text bytes : List ℕ) → IsObjectName format text (record { format = format; bytes = bytes })
    → Decodes format text (Some bytes)
Decodes-name format text bytes h =
    let ok = decode_sized-counted format text h.count ∙ h.decodes in
    rw ok (ap Some (sym (ap (λ (s : List ℕ). take (width_of format) bytes ++ s) (sym h.padded) ∙ take-append-drop (width_of format) bytes)))

-- a text that is not an object name does not decode
no_name_by : (format : Format) (text : List ℕ) (decoded : Result (List ℕ) FromHexError) → decode_sized text (width_of format) ≡ decoded
    → IsNoObjectName format text → IsErr decoded
no_name_by format text (Ok bytes) is none = absurd (none _ (decoded_name format text bytes is))
no_name_by format text (Err fault) is none = refl

pub no_name_decodes : (format : Format) (text : List ℕ) → IsNoObjectName format text → IsErr (decode_sized text (width_of format))
no_name_decodes format text none = no_name_by format text (decode_sized text (width_of format)) refl none

-- a text of another length is not an object name
pub no_name_of_length : (format : Format) (text : List ℕ) → length text ≢ digits_of format → IsNoObjectName format text
no_name_of_length format text other id named = other named.count

-- a call that returns what decoding into the front of 32 bytes does refuses a text that is not an object name
refused_by : {A B : Type 0} (P : A → Type 0) (decoded : Result A FromHexError) (result : Result B FromHexError) → IsErr decoded
    → MatchResult decoded P (λ fault. result ≡ Err fault) → IsErr result
refused_by P (Ok bytes) result bad h = cc bad
refused_by P (Err fault) result bad h = rw h refl

pub no_name_refused : {B : Type 0} (format : Format) (text buffer : List ℕ) (w : ℕ) (P : List ℕ → Type 0) (result : Result B FromHexError)
    → IsNoObjectName format text → w ≡ width_of format → length buffer ≡ 32
    → MatchResult (decode_sized text (length (take w buffer))) P (λ fault. result ≡ Err fault) → IsErr result
no_name_refused format text buffer w P result none wide size h =
    let within = width_of-within format in
    let long : length (take w buffer) ≡ width_of format = let same = length-take-le w buffer (omega arith) in omega arith in
    refused_by P (decode_sized text (length (take w buffer))) result (rw long (no_name_decodes format text none)) h

pub Decodes-no_name : (format : Format) (text : List ℕ) → IsNoObjectName format text → Decodes format text None
Decodes-no_name format text none =
    MatchResult-from_err (decode_sized text (width_of format)) _ _ (no_name_decodes format text none) (λ _. refl)

-- if bytes were decoded, they are an object name; if not, the text is none
names_by : (format : Format) (text : List ℕ) (decoded : Result (List ℕ) FromHexError) (result : Option (List ℕ))
    → decode_sized text (width_of format) ≡ decoded
    → MatchResult decoded (λ bytes. result ≡ Some (bytes ++ replicate (32 - width_of format) 0)) (λ _. result ≡ None)
    → MatchOption result (IsNoObjectName format text) (λ bytes. IsObjectName format text (record { format = format; bytes = bytes }))
names_by format text (Ok bytes) result is h = rw h (decoded_name format text bytes is)
names_by format text (Err fault) result is h =
    rw h (λ id named. cc (sym is ∙ decode_sized-counted format text named.count ∙ named.decodes))

pub names_decoded : (format : Format) (text : List ℕ) (result : Option (List ℕ)) → Decodes format text result
    → MatchOption result (IsNoObjectName format text) (λ bytes. IsObjectName format text (record { format = format; bytes = bytes }))
names_decoded format text result h = names_by format text (decode_sized text (width_of format)) result refl h

pub named : (format : Format) (text bytes : List ℕ) (result : Option (List ℕ)) → Decodes format text result → result ≡ Some bytes
    → IsObjectName format text (record { format = format; bytes = bytes })
named format text bytes result h is = names_decoded format text (Some bytes) (subst (λ (r : Option (List ℕ)). Decodes format text r) is h)

-- ---- what `hex` reads without a format

format_of_count-digits : (format : Format) → format_of_count (digits_of format) ≡ format
format_of_count-digits Sha1 = refl
format_of_count-digits Sha256 = refl

format_of_text : (format : Format) (text : List ℕ) (id : ObjectName) → IsObjectName format text id → format_of_count (length text) ≡ format
format_of_text format text id named = ap format_of_count named.count ∙ format_of_count-digits format

-- a refused text is an object name of neither format
pub no_name_where_refused : (format : Format) (text : List ℕ) (fault : FromHexError)
    → decode_sized text (width_of (format_of_count (length text))) ≡ Err fault → IsNoObjectName format text
no_name_where_refused format text fault refused id named =
    let same = ap (λ (f : Format). decode_sized text (width_of f)) (format_of_text format text id named) in
    cc (sym refused ∙ same ∙ decode_sized-counted format text named.count ∙ named.decodes)

-- an object name of one format is not one of the other
pub no_name_of_another : (format other : Format) (text : List ℕ) (id : ObjectName) → IsObjectName format text id → format ≢ other
    → IsNoObjectName other text
no_name_of_another format other text id named differ found foreign =
    differ (sym (format_of_text format text id named) ∙ format_of_text other text found foreign)
