-- Object names made of the values of pairs of digits.
use Rattle.std.proofs.Common.{◌≡◌, ℕ, ◌+◌, ◌-◌, ◌*◌, ◌%◌, ◌<◌, ◌≤◌, List, ◌++◌, drop, length, nat_le, if◌then◌else◌}
use Rattle.std.proofs.Common.{map, replicate, slice_index, take, append_assoc, arith, refl, sym, ◌∙◌}
use Rattle.std.proofs.Common.{Bool, true, false, ◌||◌, ◌⊎◌, inl, inr}
use Rattle.std.specs.List.{range_with_len}
use Rattle.std.proofs.lemmas.Bool.{cases_lt}
use Rattle.std.proofs.lemmas.List.{ext_get_or, get_or_append_left, get_or-append_right, get_or-drop, get_or-replicate}
use Rattle.std.proofs.lemmas.List.{get_or-take, take_all, length-append, length-drop, length-replicate, length-take-le}
use Rattle.std.proofs.lemmas.List.FromFn.{get_or-map-range_with_len}
use Rattle.std.proofs.Math.Seq.{take-append_seam, drop-append_seam}
use Rattle.git_names.specs.declared.object_format.Format.TheVariants.{Sha1, Sha256}
use Rattle.git_names.specs.Digits.{AreDigits, HaveValues, digit_value}
use Rattle.git_names.specs.ObjectName.{IsNoObjectName, IsObjectName}
use Rattle.git_names.proofs.Pairs.{decode_of-pairs, pairs_from}
use Rattle.git_names.proofs.WrittenForms.{digits-object_name}

-- the byte of the pair of lanes at this index, with lanes that are multiplied and added
abbrev pub lane_at : List ℕ → ℕ → ℕ
lane_at lanes at = (slice_index lanes at * 16 % 256 + slice_index lanes (at + 1)) % 256

pub joined_at : (place : ℕ → ℕ) (values : List ℕ) (k : ℕ) → length values ≡ 64 → ((j : ℕ) → j < 64 → slice_index values j < 16)
    → k < 32 → place k + 1 < 64
    → slice_index (map (λ (j : ℕ). lane_at (values ++ values) (place j)) (range_with_len 0 32)) k
    ≡ slice_index values (place k) * 16 + slice_index values (place k + 1)
joined_at place values k long small lt within =
    let at = get_or-map-range_with_len (λ (j : ℕ). lane_at (values ++ values) (place j)) 0 32 k k 0 lt (omega arith) in
    let first = get_or_append_left values values 0 (place k) (omega arith) in
    let second = get_or_append_left values values 0 (place k + 1) (omega arith) in
    let high = small (place k) (omega arith) in
    let low = small (place k + 1) within in
    at ∙ rw (first, second) (omega arith)

-- the index of the pair for a byte of SHA-1 in the layout, and after the twentieth byte that of a pair of zeros
abbrev pub place_20 : ℕ → ℕ
place_20 k = if nat_le k 15 then 2 * k else if nat_le k 19 then 2 * k + 8 else 48

pub place_20-front : (k : ℕ) → k < 16 → place_20 k ≡ 2 * k
place_20-front k lt = grind arith

pub place_20-back : (k : ℕ) → k < 20 → 16 ≤ k → place_20 k ≡ 2 * k + 8
place_20-back k lt le = grind arith

pub place_20-after : (k : ℕ) → 20 ≤ k → place_20 k ≡ 48
place_20-after k le = grind arith

-- ---- the forty digits as they are laid out

abbrev pub laid_out : List ℕ → List ℕ
laid_out text = (take 32 text ++ drop 24 text) ++ replicate 16 48

-- the layout, as it is written part by part
pub laid_out_by_parts : (text front back : List ℕ) → length front ≡ 32 → front ≡ take 32 text → back ≡ take (length text - 24) (drop 24 text)
    → take 32 (front ++ replicate 32 48) ++ (back ++ drop 16 (drop 32 (front ++ replicate 32 48))) ≡ laid_out text
laid_out_by_parts text front back long first second =
    let head : take 32 (front ++ replicate 32 48) ≡ front = rw long at (take-append_seam front (replicate 32 48)) in
    let tail : drop 32 (front ++ replicate 32 48) ≡ replicate 32 48 = rw long at (drop-append_seam front (replicate 32 48)) in
    let rest : take (length text - 24) (drop 24 text) ≡ drop 24 text = take_all _ _ (omega (arith, length-drop 24 text)) in
    rw (head, tail, first, second, rest) (sym (append_assoc (take 32 text) (drop 24 text) (replicate 16 48)))

length-front : (text : List ℕ) → length text ≡ 40 → length (take 32 text ++ drop 24 text) ≡ 48
length-front text long =
    let front = length-take-le 32 text (omega arith) in
    omega (arith, length-append (take 32 text) (drop 24 text), length-drop 24 text)

length-laid_out : (text : List ℕ) → length text ≡ 40 → length (laid_out text) ≡ 64
length-laid_out text long =
    let front = length-front text long in
    omega (arith, length-append (take 32 text ++ drop 24 text) (replicate 16 48), length-replicate {A = ℕ} 16 48)

laid_out-front : (text : List ℕ) (k : ℕ) → length text ≡ 40 → k < 32 → slice_index (laid_out text) k ≡ slice_index text k
laid_out-front text k long lt =
    let front = length-front text long in
    let part = length-take-le 32 text (omega arith) in
    get_or_append_left (take 32 text ++ drop 24 text) (replicate 16 48) 0 k (omega arith)
    ∙ get_or_append_left (take 32 text) (drop 24 text) 0 k (omega arith) ∙ get_or-take 32 text k 0 lt

laid_out-back : (text : List ℕ) (k : ℕ) → length text ≡ 40 → k < 40 → 24 ≤ k → slice_index (laid_out text) (k + 8) ≡ slice_index text k
laid_out-back text k long lt le =
    let front = length-front text long in
    let part = length-take-le 32 text (omega arith) in
    let at : 24 + (k + 8 - 32) ≡ k = omega arith in
    get_or_append_left (take 32 text ++ drop 24 text) (replicate 16 48) 0 (k + 8) (omega arith)
    ∙ get_or-append_right (take 32 text) (drop 24 text) 32 (k + 8) 0 part (omega arith)
    ∙ get_or-drop 24 text (k + 8 - 32) 0 ∙ rw at refl

laid_out-after : (text : List ℕ) (k : ℕ) → length text ≡ 40 → k < 64 → 48 ≤ k → slice_index (laid_out text) k ≡ 48
laid_out-after text k long lt le =
    let front = length-front text long in
    get_or-append_right (take 32 text ++ drop 24 text) (replicate 16 48) 48 k 0 front le
    ∙ get_or-replicate {A = ℕ} 16 (k - 48) 48 0 (omega arith)

digit_zero : digit_value 48 ≡ 0
unfolding digit_value
digit_zero = refl

-- if the text's bytes are digits, so are those of the layout
digits_laid_out : (text : List ℕ) → length text ≡ 40 → AreDigits text → AreDigits (laid_out text)
digits_laid_out text long digits k lt =
    let whole = length-laid_out text long in
    elim (cases_lt k 32) [
      | inl front ↦ rw (laid_out-front text k long front) (digits k (omega arith))
      | inr past ↦ elim (cases_lt k 48) [
        | inl back ↦
            let same : k - 8 + 8 ≡ k = omega arith in
            let at = rw same at (laid_out-back text (k - 8) long (omega arith) (omega arith)) in
            rw at (digits (k - 8) (omega arith))
        | inr after ↦ rw (laid_out-after text k long (omega arith) after, digit_zero) (omega arith)
      ]
    ]

-- ---- the names

-- the SHA-1 name of the values of its digits in the layout
pub name_20 : (text values bytes : List ℕ) → length text ≡ 40 → length bytes ≡ 32 → HaveValues (laid_out text) values
    → ((k : ℕ) → k < 16 → slice_index bytes k ≡ slice_index values (2 * k) * 16 + slice_index values (2 * k + 1))
    → ((k : ℕ) → k < 20 → 16 ≤ k → slice_index bytes k ≡ slice_index values (2 * k + 8) * 16 + slice_index values (2 * k + 8 + 1))
    → ((k : ℕ) → k < 32 → 20 ≤ k → slice_index bytes k ≡ slice_index values 48 * 16 + slice_index values 49)
    → IsObjectName Sha1 text (record { format = Sha1; bytes = bytes })
name_20 text values bytes long size have front back after =
    let whole = length-laid_out text long in
    let part = length-take-le 20 bytes (omega arith) in
    let first = have 48 (omega arith) in
    let second = have 49 (omega arith) in
    let none : slice_index values 48 * 16 + slice_index values 49 ≡ 0 =
    rw (first.1, second.1, laid_out-after text 48 long (omega arith) (omega arith), laid_out-after text 49 long (omega arith) (omega arith), digit_zero) refl in
    record {
      count = long;
      of_format = refl;
      decodes = decode_of-pairs text (take 20 bytes) (pairs_from text (take 20 bytes) (omega arith) (λ k lt.
          let below : k < 20 = omega arith in
          let byte = get_or-take 20 bytes k 0 below in
          elim (cases_lt k 16) [
            | inl early ↦
                let high = rw (laid_out-front text (2 * k) long (omega arith)) at (have (2 * k) (omega arith)) in
                let low = rw (laid_out-front text (2 * k + 1) long (omega arith)) at (have (2 * k + 1) (omega arith)) in
                record { high_digit = high.0; low_digit = low.0; value = rw byte (front k early ∙ rw (high.1, low.1) refl) }
            | inr late ↦
                let next : 2 * k + 1 + 8 ≡ 2 * k + 8 + 1 = omega arith in
                let second_at = rw next at (laid_out-back text (2 * k + 1) long (omega arith) (omega arith)) in
                let high = rw (laid_out-back text (2 * k) long (omega arith) (omega arith)) at (have (2 * k + 8) (omega arith)) in
                let low = rw second_at at (have (2 * k + 8 + 1) (omega arith)) in
                record { high_digit = high.0; low_digit = low.0; value = rw byte (back k below late ∙ rw (high.1, low.1) refl) }
          ]));
      padded = ext_get_or 0 (drop 20 bytes) (replicate 12 0) (omega (arith, length-drop 20 bytes, length-replicate {A = ℕ} 12 0)) (λ k lt.
          let rest = length-drop 20 bytes in
          let within : k < 12 = omega arith in
          let zero = get_or-replicate {A = ℕ} 12 k 0 0 within in
          rw (get_or-drop 20 bytes k 0, zero) (after (20 + k) (omega arith) (omega arith) ∙ none));
    }

-- if a byte of the layout is not a digit, the text is no SHA-1 name
pub no_name_20 : (text : List ℕ) → length text ≡ 40 → ¬ AreDigits (laid_out text) → IsNoObjectName Sha1 text
no_name_20 text long other id h =
    other (digits_laid_out text long (digits-object_name Sha1 text id h))

-- the SHA-256 name of the values of its digits
pub name_32 : (text values bytes : List ℕ) → length text ≡ 64 → length bytes ≡ 32 → HaveValues text values
    → ((k : ℕ) → k < 32 → slice_index bytes k ≡ slice_index values (2 * k) * 16 + slice_index values (2 * k + 1))
    → IsObjectName Sha256 text (record { format = Sha256; bytes = bytes })
name_32 text values bytes long size have made =
    let part = length-take-le 32 bytes (omega arith) in
    record {
      count = long;
      of_format = refl;
      decodes = decode_of-pairs text (take 32 bytes) (pairs_from text (take 32 bytes) (omega arith) (λ k lt.
          let below : k < 32 = omega arith in
          let byte = get_or-take 32 bytes k 0 below in
          let high = have (2 * k) (omega arith) in
          let low = have (2 * k + 1) (omega arith) in
          record { high_digit = high.0; low_digit = low.0; value = rw byte (made k below ∙ rw (high.1, low.1) refl) }));
      padded = ext_get_or 0 (drop 32 bytes) (replicate 0 0) (omega (arith, length-drop 32 bytes, length-replicate {A = ℕ} 0 0))
          (λ k lt. let none = length-drop 32 bytes in absurd (omega arith));
    }

pub no_name_32 : (text : List ℕ) → ¬ AreDigits text → IsNoObjectName Sha256 text
no_name_32 text other id h = other (digits-object_name Sha256 text id h)

-- ---- whether a byte was not a digit

pub neither : (a b : Bool) → (a || b) ≡ false → (a ≡ false) × (b ≡ false)
neither true b e = absurd (cc e)
neither false b e = (refl, e)

pub either : (a b : Bool) → (a || b) ≡ true → (a ≡ true) ⊎ (b ≡ true)
either true b e = inl refl
either false b e = inr e
