-- An open rest can become a packet, and each list of bytes can be split.
use Rattle.std.proofs.Common.{◌≡◌, ◌≢◌, ◌⊎◌, inl, inr, ℕ, zero, suc, ◌+◌, ◌-◌, ◌<◌, ◌≤◌, List, [], ◌∷◌, ◌++◌, length, take, drop, slice_index, max}
use Rattle.std.proofs.Common.{replicate, arith, refl, sym, ◌∙◌, ap, subst, length-append, length-drop, append_assoc}
use Rattle.std.proofs.lemmas.Bool.{cases_lt}
use Rattle.std.proofs.lemmas.List.{length-replicate, get_or-replicate, get_or_append_left, get_or-append_right, take-append-drop}
use Rattle.git_names.specs.Digits.{IsHexDigit, digit_value}
use Rattle.git_pkt.specs.Digits.{HasDigits, digits_value}
use Rattle.git_pkt.specs.Packets.{Pkt, flush, delim, resp_end, payload, Spells}
use Rattle.git_pkt.specs.Splits.{Given, NoneBegins, Splits}
use Rattle.git_pkt.specs.Faults.{IsOpen, IsRefused}
use Rattle.git_pkt.specs.Machine.HeldPacket.{IsWhole, IsLengthField}
use Rattle.git_pkt.specs.declared.fault.Kind.{Kind}
use Rattle.git_pkt.specs.declared.fault.Kind.TheVariants.{BadDigit, BadLength, TooLong}
use Rattle.git_pkt.proofs.Spelling.{no_bytes, digits_value-append, HasDigits-append, none_begins_bad, none_begins_refused, none_begins_partial}
use Rattle.git_pkt.proofs.Spelling.{none_begins_short}
use Rattle.git_pkt.proofs.Gathered.{begun_whole}
use Rattle.git_pkt.proofs.Rests.{open_or_faulty}

pub record Begins (rest : List ℕ) : Type 0 where
  pub packet : Pkt
  pub spelling : List ℕ
  pub more : List ℕ
  pub is : rest ≡ spelling ++ more
  pub spells : Spells packet spelling

-- four digits, with as many bytes as they state, are a packet
pub whole_spells : (s : List ℕ) (field : ℕ) → IsWhole s field → (p : Pkt) × Spells p s
whole_spells s zero h = (flush, record { digits = h.digits; field = h.number; body = no_bytes _ (omega (arith, length-drop 4 s, h.long)); fits = omega arith })
whole_spells s (suc zero) h =
    (delim, record { digits = h.digits; field = h.number; body = no_bytes _ (omega (arith, length-drop 4 s, h.long)); fits = omega arith })
whole_spells s (suc (suc zero)) h =
    (resp_end, record { digits = h.digits; field = h.number; body = no_bytes _ (omega (arith, length-drop 4 s, h.long)); fits = omega arith })
whole_spells s (suc (suc (suc zero))) h = absurd (h.allowed.not_three refl)
whole_spells s (suc (suc (suc (suc n)))) h =
    let long : length (drop 4 s) ≡ n = omega (arith, length-drop 4 s, h.long) in
    (payload (drop 4 s), record { digits = h.digits; field = omega (arith, h.number); body = refl; fits = omega (arith, h.allowed.fits) })

numbered_begins : (rest : List ℕ) → HasDigits rest → IsLengthField (digits_value rest) → Begins rest ⊎ NoneBegins rest
numbered_begins rest h ok =
    let four : 4 ≤ length rest = h.four in
    elim (cases_lt (length rest) (max 4 (digits_value rest))) [
      | inl partial ↦ inr (none_begins_partial rest four (omega arith))
      | inr all ↦
          let whole = whole_spells (take (max 4 (digits_value rest)) rest) (digits_value rest) (begun_whole rest _ _ all h refl ok refl) in
          inl (record {
            packet = whole.0;
            spelling = take (max 4 (digits_value rest)) rest;
            more = drop (max 4 (digits_value rest)) rest;
            is = sym (take-append-drop (max 4 (digits_value rest)) rest);
            spells = whole.1;
          })
    ]

pub open_begins_or_none : (rest : List ℕ) → IsOpen rest → Begins rest ⊎ NoneBegins rest
open_begins_or_none rest o = elim (cases_lt (length rest) 4) [
  | inl short ↦ inr (none_begins_short rest short)
  | inr four ↦
      let allowed = o.allowed four in
      numbered_begins rest (record { four = four; digits = λ k among. o.digits k among (omega arith) })
      (record { not_three = allowed.0; fits = allowed.1 })
]

pub refused_begins_none : (p : ℕ) (rest : List ℕ) (kind : Kind) (offset : ℕ) → IsRefused p rest kind offset → NoneBegins rest
refused_begins_none p rest BadDigit offset (k, bad, at) = none_begins_bad rest k bad
refused_begins_none p rest BadLength offset (h, number, at) = none_begins_refused rest (λ ok. ok.0 number)
refused_begins_none p rest TooLong offset (h, number, at) = none_begins_refused rest (λ ok. omega (arith, ok.1))
refused_begins_none p rest kind offset h = absurd h

pub begins_or_none : (rest : List ℕ) → Begins rest ⊎ NoneBegins rest
begins_or_none rest = elim (open_or_faulty 0 rest) [
  | inl o ↦ open_begins_or_none rest o
  | inr bad ↦ inr (refused_begins_none 0 rest bad.0.kind bad.0.offset bad.1)
]

pub record SplitOf (start : ℕ) (bytes : List ℕ) : Type 0 where
  pub given : List Given
  pub rest : List ℕ
  pub splits : Splits start bytes given rest

one_more : (start : ℕ) (bytes : List ℕ) (b : Begins bytes) → SplitOf (start + length b.spelling) b.more → SplitOf start bytes
one_more start bytes b later = record {
  given = (record { packet = b.packet; offset = start }) ∷ later.given;
  rest = later.rest;
  splits = record {
    spelled = (b.spelling, b.more, b.is, refl, b.spells, later.splits.spelled);
    ends = later.splits.ends;
  };
}

split_within : (n start : ℕ) (bytes : List ℕ) → length bytes ≤ n → SplitOf start bytes
split_within zero start bytes h = record {
  given = [];
  rest = bytes;
  splits = record { spelled = refl; ends = none_begins_short bytes (omega arith) };
}
split_within (suc n) start bytes h = elim (begins_or_none bytes) [
  | inl b ↦ one_more start bytes b (split_within n (start + length b.spelling) b.more
      (omega (arith, b.spells.digits.four, ap length b.is, length-append b.spelling b.more)))
  | inr none ↦ record { given = []; rest = bytes; splits = record { spelled = refl; ends = none } }
]

pub split_of : (start : ℕ) (bytes : List ℕ) → SplitOf start bytes
split_of start bytes = split_within (length bytes) start bytes (omega arith)

-- the packet that a rest may become
pub record GoesOn (rest : List ℕ) : Type 0 where
  pub packet : Pkt
  pub more : List ℕ
  pub some : more ≢ []
  pub spells : Spells packet (rest ++ more)

pub not_nothing : (l : List ℕ) → 0 < length l → l ≢ []
not_nothing l h e = omega (arith, ap length e)

-- a number and too few bytes: zeros complete the packet
filled : (s : List ℕ) → HasDigits s → IsLengthField (digits_value s) → length s ≤ max 4 (digits_value s)
    → (p : Pkt) × Spells p (s ++ replicate (max 4 (digits_value s) - length s) 48)
filled s h ok within =
    let more : List ℕ = replicate (max 4 (digits_value s) - length s) 48 in
    let long : length (s ++ more) ≡ max 4 (digits_value s) =
    omega (arith, length-append s more, length-replicate {A = ℕ} (max 4 (digits_value s) - length s) 48) in
    whole_spells (s ++ more) (digits_value s) (record {
      digits = HasDigits-append s more h;
      number = digits_value-append s more h.four;
      allowed = ok;
      long = long;
    })

zero_digit : digit_value 48 ≡ 0
unfolding digit_value
zero_digit = refl

-- fewer than four digits, and zeros for the missing ones
padded_at : (rest : List ℕ) (n k : ℕ)
    → length rest + n ≡ 4 → k < 4 → (k < length rest → IsHexDigit (slice_index rest k)) → IsHexDigit (slice_index (rest ++ replicate n 48) k)
padded_at rest n k all among given = elim (cases_lt k (length rest)) [
  | inl there ↦ rw (get_or_append_left rest (replicate n 48) 0 k there) (given there)
  | inr past ↦
      let e : slice_index (rest ++ replicate n 48) k ≡ 48 =
      get_or-append_right rest (replicate n 48) (length rest) k 0 refl past ∙ get_or-replicate n (k - length rest) 48 0 (omega arith) in
      rw (e, zero_digit) (omega arith)
]

padded_digits : (rest : List ℕ) (n : ℕ) → length rest + n ≡ 4 → IsOpen rest → HasDigits (rest ++ replicate n 48)
padded_digits rest n all o = record {
  four = omega (arith, length-append rest (replicate n 48), length-replicate {A = ℕ} n 48);
  digits = λ k among. padded_at rest n k all among (o.digits k among);
}

last_zero : (rest : List ℕ) (n : ℕ) → length rest + suc n ≡ 4 → digit_value (slice_index (rest ++ replicate (suc n) 48) 3) ≡ 0
last_zero rest n all =
    ap digit_value (get_or-append_right rest (replicate (suc n) 48) (length rest) 3 0 refl (omega arith)
    ∙ get_or-replicate (suc n) (3 - length rest) 48 0 (omega arith)) ∙ zero_digit

padded_number : (s : List ℕ) → HasDigits s → digit_value (slice_index s 3) ≡ 0 → IsLengthField (digits_value s)
unfolding digits_value
padded_number s h e = record {
  not_three = λ three. omega (arith, e);
  fits = omega (arith, e, h.digits 0 (omega arith), h.digits 1 (omega arith), h.digits 2 (omega arith));
}

short_goes_on : (rest : List ℕ) (n : ℕ) → length rest + suc n ≡ 4 → IsOpen rest → GoesOn rest
short_goes_on rest n all o =
    let pad : List ℕ = replicate (suc n) 48 in
    let digits : HasDigits (rest ++ pad) = padded_digits rest (suc n) all o in
    let four : length (rest ++ pad) ≡ 4 = omega (arith, length-append rest pad, length-replicate {A = ℕ} (suc n) 48) in
    let whole = filled (rest ++ pad) digits (padded_number (rest ++ pad) digits (last_zero rest n all)) (omega arith) in
    let body : List ℕ = replicate (max 4 (digits_value (rest ++ pad)) - length (rest ++ pad)) 48 in
    record {
      packet = whole.0;
      more = pad ++ body;
      some = not_nothing (pad ++ body) (omega (arith, length-append pad body, length-replicate {A = ℕ} (suc n) 48));
      spells = subst (λ (l : List ℕ). Spells whole.0 l) (append_assoc rest pad body) whole.1;
    }

numbered_goes_on : (rest : List ℕ) → HasDigits rest → IsLengthField (digits_value rest) → NoneBegins rest → GoesOn rest
numbered_goes_on rest h ok none = elim (cases_lt (length rest) (max 4 (digits_value rest))) [
  | inl partial ↦
      let whole = filled rest h ok (omega arith) in
      record {
        packet = whole.0;
        more = replicate (max 4 (digits_value rest) - length rest) 48;
        some = not_nothing _ (omega (arith, length-replicate {A = ℕ} (max 4 (digits_value rest) - length rest) 48));
        spells = whole.1;
      }
  | inr all ↦
      let whole = whole_spells (take (max 4 (digits_value rest)) rest) (digits_value rest) (begun_whole rest _ _ all h refl ok refl) in
      absurd (none whole.0 (take (max 4 (digits_value rest)) rest) (drop (max 4 (digits_value rest)) rest)
      (sym (take-append-drop (max 4 (digits_value rest)) rest)) whole.1)
]

pub open_goes_on : (rest : List ℕ) → IsOpen rest → NoneBegins rest → GoesOn rest
open_goes_on rest o none = elim (cases_lt (length rest) 4) [
  | inl short ↦ short_goes_on rest (3 - length rest) (omega arith) o
  | inr four ↦
      let allowed = o.allowed four in
      numbered_goes_on rest (record { four = four; digits = λ k among. o.digits k among (omega arith) })
      (record { not_three = allowed.0; fits = allowed.1 }) none
]
