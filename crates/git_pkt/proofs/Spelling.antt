-- No spelling is the beginning of another, and what follows from that.
use Rattle.std.proofs.Common.{◌≡◌, ◌≢◌, ℕ, ◌+◌, ◌<◌, ◌≤◌, List, [], ◌∷◌, ◌++◌, length, slice_index}
use Rattle.std.proofs.Common.{drop, arith, refl, sym, ◌∙◌, ap, subst, length-append, length-drop, max}
use Rattle.std.proofs.lemmas.List.{get_or_append_left}
use Rattle.git_names.specs.Digits.{IsHexDigit}
use Rattle.git_pkt.specs.Digits.{HasDigits, digits_value}
use Rattle.git_pkt.specs.Packets.{Pkt, flush, delim, resp_end, payload, Spells, length_field, body_of}
use Rattle.git_pkt.specs.Splits.{NoneBegins}
use Rattle.git_pkt.specs.Faults.{FirstBadDigit}

pub no_bytes : (l : List ℕ) → length l ≡ 0 → l ≡ []
no_bytes [] e = refl
no_bytes (b ∷ l) e = absurd (omega arith)

-- the number of the first four bytes is the same, whatever follows them
pub digits_value-append : (s t : List ℕ) → 4 ≤ length s → digits_value (s ++ t) ≡ digits_value s
unfolding digits_value
digits_value-append s t h =
    let a : slice_index (s ++ t) 0 ≡ slice_index s 0 = get_or_append_left s t 0 0 (omega arith) in
    let b : slice_index (s ++ t) 1 ≡ slice_index s 1 = get_or_append_left s t 0 1 (omega arith) in
    let c : slice_index (s ++ t) 2 ≡ slice_index s 2 = get_or_append_left s t 0 2 (omega arith) in
    let d : slice_index (s ++ t) 3 ≡ slice_index s 3 = get_or_append_left s t 0 3 (omega arith) in
    rw (a, b, c, d) refl

pub HasDigits-append : (s t : List ℕ) → HasDigits s → HasDigits (s ++ t)
HasDigits-append s t h = record {
  four = omega (arith, length-append s t, h.four);
  digits = λ k below. rw (get_or_append_left s t 0 k (omega (arith, h.four))) (h.digits k below);
}

-- the length of a spelling, by its number
pub spelled_length : (p : Pkt) (s : List ℕ) → Spells p s → length s ≡ length (body_of p) + 4
spelled_length p s h = omega (arith, length-drop 4 s, ap length h.body, h.digits.four)

-- packets with the same number have contents of the same length
pub body_length : (p q : Pkt) → length_field p ≡ length_field q → length (body_of p) ≡ length (body_of q)
body_length flush flush e = refl
body_length flush delim e = refl
body_length flush resp_end e = refl
body_length flush (payload x) e = absurd (omega arith)
body_length delim flush e = refl
body_length delim delim e = refl
body_length delim resp_end e = refl
body_length delim (payload x) e = absurd (omega arith)
body_length resp_end flush e = refl
body_length resp_end delim e = refl
body_length resp_end resp_end e = refl
body_length resp_end (payload x) e = absurd (omega arith)
body_length (payload x) flush e = absurd (omega arith)
body_length (payload x) delim e = absurd (omega arith)
body_length (payload x) resp_end e = absurd (omega arith)
body_length (payload x) (payload y) e = omega arith

-- packets with the same number and the same contents are equal
pub same_packet : (p q : Pkt) → length_field p ≡ length_field q → body_of p ≡ body_of q → p ≡ q
same_packet flush flush e b = refl
same_packet flush delim e b = absurd (omega arith)
same_packet flush resp_end e b = absurd (omega arith)
same_packet flush (payload x) e b = absurd (omega arith)
same_packet delim flush e b = absurd (omega arith)
same_packet delim delim e b = refl
same_packet delim resp_end e b = absurd (omega arith)
same_packet delim (payload x) e b = absurd (omega arith)
same_packet resp_end flush e b = absurd (omega arith)
same_packet resp_end delim e b = absurd (omega arith)
same_packet resp_end resp_end e b = refl
same_packet resp_end (payload x) e b = absurd (omega arith)
same_packet (payload x) flush e b = absurd (omega arith)
same_packet (payload x) delim e b = absurd (omega arith)
same_packet (payload x) resp_end e b = absurd (omega arith)
same_packet (payload x) (payload y) e b = ap payload b

-- two packets that begin the same bytes are equal, with the same spelling there
pub record SameStart (p q : Pkt) (s t x y : List ℕ) : Type 0 where
  pub spelling : s ≡ t
  pub rest : x ≡ y
  pub packet : p ≡ q

pub append_cancel_length : (s t x y : List ℕ) → length s ≡ length t → s ++ x ≡ t ++ y → (s ≡ t) × (x ≡ y)
append_cancel_length [] [] x y l e = (refl, e)
append_cancel_length [] (b ∷ t) x y l e = absurd (omega arith)
append_cancel_length (a ∷ s) [] x y l e = absurd (omega arith)
append_cancel_length (a ∷ s) (b ∷ t) x y l e =
    let rest = append_cancel_length s t x y (omega arith) (cc) in
    (cc, rest.1)

pub same_start : (p q : Pkt) (s t x y : List ℕ) → Spells p s → Spells q t → s ++ x ≡ t ++ y → SameStart p q s t x y
same_start p q s t x y h k e =
    let numbers : digits_value s ≡ digits_value t =
    sym (digits_value-append s x h.digits.four) ∙ ap digits_value e ∙ digits_value-append t y k.digits.four in
    let fields : length_field p ≡ length_field q = sym h.field ∙ numbers ∙ k.field in
    let lengths : length s ≡ length t =
    omega (arith, spelled_length p s h, spelled_length q t k, body_length p q fields) in
    let same = append_cancel_length s t x y lengths e in
    record {
      spelling = same.0;
      rest = same.1;
      packet = same_packet p q fields (sym h.body ∙ ap (drop 4) same.0 ∙ k.body);
    }

-- no packet begins an empty list of bytes
pub none_begins_nothing : NoneBegins []
none_begins_nothing q [] more e h = absurd (omega (arith, h.digits.four))
none_begins_nothing q (b ∷ s) more e h = absurd (cc)

pub none_begins_short : (rest : List ℕ) → length rest < 4 → NoneBegins rest
none_begins_short rest short q s more e h =
    omega (arith, h.digits.four, ap length e, length-append s more)

-- a packet has as many bytes in all as its number, or four if that is less
pub field_length : (p : Pkt) (s : List ℕ) → Spells p s → length s ≡ max 4 (digits_value s)
field_length flush s h = omega (arith, h.field, spelled_length flush s h)
field_length delim s h = omega (arith, h.field, spelled_length delim s h)
field_length resp_end s h = omega (arith, h.field, spelled_length resp_end s h)
field_length (payload x) s h = omega (arith, h.field, spelled_length (payload x) s h)

-- fewer bytes than the number are not a whole packet
pub none_begins_partial : (rest : List ℕ) → 4 ≤ length rest → length rest < digits_value rest → NoneBegins rest
none_begins_partial rest four less q s more e h =
    let number : digits_value rest ≡ digits_value s = ap digits_value e ∙ digits_value-append s more h.digits.four in
    omega (arith, field_length q s h, number, less, ap length e, length-append s more)

-- one of the first four bytes is not a digit
pub none_begins_bad : (rest : List ℕ) (k : ℕ) → FirstBadDigit rest k → NoneBegins rest
none_begins_bad rest k bad q s more e h =
    let same : slice_index rest k ≡ slice_index s k =
    ap (λ (l : List ℕ). slice_index l k) e ∙ get_or_append_left s more 0 k (omega (arith, h.digits.four, bad.among)) in
    bad.bad (subst (λ (c : ℕ). IsHexDigit c) (sym same) (h.digits.digits k bad.among))

-- no packet's number is 3, or above 65,520
pub allowed_field : (p : Pkt) (s : List ℕ) → Spells p s → (digits_value s ≢ 3) × (digits_value s ≤ 65520)
allowed_field flush s h = (λ e. omega (arith, h.field, e), omega (arith, h.field))
allowed_field delim s h = (λ e. omega (arith, h.field, e), omega (arith, h.field))
allowed_field resp_end s h = (λ e. omega (arith, h.field, e), omega (arith, h.field))
allowed_field (payload x) s h = (λ e. omega (arith, h.field, e), omega (arith, h.field, h.fits))

pub none_begins_refused : (rest : List ℕ) → ((digits_value rest ≢ 3) × (digits_value rest ≤ 65520) → ⊥) → NoneBegins rest
none_begins_refused rest bad q s more e h =
    let number : digits_value rest ≡ digits_value s = ap digits_value e ∙ digits_value-append s more h.digits.four in
    let allowed = allowed_field q s h in
    bad (rw number allowed.0, rw number allowed.1)
