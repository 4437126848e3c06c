-- A rest is open or has one error, which does not change with more bytes and shows at one byte.
use Rattle.std.proofs.Common.{◌≡◌, ◌⊎◌, inl, inr, ℕ, zero, suc, ◌+◌, ◌<◌, ◌≤◌, List, ◌++◌, length, take}
use Rattle.std.proofs.Common.{slice_index, arith, refl, sym, ◌∙◌, ap, subst, length-append, below_more}
use Rattle.std.proofs.lemmas.Bool.{cases_lt, cases_eq}
use Rattle.std.proofs.lemmas.List.{get_or_append_left, take-append-le, length-take-le}
use Rattle.std.proofs.Math.Seq.{take-append_seam}
use Rattle.git_names.specs.Digits.{IsHexDigit, digit_value}
use Rattle.git_pkt.specs.Digits.{HasDigits, digits_value}
use Rattle.git_pkt.specs.Faults.{FirstBadDigit, IsRefused, RestFault, IsOpen, ShowsAtEnd}
use Rattle.git_pkt.specs.declared.fault.Fault.{Fault}
use Rattle.git_pkt.specs.declared.fault.Kind.{Kind}
use Rattle.git_pkt.specs.declared.fault.Kind.TheVariants.{BadDigit, BadLength, TooLong}
use Rattle.git_pkt.proofs.Spelling.{digits_value-append, HasDigits-append, append_cancel_length}
use Rattle.git_pkt.proofs.Gathered.{bad_digit_ends, bad_digit_of_take, digits_of_take, number_of_take, shows_at_four}

digit_or_not : (c : ℕ) → IsHexDigit c ⊎ (IsHexDigit c → ⊥)
digit_or_not c = elim (cases_lt (digit_value c) 16) [ inl h ↦ inl h | inr h ↦ inr (λ k. omega arith) ]

-- the bytes before k are digits, as far as they have come
abbrev DigitsUpTo : List ℕ → ℕ → Type 0
DigitsUpTo rest k = (j : ℕ) → j < k → j < length rest → IsHexDigit (slice_index rest j)

digits_and_one : (rest : List ℕ) (k : ℕ) → DigitsUpTo rest k → (k < length rest → IsHexDigit (slice_index rest k)) → DigitsUpTo rest (k + 1)
digits_and_one rest k before here = below_more (λ j. j < length rest → IsHexDigit (slice_index rest j)) k before here

scanned_on : (rest : List ℕ) (k : ℕ) → k < 4 → DigitsUpTo rest k → DigitsUpTo rest (k + 1) ⊎ ((j : ℕ) × FirstBadDigit rest j)
scanned_on rest k among before = elim (cases_lt k (length rest)) [
  | inl there ↦ elim (digit_or_not (slice_index rest k)) [
    | inl good ↦ inl (digits_and_one rest k before (λ _. good))
    | inr bad ↦ inr (k, record { among = among; there = there; before = λ j less. before j less (omega arith); bad = bad })
  ]
  | inr past ↦ inl (digits_and_one rest k before (λ there. absurd (omega arith)))
]

-- the first four bytes are digits, as far as they have come, or one is the first that is not a digit
scanned : (rest : List ℕ) (k : ℕ) → k ≤ 4 → DigitsUpTo rest k ⊎ ((j : ℕ) × FirstBadDigit rest j)
scanned rest zero h = inl (λ j less there. absurd (omega arith))
scanned rest (suc k) h = elim (scanned rest k (omega arith)) [
  | inl before ↦ elim (scanned_on rest k (omega arith) before) [
    | inl now ↦ inl (λ j less there. now j (omega arith) there)
    | inr bad ↦ inr bad
  ]
  | inr bad ↦ inr bad
]

numbered : (p : ℕ) (rest : List ℕ) → HasDigits rest → IsOpen rest ⊎ ((f : Fault) × RestFault p rest f)
numbered p rest h = elim (cases_eq (digits_value rest) 3) [
  | inl three ↦ inr (record { kind = BadLength; offset = p }, (h, three, refl))
  | inr other ↦ elim (cases_lt 65520 (digits_value rest)) [
    | inl long ↦ inr (record { kind = TooLong; offset = p }, (h, long, refl))
    | inr fits ↦ inl (record { digits = λ k among there. h.digits k among; allowed = λ four. (other, fits) })
  ]
]

pub open_or_faulty : (p : ℕ) (rest : List ℕ) → IsOpen rest ⊎ ((f : Fault) × RestFault p rest f)
open_or_faulty p rest = elim (scanned rest 4 (omega arith)) [
  | inl digits ↦ elim (cases_lt (length rest) 4) [
    | inl short ↦ inl (record { digits = digits; allowed = λ four. absurd (omega arith) })
    | inr four ↦ numbered p rest (record { four = four; digits = λ k among. digits k among (omega arith) })
  ]
  | inr bad ↦ inr (record { kind = BadDigit; offset = p + bad.0 }, (bad.0, bad.1, refl))
]

refused_not_open : (p : ℕ) (rest : List ℕ) (kind : Kind) (offset : ℕ) → IsOpen rest → IsRefused p rest kind offset → ⊥
refused_not_open p rest BadDigit offset o (k, bad, at) = bad.bad (o.digits k bad.among bad.there)
refused_not_open p rest BadLength offset o (h, number, at) = (o.allowed h.four).0 number
refused_not_open p rest TooLong offset o (h, number, at) = omega (arith, (o.allowed h.four).1)
refused_not_open p rest kind offset o h = h

pub not_open_and_faulty : (p : ℕ) (rest : List ℕ) (f : Fault) → IsOpen rest → RestFault p rest f → ⊥
not_open_and_faulty p rest f o h = refused_not_open p rest f.kind f.offset o h

-- a rest whose error shows with its last byte has at most four bytes
pub refused_is_short : (p : ℕ) (rest : List ℕ) (kind : Kind) (offset : ℕ) → IsRefused p rest kind offset → ShowsAtEnd rest → length rest ≤ 4
refused_is_short p rest BadDigit offset (k, bad, at) shows = elim (cases_lt (k + 1) (length rest)) [
  | inl more ↦
      let front = bad_digit_of_take rest k bad in
      absurd (front.bad ((shows (k + 1) more).digits k front.among front.there))
  | inr all ↦ omega (arith, bad.among)
]
refused_is_short p rest BadLength offset (h, number, at) shows = elim (cases_lt 4 (length rest)) [
  | inl more ↦
      let allowed = (shows 4 more).allowed (omega (arith, length-take-le 4 rest (omega arith))) in
      absurd (allowed.0 (number_of_take rest 4 (omega arith) (omega arith) ∙ number))
  | inr few ↦ omega arith
]
refused_is_short p rest TooLong offset (h, number, at) shows = elim (cases_lt 4 (length rest)) [
  | inl more ↦
      let allowed = (shows 4 more).allowed (omega (arith, length-take-le 4 rest (omega arith))) in
      absurd (omega (arith, allowed.1, number, number_of_take rest 4 (omega arith) (omega arith)))
  | inr few ↦ omega arith
]
refused_is_short p rest kind offset h shows = absurd h

-- one kind and one offset
pub same_fault : (f g : Fault) → f.kind ≡ g.kind → f.offset ≡ g.offset → f ≡ g
same_fault f g e o =
    let kinds = ap (λ (k : Kind). let made : Fault = record { kind = k; offset = f.offset } in made) e in
    let offsets = ap (λ (n : ℕ). let made : Fault = record { kind = g.kind; offset = n } in made) o in
    kinds ∙ offsets

one_first : (rest : List ℕ) (j k : ℕ) → FirstBadDigit rest j → FirstBadDigit rest k → j ≡ k
one_first rest j k a b = elim (cases_lt j k) [
  | inl less ↦ absurd (a.bad (b.before j less))
  | inr rest_of ↦ elim (cases_lt k j) [ inl less ↦ absurd (b.bad (a.before k less)) | inr same ↦ omega arith ]
]

bad_without_digits : (rest : List ℕ) (k : ℕ) → FirstBadDigit rest k → HasDigits rest → ⊥
bad_without_digits rest k bad h = bad.bad (h.digits k bad.among)

refused_once : (p : ℕ) (rest : List ℕ) (k l : Kind) (m n : ℕ) → IsRefused p rest k m → IsRefused p rest l n → (k ≡ l) × (m ≡ n)
refused_once p rest BadDigit BadDigit m n (i, a, at) (j, b, there) = (refl, at ∙ ap (λ (x : ℕ). p + x) (one_first rest i j a b) ∙ sym there)
refused_once p rest BadDigit BadLength m n (i, a, at) (h, number, there) = absurd (bad_without_digits rest i a h)
refused_once p rest BadDigit TooLong m n (i, a, at) (h, number, there) = absurd (bad_without_digits rest i a h)
refused_once p rest BadDigit l m n a b = absurd b
refused_once p rest BadLength BadDigit m n (h, number, there) (i, a, at) = absurd (bad_without_digits rest i a h)
refused_once p rest BadLength BadLength m n (h, number, there) (k, other, at) = (refl, there ∙ sym at)
refused_once p rest BadLength TooLong m n (h, number, there) (k, other, at) = absurd (omega arith)
refused_once p rest BadLength l m n a b = absurd b
refused_once p rest TooLong BadDigit m n (h, number, there) (i, a, at) = absurd (bad_without_digits rest i a h)
refused_once p rest TooLong BadLength m n (h, number, there) (k, other, at) = absurd (omega arith)
refused_once p rest TooLong TooLong m n (h, number, there) (k, other, at) = (refl, there ∙ sym at)
refused_once p rest TooLong l m n a b = absurd b
refused_once p rest k l m n a b = absurd a

pub one_fault : (p : ℕ) (rest : List ℕ) (f g : Fault) → RestFault p rest f → RestFault p rest g → f ≡ g
one_fault p rest f g a b =
    let same = refused_once p rest f.kind g.kind f.offset g.offset a b in
    same_fault f g same.0 same.1

first_bad_longer : (rest more : List ℕ) (k : ℕ) → FirstBadDigit rest k → FirstBadDigit (rest ++ more) k
first_bad_longer rest more k bad = record {
  among = bad.among;
  there = omega (arith, length-append rest more, bad.there);
  before = λ j less. rw (get_or_append_left rest more 0 j (omega (arith, bad.there))) (bad.before j less);
  bad = rw (get_or_append_left rest more 0 k bad.there) bad.bad;
}

refused_longer : (p : ℕ) (rest more : List ℕ) (kind : Kind) (offset : ℕ) → IsRefused p rest kind offset → IsRefused p (rest ++ more) kind offset
refused_longer p rest more BadDigit offset (k, bad, at) = (k, first_bad_longer rest more k bad, at)
refused_longer p rest more BadLength offset (h, number, at) =
    (HasDigits-append rest more h, digits_value-append rest more h.four ∙ number, at)
refused_longer p rest more TooLong offset (h, number, at) =
    (HasDigits-append rest more h, omega (arith, digits_value-append rest more h.four), at)
refused_longer p rest more kind offset h = h

-- more bytes do not change the error
pub fault_longer : (p : ℕ) (rest more : List ℕ) (f : Fault) → RestFault p rest f → RestFault p (rest ++ more) f
fault_longer p rest more f h = refused_longer p rest more f.kind f.offset h

shorter_is_open : (p : ℕ) (front more other later : List ℕ) (f : Fault)
    → front ++ more ≡ other ++ later → RestFault p front f → ShowsAtEnd other → length front < length other → ⊥
shorter_is_open p front more other later f e h shows less =
    let within : length front ≤ length other = omega arith in
    let a : take (length front) (front ++ more) ≡ front = take-append_seam front more in
    let b : take (length front) (other ++ later) ≡ take (length front) other = take-append-le (length front) other later within in
    let same : take (length front) other ≡ front = sym b ∙ sym (ap (take (length front)) e) ∙ a in
    not_open_and_faulty p front f (subst (λ (l : List ℕ). IsOpen l) same (shows (length front) less)) h

pub shows_at_one_place : (p q : ℕ) (front more other later : List ℕ) (f g : Fault)
    → front ++ more ≡ other ++ later → RestFault p front f → ShowsAtEnd front → RestFault q other g → ShowsAtEnd other → front ≡ other
shows_at_one_place p q front more other later f g e a shows_a b shows_b =
    elim (cases_lt (length front) (length other)) [
      | inl less ↦ absurd (shorter_is_open p front more other later f e a shows_b less)
      | inr not_less ↦ elim (cases_lt (length other) (length front)) [
        | inl less ↦ absurd (shorter_is_open q other later front more g (sym e) b shows_a less)
        | inr same ↦ (append_cancel_length front other more later (omega arith) e).0
      ]
    ]

refused_shown : (p : ℕ) (rest : List ℕ) (kind : Kind) (offset : ℕ)
    → IsRefused p rest kind offset → (n : ℕ) × (n ≤ length rest) × IsRefused p (take n rest) kind offset × ShowsAtEnd (take n rest)
refused_shown p rest BadDigit offset (k, bad, at) =
    let within : k + 1 ≤ length rest = omega (arith, bad.there) in
    let ends = bad_digit_ends (take (k + 1) rest) k p 0 offset (bad_digit_of_take rest k bad) (length-take-le (k + 1) rest within) at in
    (k + 1, within, ends.by.0, ends.by.1)
refused_shown p rest BadLength offset (h, number, at) =
    let digits = digits_of_take rest 4 (omega arith) h.four h in
    (4, h.four, (digits, number_of_take rest 4 (omega arith) h.four ∙ number, at), shows_at_four (take 4 rest) digits (length-take-le 4 rest h.four))
refused_shown p rest TooLong offset (h, number, at) =
    let digits = digits_of_take rest 4 (omega arith) h.four h in
    (4, h.four, (digits, omega (arith, number_of_take rest 4 (omega arith) h.four), at), shows_at_four (take 4 rest) digits (length-take-le 4 rest h.four))
refused_shown p rest kind offset h = absurd h

pub fault_shown : (p : ℕ) (rest : List ℕ) (f : Fault)
    → RestFault p rest f → (n : ℕ) × (n ≤ length rest) × RestFault p (take n rest) f × ShowsAtEnd (take n rest)
fault_shown p rest f h = refused_shown p rest f.kind f.offset h
