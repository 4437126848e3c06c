-- The bytes of a packet that is being gathered.
use Rattle.std.proofs.Common.{◌≡◌, ℕ, ◌+◌, ◌<◌, ◌≤◌, List, [], ◌++◌, length, slice_index, take, drop}
use Rattle.std.proofs.Common.{arith, refl, sym, ◌∙◌, ap, length-append, max, Option, Some, None}
use Rattle.std.proofs.lemmas.List.{get_or_append_left, length-take-le, take-append-drop}
use Rattle.git_pkt.specs.Digits.{HasDigits, digits_value}
use Rattle.git_pkt.specs.Splits.{NoneBegins}
use Rattle.git_pkt.specs.Faults.{FirstBadDigit, IsOpen, ShowsAtEnd, StopsBy}
use Rattle.git_pkt.specs.Machine.HeldPacket.{IsGathering, IsLengthField, IsWhole, AnnouncesField}
use Rattle.git_pkt.specs.declared.fault.Kind.{Kind}
use Rattle.git_pkt.specs.declared.fault.Kind.TheVariants.{BadDigit, BadLength, TooLong}
use Rattle.git_pkt.proofs.Spelling.{digits_value-append, HasDigits-append, none_begins_bad, none_begins_refused, none_begins_partial}

-- if bytes begin with four digits, their first part does
pub digits_of_front : (s t : List ℕ) → 4 ≤ length s → HasDigits (s ++ t) → HasDigits s
digits_of_front s t four h = record {
  four = four;
  digits = λ k below. rw (← get_or_append_left s t 0 k (omega arith)) (h.digits k below);
}

pub digits_of_gathered : (s : List ℕ) (field : ℕ) → IsGathering s field → 4 ≤ length s → HasDigits s
digits_of_gathered s field h four = record {
  four = four;
  digits = λ k below. h.is_open.digits k below (omega arith);
}

pub gathering_more : (s t : List ℕ) (field : ℕ) → IsGathering s field → 4 ≤ length s → length (s ++ t) < field → IsGathering (s ++ t) field
gathering_more s t field h four less =
    let digits = digits_of_gathered s field h four in
    let number : digits_value (s ++ t) ≡ field = digits_value-append s t four ∙ h.number four in
    let allowed = h.is_open.allowed four in
    record {
      some = omega (arith, length-append s t, h.some);
      is_open = record {
        digits = λ k below there. (HasDigits-append s t digits).digits k below;
        allowed = λ _. rw (digits_value-append s t four) allowed;
      };
      number = λ _. number;
      partial = λ _. less;
      fits = λ _. h.fits four;
    }

pub gathering_whole : (s t : List ℕ) (field : ℕ) → IsGathering s field → 4 ≤ length s → length (s ++ t) ≡ field → IsWhole (s ++ t) field
gathering_whole s t field h four all =
    let digits = digits_of_gathered s field h four in
    let allowed = h.is_open.allowed four in
    let number : digits_value s ≡ field = h.number four in
    record {
      digits = HasDigits-append s t digits;
      number = digits_value-append s t four ∙ number;
      allowed = record { not_three = λ e. allowed.0 (number ∙ e); fits = h.fits four };
      long = omega (arith, h.partial four);
    }

-- the digits of a chunk, and of the part of it that a packet uses
pub digits_of_take : (p : List ℕ) (u : ℕ) → 4 ≤ u → u ≤ length p → HasDigits p → HasDigits (take u p)
digits_of_take p u four within h =
    digits_of_front (take u p) (drop u p) (omega (arith, length-take-le u p within)) (rw take-append-drop h)

pub number_of_take : (p : List ℕ) (u : ℕ) → 4 ≤ u → u ≤ length p → digits_value (take u p) ≡ digits_value p
number_of_take p u four within =
    sym (digits_value-append (take u p) (drop u p) (omega (arith, length-take-le u p within))) ∙ ap digits_value (take-append-drop u p)

pub begun_whole : (p : List ℕ) (u field : ℕ)
    → u ≤ length p → HasDigits p → digits_value p ≡ field → IsLengthField field → u ≡ max 4 field → IsWhole (take u p) field
begun_whole p u field within h number ok all =
    let four : 4 ≤ u = omega arith in
    record {
      digits = digits_of_take p u four within h;
      number = number_of_take p u four within ∙ number;
      allowed = ok;
      long = length-take-le u p within ∙ all;
    }

-- the rest of the stream ends with this error
pub record EndsWith (rest : List ℕ) (kind : Kind) (p end offset : ℕ) : Type 0 where
  pub none : NoneBegins rest
  pub by : StopsBy p rest end kind offset

index_of_take : (p : List ℕ) (u k : ℕ) → u ≤ length p → k < u → slice_index (take u p) k ≡ slice_index p k
index_of_take p u k within below =
    sym (get_or_append_left (take u p) (drop u p) 0 k (omega (arith, length-take-le u p within))) ∙ ap (λ (l : List ℕ). slice_index l k) (take-append-drop u p)

-- a byte that is not a digit, at the end of the rest
pub bad_digit_ends : (rest : List ℕ) (k p end offset : ℕ) → FirstBadDigit rest k → length rest ≡ k + 1 → offset ≡ p + k → EndsWith rest BadDigit p end offset
bad_digit_ends rest k p end offset bad last at = record {
  none = none_begins_bad rest k bad;
  by = (
    (k, bad, at),
    λ n less. record {
      digits = λ j four there.
          let long : length (take n rest) ≡ n = length-take-le n rest (omega arith) in
          rw (index_of_take rest n j (omega arith) (omega arith)) (bad.before j (omega arith));
      allowed = λ four. absurd (omega (arith, length-take-le n rest (omega arith), bad.among));
    },
  );
}

-- the first byte that is not a digit is the first such byte of the part that ends with it
pub bad_digit_of_take : (p : List ℕ) (k : ℕ) → FirstBadDigit p k → FirstBadDigit (take (k + 1) p) k
bad_digit_of_take p k bad =
    let within : k + 1 ≤ length p = omega (arith, bad.there) in
    record {
      among = bad.among;
      there = omega (arith, length-take-le (k + 1) p within);
      before = λ j below. rw (index_of_take p (k + 1) j within (omega arith)) (bad.before j below);
      bad = rw (index_of_take p (k + 1) k within (omega arith)) bad.bad;
    }

-- four digits show no error before the last of them
pub shows_at_four : (rest : List ℕ) → HasDigits rest → length rest ≡ 4 → ShowsAtEnd rest
shows_at_four rest h four n less = record {
  digits = λ j below there.
      let long : length (take n rest) ≡ n = length-take-le n rest (omega arith) in
      rw (index_of_take rest n j (omega arith) (omega arith)) (h.digits j below);
  allowed = λ all. absurd (omega (arith, length-take-le n rest (omega arith)));
}

-- four digits with a number that no packet has
pub field_ends : (rest : List ℕ) (field : ℕ) (kind : Kind) (p end offset : ℕ)
    → HasDigits rest → digits_value rest ≡ field → AnnouncesField field (Some kind) → length rest ≡ 4 → offset ≡ p → EndsWith rest kind p end offset
field_ends rest field BadLength p end offset h number announces four at = record {
  none = none_begins_refused rest (λ ok. ok.0 (number ∙ announces));
  by = ((h, number ∙ announces, at), shows_at_four rest h four);
}
field_ends rest field TooLong p end offset h number announces four at = record {
  none = none_begins_refused rest (λ ok. omega (arith, ok.1));
  by = ((h, omega arith, at), shows_at_four rest h four);
}
field_ends rest field kind p end offset h number announces four at = absurd announces

-- a number without an error is allowed
pub allowed_unrefused : (field : ℕ) (o : Option Kind) → AnnouncesField field o → ((kind : Kind) → o ≡ Some kind → ⊥) → IsLengthField field
allowed_unrefused field None announces none = announces
allowed_unrefused field (Some kind) announces none = absurd (none kind refl)

pub open_nothing : IsOpen []
open_nothing = record {
  digits = λ k four there. absurd (omega arith);
  allowed = λ four. absurd (omega arith);
}

-- the bytes gathered so far are not a whole packet
pub none_in_gathering : (s : List ℕ) (field : ℕ) → IsGathering s field → NoneBegins s
none_in_gathering s field h q t more e spells =
    let four : 4 ≤ length s = omega (arith, spells.digits.four, ap length e, length-append t more) in
    none_begins_partial s four (omega (arith, h.partial four, h.number four)) q t more e spells
