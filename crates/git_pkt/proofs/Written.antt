-- The written form of a packet is a spelling of it.
use Rattle.std.proofs.Common.{◌≡◌, ℕ, ◌/◌, ◌%◌, ◌<◌, ◌≤◌, List, ◌++◌, length, arith, refl, length-append}
use Rattle.git_names.specs.Digits.{digit_value, lower_digit}
use Rattle.git_names.proofs.HexDigits.{digit_value-lower_digit}
use Rattle.git_pkt.specs.Digits.{HasDigits, digits_value, digits_of}
use Rattle.git_pkt.specs.Packets.{Pkt, flush, delim, resp_end, payload, Spells, length_field, body_of, spelling_of, longest_payload}
use Rattle.git_pkt.proofs.DigitFacts.{digits_below-four}

-- the written digits of a number are read as that number
pub digits_value-digits_of : (n : ℕ) (more : List ℕ) → n < 65536 → digits_value (digits_of n ++ more) ≡ n
unfolding digits_value
digits_value-digits_of n more h =
    let a : digit_value (lower_digit (n / 4096)) ≡ n / 4096 = digit_value-lower_digit (n / 4096) (omega arith) in
    let b : digit_value (lower_digit (n / 256 % 16)) ≡ n / 256 % 16 = digit_value-lower_digit (n / 256 % 16) (omega arith) in
    let c : digit_value (lower_digit (n / 16 % 16)) ≡ n / 16 % 16 = digit_value-lower_digit (n / 16 % 16) (omega arith) in
    let d : digit_value (lower_digit (n % 16)) ≡ n % 16 = digit_value-lower_digit (n % 16) (omega arith) in
    rw (a, b, c, d) (omega arith)

has_digits_written : (n : ℕ) (more : List ℕ) → n < 65536 → HasDigits (digits_of n ++ more)
has_digits_written n more h =
    record {
      four = omega (arith, length-append (digits_of n) more);
      digits = digits_below-four (digits_of n ++ more)
          (rw (digit_value-lower_digit (n / 4096) (omega arith)) (omega arith))
          (rw (digit_value-lower_digit (n / 256 % 16) (omega arith)) (omega arith))
          (rw (digit_value-lower_digit (n / 16 % 16) (omega arith)) (omega arith))
          (rw (digit_value-lower_digit (n % 16) (omega arith)) (omega arith));
    }

field_fits : (p : Pkt) → length (body_of p) ≤ longest_payload → length_field p < 65536
field_fits flush h = omega arith
field_fits delim h = omega arith
field_fits resp_end h = omega arith
field_fits (payload x) h = omega arith

pub spells_written : (p : Pkt) → length (body_of p) ≤ longest_payload → Spells p (spelling_of p)
spells_written p h =
    let fits = field_fits p h in
    record {
      digits = has_digits_written (length_field p) (body_of p) fits;
      field = digits_value-digits_of (length_field p) (body_of p) fits;
      body = refl;
      fits = h;
    }
