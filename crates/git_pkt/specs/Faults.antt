-- The fault of a stream's rest, if it has one.
use Rattle.std.specs.Prelude.{◌≡◌, ◌≢◌, ℕ, ◌+◌, ◌<◌, ◌≤◌, List, length, take, slice_index}
use Rattle.git_names.specs.Digits.{IsHexDigit}
use Rattle.git_pkt.specs.Digits.{HasDigits, digits_value}
use Rattle.git_pkt.specs.declared.fault.Fault.{Fault}
use Rattle.git_pkt.specs.declared.fault.Kind.{Kind}
use Rattle.git_pkt.specs.declared.fault.Kind.TheVariants.{BadDigit, BadLength, TooLong, Truncated, StreamTooLong}

-- k is the index of the first of the four bytes that is no digit
pub record FirstBadDigit (rest : List ℕ) (k : ℕ) : Type 0 where
  pub among : k < 4
  pub there : k < length rest
  pub before : (j : ℕ) → j < k → IsHexDigit (slice_index rest j)
  pub bad : ¬ IsHexDigit (slice_index rest k)

-- a rest at offset p is refused with this error at this offset
abbrev pub IsRefused : ℕ → List ℕ → Kind → ℕ → Type 0
IsRefused p rest BadDigit offset = (k : ℕ) × FirstBadDigit rest k × (offset ≡ p + k)
IsRefused p rest BadLength offset = HasDigits rest × (digits_value rest ≡ 3) × (offset ≡ p)
IsRefused p rest TooLong offset = HasDigits rest × (65520 < digits_value rest) × (offset ≡ p)
IsRefused p rest _ offset = ⊥

abbrev pub RestFault : ℕ → List ℕ → Fault → Type 0
RestFault p rest fault = IsRefused p rest fault.kind fault.offset

-- nothing is wrong with the rest so far: it may still become a packet
pub record IsOpen (rest : List ℕ) : Type 0 where
  pub digits : (k : ℕ) → k < 4 → k < length rest → IsHexDigit (slice_index rest k)
  pub allowed : 4 ≤ length rest → (digits_value rest ≢ 3) × (digits_value rest ≤ 65520)

-- the fault shows with the last byte of the rest: no shorter beginning of it shows one
abbrev pub ShowsAtEnd : List ℕ → Type 0
ShowsAtEnd rest = (n : ℕ) → n < length rest → IsOpen (take n rest)

-- the last position of a stream: 2^63 - 1
abbrev pub last_position : ℕ
last_position = 9223372036854775807

-- why reading a stream stopped, if its rest is at p and `end` bytes of it were used
abbrev pub StopsBy : ℕ → List ℕ → ℕ → Kind → ℕ → Type 0
StopsBy p rest end Truncated offset = IsOpen rest × (0 < length rest) × (offset ≡ p)
StopsBy p rest end StreamTooLong offset = IsOpen rest × (end ≡ last_position) × (offset ≡ last_position)
StopsBy p rest end kind offset = IsRefused p rest kind offset × ShowsAtEnd rest
