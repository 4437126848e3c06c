-- The bytes of one packet, as far as they have come.
use Rattle.std.specs.Prelude.{◌≡◌, ◌≢◌, ℕ, ◌<◌, ◌≤◌, List, length, max, Option, Some, None}
use Rattle.git_pkt.specs.Digits.{HasDigits, digits_value}
use Rattle.git_pkt.specs.Faults.{IsOpen}
use Rattle.git_pkt.specs.declared.fault.Kind.{Kind}
use Rattle.git_pkt.specs.declared.fault.Kind.TheVariants.{BadLength, TooLong}

-- a number that a packet may have
pub record IsLengthField (n : ℕ) : Type 0 where
  pub not_three : n ≢ 3
  pub fits : n ≤ 65520

-- some of a packet's bytes, and not all; `field` is its number, once its four digits are there
pub record IsGathering (s : List ℕ) (field : ℕ) : Type 0 where
  pub some : 0 < length s
  pub is_open : IsOpen s
  pub number : 4 ≤ length s → digits_value s ≡ field
  pub partial : 4 ≤ length s → length s < field
  pub fits : 4 ≤ length s → field ≤ 65520

-- all bytes of a packet of this number
pub record IsWhole (s : List ℕ) (field : ℕ) : Type 0 where
  pub digits : HasDigits s
  pub number : digits_value s ≡ field
  pub allowed : IsLengthField field
  pub long : length s ≡ max 4 field

-- the error of a number that no packet may have
abbrev pub AnnouncesField : ℕ → Option Kind → Type 0
AnnouncesField n None = IsLengthField n
AnnouncesField n (Some BadLength) = n ≡ 3
AnnouncesField n (Some TooLong) = 65520 < n
AnnouncesField n (Some _) = ⊥
