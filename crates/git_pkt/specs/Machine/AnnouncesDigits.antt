-- The result of reading four bytes as the digits of a packet's length.
use Rattle.std.specs.Prelude.{◌≡◌, ℕ, List}
use Rattle.git_pkt.specs.Digits.{HasDigits, digits_value}
use Rattle.git_pkt.specs.Faults.{FirstBadDigit}
use Rattle.git_pkt.specs.declared.digits.Digits.{Digits}
use Rattle.git_pkt.specs.declared.digits.Digits.TheVariants.{Number, Bad}

abbrev pub AnnouncesDigits : List ℕ → Digits → Type 0
AnnouncesDigits s (Number n) = HasDigits s × (digits_value s ≡ n)
AnnouncesDigits s (Bad k) = FirstBadDigit s k
