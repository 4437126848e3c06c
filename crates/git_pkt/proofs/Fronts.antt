-- The packet at the front of a hold.
use Rattle.std.proofs.Common.{arith, ◌≡◌, ◌≤◌, ℕ, List, ◌++◌, length, max, take, drop, sym, ap, ◌∙◌, take-append-drop}
use Rattle.std.proofs.Transfers.{starts_with_length}
use Rattle.std.specs.Io.{StartsWith}
use Rattle.git_pkt.specs.Digits.{digits_value}
use Rattle.git_pkt.specs.Faults.{FirstBadDigit}
use Rattle.git_pkt.specs.Fronts.{HasFront}
use Rattle.git_pkt.specs.Packets.{Pkt, Spells}
use Rattle.git_pkt.proofs.Spelling.{digits_value-append, field_length, none_begins_bad}

-- the bytes are the packet at their front, and those after it
parts : (bytes front : List ℕ) → StartsWith bytes front → bytes ≡ front ++ drop (length front) bytes
parts bytes front h = sym (take-append-drop (length front) bytes) ∙ ap (λ (l : List ℕ). l ++ drop (length front) bytes) h

same_number : (bytes s : List ℕ) (p : Pkt) → Spells p s → StartsWith bytes s → digits_value bytes ≡ digits_value s
same_number bytes s p spells starts =
    ap digits_value (parts bytes s starts) ∙ digits_value-append s (drop (length s) bytes) spells.digits.four

long_as_announced : (p : Pkt) (s : List ℕ) → Spells p s → length s ≡ max (digits_value s) 4
long_as_announced p s spells = omega (arith, field_length p s spells)

-- its length is the number in its digits, or four if that is less
pub front_is : (bytes s : List ℕ) (p : Pkt) (field : ℕ) → digits_value bytes ≡ field → Spells p s → StartsWith bytes s
    → take (max field 4) bytes ≡ s
front_is bytes s p field number spells starts =
    let long : max field 4 ≡ length s =
    ap (λ (n : ℕ). max n 4) (sym number ∙ same_number bytes s p spells starts) ∙ sym (long_as_announced p s spells) in
    ap (λ (n : ℕ). take n bytes) long ∙ starts

pub front_within : (bytes : List ℕ) (field : ℕ) → digits_value bytes ≡ field → HasFront bytes → max field 4 ≤ length bytes
front_within bytes field number h =
    let long : max field 4 ≡ length h.spelling =
    ap (λ (n : ℕ). max n 4) (sym number ∙ same_number bytes h.spelling h.packet h.spells h.starts)
    ∙ sym (long_as_announced h.packet h.spelling h.spells) in
    omega (arith, long, starts_with_length bytes h.spelling h.starts)

pub front_has_digits : (bytes : List ℕ) (k : ℕ) → HasFront bytes → FirstBadDigit bytes k → ⊥
front_has_digits bytes k h bad =
    none_begins_bad bytes k bad h.packet h.spelling (drop (length h.spelling) bytes) (parts bytes h.spelling h.starts) h.spells
