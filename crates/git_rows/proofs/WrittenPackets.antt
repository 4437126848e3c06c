-- Bytes that split into packets, by computing.
use Rattle.std.proofs.Common.{◌≡◌, ℕ, ◌+◌, ◌≤◌, Bool, true, nat_le, List, [], ◌∷◌, ◌++◌, length, drop, slice_index, refl, arith, ◌&&◌}
use Rattle.std.proofs.lemmas.Bool.{and_parts}
use Rattle.git_names.specs.Digits.{IsHexDigit}
use Rattle.git_pkt.specs.Digits.{digits_value}
use Rattle.git_pkt.specs.Packets.{Pkt, Spells, body_of, length_field, longest_payload, spelling_of}
use Rattle.git_pkt.specs.Splits.{Given, NoneBegins, Splits, SpellsAll}
use Rattle.git_pkt.proofs.DigitFacts.{digits_below-four}
use Rattle.git_pkt.proofs.Written.{spells_written}
use Rattle.git_server.specs.Answers.{AllFit}
use Rattle.git_rows.specs.Worked.{at}

-- the packets one after the other, from this offset on
abbrev pub placed : ℕ → List Pkt → List Given
placed p [] = []
placed p (packet ∷ packets) = at p packet ∷ placed (p + length (spelling_of packet)) packets

-- each of them fits
abbrev pub all_fit : List Pkt → Bool
all_fit [] = true
all_fit (packet ∷ packets) = nat_le (length (body_of packet)) longest_payload && all_fit packets

-- the written form of the packets, and then other bytes
abbrev pub written : List Pkt → List ℕ → List ℕ
written [] rest = rest
written (packet ∷ packets) rest = spelling_of packet ++ written packets rest

pub spelled : (p : ℕ) (packets : List Pkt) (rest : List ℕ) → all_fit packets ≡ true → SpellsAll p (written packets rest) (placed p packets) rest
spelled p [] rest fits = refl
spelled p (packet ∷ packets) rest fits =
    let parts = and_parts (nat_le (length (body_of packet)) longest_payload) (all_fit packets) fits in
    let fit = parts.0 in
    (spelling_of packet, written packets rest, refl, refl, spells_written packet (grind arith), spelled (p + length (spelling_of packet)) packets rest parts.1)

-- the written form of packets splits into them
pub splits_written : (p : ℕ) (packets : List Pkt) (rest : List ℕ) → all_fit packets ≡ true → NoneBegins rest
    → Splits p (written packets rest) (placed p packets) rest
splits_written p packets rest fits none = record { spelled = spelled p packets rest fits; ends = none }

-- a packet begins its written form
pub one_begins : (packet : Pkt) (more : List ℕ) → length (body_of packet) ≤ longest_payload → NoneBegins (spelling_of packet ++ more) → ⊥
one_begins packet more fit none = none packet (spelling_of packet) more refl (spells_written packet fit)

-- bytes that no packet begins have no first packet
pub no_first : (p : ℕ) (bytes : List ℕ) (g : Given) (gs : List Given) (rest : List ℕ) → NoneBegins bytes → ¬ Splits p bytes (g ∷ gs) rest
no_first p bytes g gs rest none h =
    let first = h.spelled in
    none g.packet first.0 first.1 first.2 first.4

-- four bytes that are digits of either case, and the packet that they spell with those after them
pub spells : (packet : Pkt) (s : List ℕ) → 4 ≤ length s → IsHexDigit (slice_index s 0) → IsHexDigit (slice_index s 1)
    → IsHexDigit (slice_index s 2) → IsHexDigit (slice_index s 3) → digits_value s ≡ length_field packet → drop 4 s ≡ body_of packet
    → length (body_of packet) ≤ longest_payload → Spells packet s
spells packet s four a b c d field body fits = record {
  digits = record { four = four; digits = digits_below-four s a b c d };
  field = field;
  body = body;
  fits = fits;
}

-- the same for the packets of an answer
pub fit_by : (packets : List Pkt) → all_fit packets ≡ true → AllFit packets
fit_by [] h = tt
fit_by (packet ∷ packets) h =
    let parts = and_parts (nat_le (length (body_of packet)) longest_payload) (all_fit packets) h in
    let fit = parts.0 in
    (grind arith, fit_by packets parts.1)
