-- The end of the input.
use Rattle.std.proofs.Common.{arith, ◌≡◌, ◌⊎◌, inl, inr, ℕ, ◌+◌, List, [], length, true, false, Some, None, ap, refl, sym, subst}
use Rattle.git_pkt.specs.Splits.{Given, Splits}
use Rattle.git_pkt.specs.Machine.PacketReader.{ReadsOn, Holds, is_open, open_length, position_of, fault_of as reader_fault_of}
use Rattle.git_pkt.specs.declared.fault.Fault.{Fault}
use Rattle.git_pkt.specs.declared.fault.Kind.TheVariants.{Truncated}
use Rattle.git_pkt.specs.declared.reader.PacketReader.{PacketReader}
use Rattle.git_pkt.proofs.KnownRest.{sound_rest, none_between, rest_length}
use Rattle.git_pkt.proofs.Streams.{one_split}
use Rattle.git_client.specs.Parts.{Terms}
use Rattle.git_client.specs.Machine.Turns.{takes_packets, fault_in}
use Rattle.git_client.specs.Machine.Client.{History, Converses, ReceivesOn, phase_of, reader_of, caps_of, wants_input}
use Rattle.git_client.specs.declared.phase.Phase.{Phase}
use Rattle.git_client.specs.declared.phase.Phase.TheVariants.{Receiving, Failed}
use Rattle.git_client.specs.declared.phase.Expected.{Expected}
use Rattle.git_client.specs.declared.client.Client.{Client}
use Rattle.git_client.proofs.Reached.{reach_end}
use Rattle.git_client.proofs.Carries.{KeepsTerms, ReceivesBytes, receives_end, receives_failed}

receiving_in : (phase : Phase) → takes_packets phase ≡ true → (expected : Expected) × (phase ≡ Receiving expected)
receiving_in (Receiving expected) takes = (expected, refl)
receiving_in phase takes = absurd (cc)

pub is_sound : {A : Type 0} (client : Client A) → wants_input client ≡ true → reader_fault_of (reader_of client) ≡ None
is_sound client wants = client.sound (ap fault_in (receiving_in (phase_of client) wants).1)

-- a reader at the end of its stream: it was between two packets, or reported an error
abbrev pub EndsBy : PacketReader → Fault → Type 0
EndsBy reader f =
    ((reader_fault_of reader ≡ None) × (is_open reader ≡ false) × (f.kind ≡ Truncated) × (f.offset ≡ position_of reader))
    ⊎ (reader_fault_of reader ≡ Some f)

-- only the reader and the phase change
pub record Keeps {A : Type 0} (old new : Client A) (left : PacketReader) : Type 0 where
  pub reader : reader_of new ≡ left
  pub terms : KeepsTerms old new
  pub caps : caps_of new ≡ caps_of old

-- a client whose input ended while more was expected
pub closes : {A : Type 0} (old new : Client A) (reader : PacketReader) (f : Fault) → wants_input old ≡ true → ReadsOn (reader_of old) [] [] reader
    → EndsBy reader f → Keeps old new reader → phase_of new ≡ Failed f → ReceivesOn old [] [] new
closes old new reader f wants reads by keeps failed =
    let (expected, receiving) = receiving_in (phase_of old) wants in
    let bytes : ReceivesBytes old new expected [] [] [] = record {
      receiving = receiving;
      reaches = reach_end old expected (reader_of new) receiving (subst (ReadsOn (reader_of old) [] []) (sym keeps.reader) reads);
      terms = keeps.terms;
    } in
    elim (subst (λ (r : PacketReader). EndsBy r f) (sym keeps.reader) by) [
      | inl b ↦ receives_end old new expected f bytes b.0 b.1 b.2 b.3 failed keeps.caps
      | inr announced ↦ receives_failed old new expected [] f bytes announced failed keeps.caps
    ]

module _ {A : Type 0} (t : Terms) (h : History) (client : Client A) (c : Converses t h client) (wants : wants_input client ≡ true)
    (given : List Given) (rest : List ℕ) (splits : Splits 0 h.used given rest) where
  -- the reader holds the bytes after the last whole packet
  rest_held : Holds (reader_of client) rest
  rest_held =
      let same = one_split 0 h.used c.given given c.rest rest c.reads.splits.spelled splits.spelled c.reads.splits.ends splits.ends in
      subst (λ (l : List ℕ). Holds (reader_of client) l) same.rest_is (sound_rest (reader_of client) 0 h.used c.given c.rest (is_sound client wants) c.reads).0

  -- between two packets
  pub ends_between : (offset : ℕ) → is_open (reader_of client) ≡ false → offset ≡ position_of (reader_of client) → offset + length rest ≡ length h.used
  ends_between offset shut at =
      omega (arith, ap length (none_between (reader_of client) rest rest_held shut), at, c.reads.position)

  -- inside a packet
  pub ends_inside : (offset : ℕ) → offset + open_length (reader_of client) ≡ position_of (reader_of client) → offset + length rest ≡ length h.used
  ends_inside offset at = omega (arith, rest_length (reader_of client) rest rest_held, at, c.reads.position)
