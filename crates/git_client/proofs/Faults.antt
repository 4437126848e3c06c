-- A client fails at the first error in its bytes.
use Rattle.std.proofs.Common.{arith, ◌≡◌, ℕ, List, [], length, Option, Some, inl, inr, ap, sym, subst}
use Rattle.git_pkt.specs.Splits.{Given, Splits}
use Rattle.git_pkt.specs.Faults.{IsOpen}
use Rattle.git_pkt.specs.declared.fault.Fault.{Fault}
use Rattle.git_pkt.specs.declared.reader.PacketReader.{PacketReader}
use Rattle.git_pkt.proofs.Gathered.{open_nothing}
use Rattle.git_msg.specs.Asked.{Asked}
use Rattle.git_client.specs.Parts.{Terms, nearest}
use Rattle.git_client.specs.Events.{EventValue}
use Rattle.git_client.specs.Conversation.{GiveAll, HasExpected, FirstMalformed}
use Rattle.git_client.specs.Machine.Turns.{fault_in, question_in}
use Rattle.git_client.specs.Machine.Client.{History, Converses, StandsIn, RefusedPacket, RefusedBytes, EndedEarly, fault_of, phase_of, reader_of, request_of}
use Rattle.git_client.specs.declared.phase.Phase.{Phase}
use Rattle.git_client.specs.declared.phase.Phase.TheVariants.{Failed}
use Rattle.git_client.specs.declared.client.Client.{Client}

module _ (t : Terms) (asked : List Asked) (bytes : List ℕ) (clean given : List Given) (rest : List ℕ) (events : List EventValue)
    (splits : Splits 0 bytes given rest) (gives : GiveAll t asked [] clean events) (fault : Fault) where
  by_packet : (reader : PacketReader) → RefusedPacket t asked clean given rest fault reader → FirstMalformed t asked bytes fault
  by_packet reader p = inl (record {
    given = given;
    rest = rest;
    splits = splits;
    first = record {
      clean = clean;
      bad = p.bad;
      more = [];
      events = events;
      cut = p.cut;
      sound = gives;
      refused = p.refused;
      at = p.at;
    };
  })

  by_bytes : RefusedBytes t asked clean given rest (length bytes) fault → FirstMalformed t asked bytes fault
  by_bytes p = inr (inl (record {
    given = given;
    rest = rest;
    events = events;
    splits = splits;
    sound = subst (λ (gs : List Given). GiveAll t asked [] gs events) (sym p.cut) gives;
    expected = subst (λ (gs : List Given). HasExpected t asked (nearest gs [])) (sym p.cut) p.expected;
    by = p.by;
  }))

  by_end : EndedEarly t asked clean given rest (length bytes) fault → FirstMalformed t asked bytes fault
  by_end p = inr (inr (record {
    given = given;
    rest = rest;
    events = events;
    splits = splits;
    sound = subst (λ (gs : List Given). GiveAll t asked [] gs events) (sym p.cut) gives;
    still_open = subst (λ (l : List ℕ). IsOpen l) (sym p.nothing) open_nothing;
    expected = subst (λ (gs : List Given). HasExpected t asked (nearest gs [])) (sym p.cut) p.expected;
    kind = p.kind;
    at = omega (arith, p.at, ap length p.nothing);
  }))

  in_phase : (phase : Phase) (question : Option Asked) (reader : PacketReader) → fault_in phase ≡ Some fault
      → StandsIn phase t asked clean given rest (length bytes) question reader → FirstMalformed t asked bytes fault
  in_phase (Failed f) question reader e h =
      let same : f ≡ fault = cc in
      elim (subst (λ (x : Fault). StandsIn (Failed x) t asked clean given rest (length bytes) question reader) same h) [
        | inl p ↦ by_packet reader p
        | inr others ↦ elim others [ inl p ↦ by_bytes p | inr p ↦ by_end p ]
      ]
  in_phase phase question reader e h = absurd (cc)

module _ {A : Type 0} where
  pub first_fault : (t : Terms) (h : History) (client : Client A) (fault : Fault) → Converses t h client → fault_of client ≡ Some fault
      → FirstMalformed t h.asked h.used fault
  first_fault t h client fault c announced =
      in_phase t h.asked h.used c.clean c.given c.rest c.whole c.reads.splits c.gives fault (phase_of client) (question_in (request_of client))
      (reader_of client) announced c.stands
