-- Bytes that are whole packets, and the part of a packet that comes after them.
use Rattle.std.proofs.Common.{arith, ◌≡◌, ℕ, ◌<◌, ◌≤◌, false, List, [], ◌∷◌, ◌++◌, length, None}
use Rattle.std.proofs.Common.{sym, ap, ◌∙◌, subst, append_assoc, append-nil, length-append}
use Rattle.git_pkt.specs.Packets.{Pkt, body_of, longest_payload, spelling_of}
use Rattle.git_pkt.specs.Splits.{Given, NoneBegins, Splits}
use Rattle.git_pkt.proofs.Spelling.{none_begins_nothing, same_start}
use Rattle.git_pkt.proofs.Streams.{one_split, spells_all_more, spells_all_whole}
use Rattle.git_pkt.proofs.Written.{spells_written}
use Rattle.git_msg.proofs.StreamSteps.{rest_behind}
use Rattle.git_client.specs.Parts.{Terms}
use Rattle.git_client.specs.Machine.Client.{Converses, History, fault_of, reader_of, spelled, wants_input}
use Rattle.git_client.specs.declared.client.Client.{Client}
use Rattle.git2show_lib.specs.Machine.Checker.{AreFitting}

-- ---- whole packets

-- the bytes are packets, and nothing after them
abbrev pub ArePackets : List ℕ → Type 0
ArePackets bytes = (given : List Given) × Splits 0 bytes given []

-- one packet more
pub packet_more : (bytes : List ℕ) (p : Pkt) → length (body_of p) ≤ longest_payload → ArePackets bytes → ArePackets (bytes ++ spelling_of p)
packet_more bytes p fits (gs, splits) =
    let g : Given = record { packet = p; offset = length bytes } in (
      gs ++ g ∷ [],
      record {
        spelled =
            spells_all_whole 0 (bytes ++ spelling_of p) gs (spelling_of p) g (spells_all_more 0 bytes gs [] (spelling_of p) splits.spelled)
            (spells_written p fits) (omega (arith, length-append bytes (spelling_of p)));
        ends = none_begins_nothing;
      },
    )

pub packets_more : (bytes : List ℕ) (ps : List Pkt) → AreFitting ps → ArePackets bytes → ArePackets (bytes ++ spelled ps)
packets_more bytes [] fits are = subst ArePackets (sym (append-nil bytes)) are
packets_more bytes (p ∷ ps) (fits, later) are =
    subst ArePackets (append_assoc bytes (spelling_of p) (spelled ps)) (packets_more (bytes ++ spelling_of p) ps later (packet_more bytes p fits are))

pub fitting_then : (ps qs : List Pkt) → AreFitting ps → AreFitting qs → AreFitting (ps ++ qs)
fitting_then [] qs first later = later
fitting_then (p ∷ ps) qs (fits, first) later = (fits, fitting_then ps qs first later)

-- no packet begins a part of a packet that is not all of it
none_in_front : (p : Pkt) (front rest : List ℕ) → length (body_of p) ≤ longest_payload → spelling_of p ≡ front ++ rest → 0 < length rest → NoneBegins front
none_in_front p front rest fits cut some q s more is spells =
    let same = same_start q p s (spelling_of p) (more ++ rest) [] spells (spells_written p fits)
    (sym (append_assoc s more rest) ∙ ap (λ (l : List ℕ). l ++ rest) (sym is) ∙ sym cut ∙ sym (append-nil (spelling_of p))) in
    absurd (omega (arith, some, ap length same.rest, length-append more rest))

-- so where such a part comes after whole packets, it is a rest
pub rest_of_front : (bytes front rest : List ℕ) (p : Pkt) (given : List Given) → length (body_of p) ≤ longest_payload → spelling_of p ≡ front ++ rest
    → 0 < length rest → ArePackets bytes → Splits 0 (bytes ++ front) given [] → front ≡ []
rest_of_front bytes front rest p given fits cut some (gs, splits) other =
    (one_split 0 (bytes ++ front) gs given front [] (spells_all_more 0 bytes gs [] front splits.spelled) other.spelled
    (none_in_front p front rest fits cut some) other.ends).rest_is

-- ---- what a client receives

module _ {A : Type 0} where
  -- a client that can ask has no packet begun
  pub ready_splits : (t : Terms) (h : History) (client : Client A) → Converses t h client → fault_of client ≡ None → wants_input client ≡ false
      → ArePackets h.used
  ready_splits t h client stands sound ready =
      let none = rest_behind (reader_of client) h.used stands.given stands.rest (client.sound sound) (client.shut sound ready) stands.reads in
      (stands.given, subst (λ (rest : List ℕ). Splits 0 h.used stands.given rest) none stands.reads.splits)
