-- The packet that was written at a hold's front, and what of the hold is sent.
use Rattle.std.proofs.Common.{arith, ◌≡◌, ◌<◌, ◌≤◌, ℕ, Bool, true, false, List, [], ◌∷◌, length, length-append, refl, ap, sym, subst}
use Rattle.std.proofs.Transfers.{starts_with_of_eq}
use Rattle.std.proofs.lemmas.Grind.{common_steps}
use Rattle.std.specs.Borrow.{Bor}
use Rattle.std.specs.Io.{StartsWith}
use Rattle.arrayvec.specs.ArrayVec.{ArrayVec}
use Rattle.git_pkt.specs.Fronts.{HasFront}
use Rattle.git_pkt.specs.Machine.LentHold.{with_hold, with_hold_by}
use Rattle.git_pkt.specs.Packets.{Pkt, body_of, longest_payload, spelling_of}
use Rattle.git_pkt.specs.Machine.PacketReader.{Reads, bytes_held, held_of, is_open}
use Rattle.git_pkt.specs.Machine.ReaderState.{is_open_in}
use Rattle.git_pkt.specs.Splits.{Given}
use Rattle.git_pkt.specs.declared.reader.PacketReader.{PacketReader}
use Rattle.git_pkt.proofs.LentHolds.{lent_reads}
use Rattle.git_pkt.proofs.ReaderMoves.{gathers_between}
use Rattle.git_pkt.proofs.Written.{spells_written}
use Rattle.git_msg.specs.WrittenRequest.{text_line}
use Rattle.git_server.specs.Machine.PackParts.{part_packet}
use Rattle.git_server.specs.Repository.{RepoState}
use Rattle.git_server.specs.Machine.ServerCalls.{Gives, GivesUnread, Goes, Pulls}
use Rattle.git_server.specs.Machine.WrittenPackets.{Writes}
use Rattle.git_server.specs.declared.packfile.PartRead.{PartRead}
use Rattle.git_server.specs.declared.packfile.PartRead.TheVariants.{Bytes, End, Failed}
use Rattle.git_server.specs.declared.server.Pulled.TheVariants.{Packet}
use Rattle.git_server.specs.declared.server.Server.{Server}

-- a packet has space for what was read
pub part_fits : (space : List ℕ) → length space ≡ 65515 → (part : PartRead) → length (body_of (part_packet space part)) ≤ longest_payload
part_fits space full (Bytes count) = grind (arith, common_steps)
part_fits space full End = omega arith
part_fits space full Failed = omega arith

begins_by : (reader : PacketReader) (hold : ArrayVec ℕ) (packet : Pkt) (b : Bool) (is : is_open_in reader.state ≡ b) → b ≡ false
    → bytes_held (with_hold_by reader hold b is) ≤ 65520 → StartsWith hold.items (spelling_of packet) → length (body_of packet) ≤ longest_payload
    → ((start : ℕ) (bytes : List ℕ) (given : List Given) (rest : List ℕ) → Reads reader start bytes given rest
    → Reads (with_hold_by reader hold b is) start bytes given rest) → Writes reader packet (with_hold_by reader hold b is)
begins_by reader hold packet true is shut holds put fits reads = absurd (cc)
begins_by reader hold packet false is shut holds put fits reads = record {
  held = put;
  fits = fits;
  between = is;
  gathers = gathers_between reader is;
  fault = refl;
  position = refl;
  holds = holds;
  reads = reads;
}

-- a packet was written at the front of a hold that was lent between two packets
pub lent_begins : (reader : PacketReader) (hold : ArrayVec ℕ) (packet : Pkt) → is_open reader ≡ false → bytes_held (with_hold reader hold) ≤ 65520
    → StartsWith hold.items (spelling_of packet) → length (body_of packet) ≤ longest_payload → Writes reader packet (with_hold reader hold)
lent_begins reader hold packet shut holds begins fits =
    begins_by reader hold packet (is_open_in reader.state) refl shut holds begins fits (lent_reads reader hold holds shut)

-- a line was written there, and the hold was looked at
pub line_written : (reader : PacketReader) (hold : ArrayVec ℕ) (text looked : List ℕ) → is_open reader ≡ false
    → looked ≡ held_of (with_hold reader hold) → length looked ≤ 65520 → hold.items ≡ spelling_of (text_line text) → length text < longest_payload
    → Writes reader (text_line text) (with_hold reader hold)
line_written reader hold text looked shut is few written fits =
    lent_begins reader hold (text_line text) shut (omega (arith, few, ap length is))
    (starts_with_of_eq hold.items (spelling_of (text_line text)) written) (omega (arith, fits, length-append text (10 ∷ [])))

module _ {R A : Type 0} (state : R → RepoState) (old new : Server R A) (gives : Gives state old new) where
  pub begins : HasFront (held_of new.reader)
  begins = record {
    packet = gives.packet;
    spelling = spelling_of gives.packet;
    spells = spells_written gives.packet gives.fits;
    starts = gives.held;
  }

  -- what is at the hold's front is the packet that is pending
  pub pulls_front : (bytes : Bor (List ℕ)) → length bytes.now ≤ 65520 → bytes.now ≡ spelling_of gives.packet → Pulls state old (Packet bytes) new
  pulls_front bytes short is = record {
    goes = subst (λ (l : List ℕ). Goes state [] l old new) (sym is) gives.goes;
    unread = λ none. subst (λ (l : List ℕ). GivesUnread state old l new) (sym is) (gives.unread none);
    announces = (gives.packet, gives.unsent, is, gives.less);
    outcome = gives.outcome;
    fits = short;
    credit = omega (arith, gives.credit);
  }
