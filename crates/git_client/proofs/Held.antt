-- The server's message about its own error, as the hold has it.
use Rattle.std.proofs.Common.{arith, ◌≡◌, ℕ, ◌<◌, Option, Some, None, Bor, MatchOption, true, List, ◌∷◌, length, drop, inl, inr, ap, sym, ◌∙◌, subst}
use Rattle.git_pkt.specs.Packets.{body_of, text_of}
use Rattle.git_pkt.specs.Splits.{Given, Splits}
use Rattle.git_pkt.specs.Faults.{StopsBy}
use Rattle.git_pkt.specs.Machine.PacketReader.{held_of}
use Rattle.git_pkt.specs.declared.fault.Fault.{Fault}
use Rattle.git_pkt.specs.declared.fault.Kind.{Kind}
use Rattle.git_pkt.specs.declared.fault.Kind.TheVariants.{RemoteError, RemoteFatal}
use Rattle.git_pkt.specs.declared.reader.PacketReader.{PacketReader}
use Rattle.git_msg.specs.Asked.{Asked}
use Rattle.git_msg.specs.Texts.{IsErrorOf, IsErrorText}
use Rattle.git_client.specs.Parts.{Terms}
use Rattle.git_client.specs.Machine.Turns.{question_in}
use Rattle.git_client.specs.Machine.Client.{History, Converses, StandsIn, RefusedPacket, phase_of, reader_of, request_of}
use Rattle.git_client.specs.Machine.Client.{EndsWithMessage, EndsWithoutMessage, IsMessage, is_announced}
use Rattle.git_client.specs.declared.phase.Phase.{Phase}
use Rattle.git_client.specs.declared.phase.Phase.TheVariants.{Failed}
use Rattle.git_client.specs.declared.client.Client.{Client}
use Rattle.git_client.proofs.Refusals.{is_own, why_refused}

not_by_bytes : (p : ℕ) (rest : List ℕ) (end : ℕ) (kind : Kind) (offset : ℕ) → is_announced kind ≡ true → StopsBy p rest end kind offset → ⊥
not_by_bytes p rest end RemoteError offset announced h = h.0
not_by_bytes p rest end RemoteFatal offset announced h = h.0
not_by_bytes p rest end kind offset announced h = absurd (cc)

not_own : (kind : Kind) → is_announced kind ≡ true → is_own kind ≡ true → ⊥
not_own RemoteError announced own = cc
not_own RemoteFatal announced own = cc
not_own kind announced own = absurd (cc)

-- the error was reported in a packet
announced_by_packet : (t : Terms) (asked : List Asked) (clean given : List Given) (rest : List ℕ) (end : ℕ) (fault : Fault) (reader : PacketReader)
    (question : _) → is_announced fault.kind ≡ true → StandsIn (Failed fault) t asked clean given rest end question reader
    → RefusedPacket t asked clean given rest fault reader
announced_by_packet t asked clean given rest end fault reader question announced (inl packet) = packet
announced_by_packet t asked clean given rest end fault reader question announced (inr (inl bytes)) = absurd (not_by_bytes _ _ _ fault.kind _ announced bytes.by)
announced_by_packet t asked clean given rest end fault reader question announced (inr (inr early)) =
    let never = sym announced ∙ ap is_announced early.kind in absurd (cc)

module _ {A : Type 0} where
  -- the payload in the hold reports the error, and the bytes end with its message
  pub record HoldsMessage (t : Terms) (h : History) (client : Client A) (kind : Kind) : Type 0 where
    pub line : List ℕ
    pub held : drop 4 (held_of (reader_of client)) ≡ line
    pub conveys : (message : List ℕ) × IsMessage kind line message
    pub ends : (message : List ℕ) → IsMessage kind line message → EndsWithMessage t h.asked h.used message

  pub holds_message : (t : Terms) (h : History) (client : Client A) (fault : Fault) → Converses t h client → phase_of client ≡ Failed fault
      → is_announced fault.kind ≡ true → HoldsMessage t h client fault.kind
  holds_message t h client fault c failed announced =
      let stands : StandsIn (Failed fault) t h.asked c.clean c.given c.rest (length h.used) (question_in (request_of client)) (reader_of client) =
      subst (λ (phase : Phase). StandsIn phase t h.asked c.clean c.given c.rest (length h.used) (question_in (request_of client)) (reader_of client))
      failed c.stands in
      let packet = announced_by_packet t h.asked c.clean c.given c.rest (length h.used) fault (reader_of client)
      (question_in (request_of client)) announced stands in
      let bad = packet.bad in
      let refused = packet.refused in
      elim (why_refused t.format t.ending refused.place bad.packet fault.kind refused.refuses) [
        | inl announces ↦ record {
          line = announces.line;
          held = packet.held.body ∙ ap body_of announces.packet;
          conveys = (announces.message, announces.conveys);
          ends = λ message conveys. record {
            clean = c.clean;
            bad = bad;
            rest = c.rest;
            line = announces.line;
            kind = fault.kind;
            splits = subst (λ (gs : List Given). Splits 0 h.used gs c.rest) packet.cut c.reads.splits;
            refused = refused;
            packet = announces.packet;
            conveys = conveys;
          };
        }
        | inr own ↦ absurd (not_own fault.kind announced own)
      ]

  -- the message of an error packet in the hold
  pub error_announced : (t : Terms) (h : History) (client : Client A) (text : List ℕ) (found : Option (Bor (List ℕ))) → HoldsMessage t h client RemoteError
      → text ≡ text_of (drop 4 (held_of (reader_of client))) → MatchOption found (¬ IsErrorText text) (λ m. IsErrorOf text m.now)
      → MatchOption found (EndsWithoutMessage client) (λ m. EndsWithMessage t h.asked h.used m.now)
  error_announced t h client text None holds e none =
      absurd (none (record { message = holds.conveys.0; spelled = e ∙ ap text_of holds.held ∙ holds.conveys.1 }))
  error_announced t h client text (Some m) holds e some = holds.ends m.now (sym (e ∙ ap text_of holds.held) ∙ some)

  -- the bytes in the hold after the band of a fatal error
  pub fatal_announced : (t : Terms) (h : History) (client : Client A) (bytes : List ℕ) (found : Option (Bor (List ℕ))) → HoldsMessage t h client RemoteFatal
      → bytes ≡ drop 4 (held_of (reader_of client)) → MatchOption found (length bytes < 1) (λ m. m.now ≡ drop 1 bytes)
      → MatchOption found (EndsWithoutMessage client) (λ m. EndsWithMessage t h.asked h.used m.now)
  fatal_announced t h client bytes None holds e none = absurd (omega (arith, none, ap length (e ∙ holds.held ∙ holds.conveys.1)))
  fatal_announced t h client bytes (Some m) holds e some =
      let line = e ∙ holds.held ∙ holds.conveys.1 in
      holds.ends m.now (holds.conveys.1 ∙ ap (λ (l : List ℕ). 3 ∷ l) (sym (some ∙ ap (drop 1) line)))
