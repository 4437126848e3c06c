-- A packet sent to a server, chunk by chunk.
use Rattle.std.proofs.Common.{arith, ◌≡◌, ◌≢◌, ℕ, suc, ◌+◌, ◌<◌, ◌≤◌, Bool, true, false}
use Rattle.std.proofs.Common.{cond, length, take, drop, min, List, [], ◌∷◌, ◌++◌, Some}
use Rattle.std.proofs.Common.{refl, sym, ap, ◌∙◌, append_assoc, append-nil, length-drop, take-append-drop, inl, inr}
use Rattle.std.proofs.Math.Seq.{take-add}
use Rattle.std.proofs.lemmas.List.{drop_all, length-take, take-take}
use Rattle.std.proofs.lemmas.Bool.{cases_lt}
use Rattle.git_pkt.specs.declared.fault.Fault.{Fault}
use Rattle.git_pkt.specs.declared.fault.Kind.TheVariants.{StreamTooLong}
use Rattle.git_pkt.proofs.Chunks.{left_of}
use Rattle.git_server.specs.Repository.{RepoState}
use Rattle.git_server.specs.Machine.Server.{Running, outcome_of, wants_input}
use Rattle.git_server.specs.Machine.ServerCalls.{Goes, StopsInTime}
use Rattle.git_server.specs.Sessions.{Setting}
use Rattle.git_server.specs.declared.outcome.Outcome.TheVariants.{Refused}
use Rattle.git_server.specs.declared.server.Server.{Server}
use Rattle.git2show_lib.specs.Machine.PlaySteps.{Stands}
use Rattle.git2show_lib.proofs.ChunkParts.{left_bytes, left_length}

-- ---- the next chunk of a packet

abbrev pub next_chunk : List ℕ → ℕ → ℕ → List ℕ
next_chunk packet done k = take k (left_bytes packet done)

module _ (packet : List ℕ) (done k u : ℕ) (within : done ≤ length packet) (few : u ≤ length (next_chunk packet done k)) where
  pub chunk_fits : done + u ≤ length packet
  chunk_fits = omega (arith, few, length-take k (left_bytes packet done), left_length packet done within)

  pub chunk_joined : take done packet ++ take u (next_chunk packet done k) ≡ take (done + u) packet
  chunk_joined =
      let front = take-take u k (left_bytes packet done) (omega (arith, few, length-take k (left_bytes packet done))) in
      ap (λ (l : List ℕ). take done packet ++ l) (front ∙ ap (take u) (left_of packet done within))
      ∙ sym (take-add done u packet)

-- a chunk of some bytes is there while some are left
pub chunk_some : (packet : List ℕ) (done k cut : ℕ) → done < length packet → 0 < cut → k ≡ min cut (length (left_bytes packet done))
    → 0 < length (next_chunk packet done k)
chunk_some packet done k cut less some is =
    omega (arith, less, some, is, length-take k (left_bytes packet done), left_length packet done (omega (arith, less)))

-- what falls while one wants input, or stops wanting it
abbrev pub turns_left : Bool → ℕ → ℕ
turns_left wants left = cond wants (suc left) 0

pub fewer_turns : (wants : Bool) (before left : ℕ) → (wants ≡ true → left < before) → turns_left wants left < turns_left true before
fewer_turns true before left less = omega (arith, less refl)
fewer_turns false before left less = omega arith

some_left : (xs ys : List ℕ) → xs ≢ [] → xs ++ ys ≢ []
some_left [] ys some none = some refl
some_left (x ∷ xs) ys some none = cc

module _ {R A : Type 0} (state : R → RepoState) where
  -- what holds of a server while a packet is sent to it, with this left to send
  pub record Announcing (s : Setting) (content given left : List ℕ) (server : Server R A) : Type 0 where
    pub used : List ℕ
    pub unused : List ℕ
    pub parts : content ≡ used ++ unused
    pub runs : Running state s used false given server
    pub keeps : wants_input server ≡ true → unused ≡ []
    pub in_time : (fault : Fault) → outcome_of server ≡ Some (Refused fault) → fault.kind ≡ StreamTooLong → unused ++ left ≢ []

  pub announcing_begins : (s : Setting) (content given packet : List ℕ) (server : Server R A) → Stands state s content given server
      → Announcing s (content ++ take 0 packet) given (drop 0 packet) server
  announcing_begins s content given packet server h = record {
    used = h.used;
    unused = h.unused;
    parts = append-nil content ∙ h.parts;
    runs = h.runs;
    keeps = h.keeps;
    in_time = λ fault is late. some_left h.unused packet (h.in_time fault is late);
  }

  module _ (packet : List ℕ) (done k u : ℕ) (within : done ≤ length packet) (few : u ≤ length (next_chunk packet done k)) (old new : Server R A) where
    pub announcing_on : wants_input old ≡ true → Goes state (take u (next_chunk packet done k)) [] old new
        → StopsInTime state old u (next_chunk packet done k) (outcome_of new) → (s : Setting) (content given : List ℕ)
        → Announcing s (content ++ take done packet) given (drop done packet) old
        → Announcing s (content ++ take (done + u) packet) given (drop (done + u) packet) new
    announcing_on wants goes in_time s content given h =
        let chunk = next_chunk packet done k in
        let none : h.unused ≡ [] = h.keeps wants in
        let all : content ++ take done packet ≡ h.used = h.parts ∙ rw none (append-nil h.used) in
        record {
          used = h.used ++ take u chunk;
          unused = [];
          parts = rw (← chunk_joined packet done k u within few, ← append_assoc content (take done packet) (take u chunk), all)
              (sym (append-nil (h.used ++ take u chunk)));
          runs = rw (append-nil given) at (goes s h.used false given h.runs);
          keeps = λ _. refl;
          in_time = λ fault is late nothing.
              let less = in_time s h.used false given h.runs wants fault is late in
              absurd (omega (
                arith,
                less,
                length-take k (left_bytes packet done),
                left_length packet done within,
                ap length nothing,
                length-drop (done + u) packet,
              ));
        }

  pub announcing_ends : (s : Setting) (content given packet : List ℕ) (done : ℕ) (server : Server R A) → (done < length packet → wants_input server ≡ false)
      → Announcing s (content ++ take done packet) given (drop done packet) server → Stands state s (content ++ packet) (given ++ []) server
  announcing_ends s content given packet done server stops h =
      let whole : content ++ (take done packet ++ drop done packet) ≡ h.used ++ (h.unused ++ drop done packet) =
      rw (← append_assoc content (take done packet) (drop done packet), h.parts) (append_assoc h.used h.unused (drop done packet)) in
      record {
        used = h.used;
        unused = h.unused ++ drop done packet;
        parts = rw (take-append-drop done packet) at whole;
        runs = rw (append-nil given) h.runs;
        keeps = λ wants. rw (h.keeps wants) (drop_all done packet (elim (cases_lt done (length packet)) [
          | inl less ↦ absurd (let no = stops less in cc)
          | inr all ↦ all
        ]));
        in_time = h.in_time;
      }
