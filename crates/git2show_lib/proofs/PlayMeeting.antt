-- A client that receives what a server gives, packet by packet.
use Rattle.std.proofs.Common.{arith, ◌≡◌, ℕ, Bool, true, false, take, drop, List, [], ◌++◌, Option, Some, None}
use Rattle.std.proofs.Common.{Err, refl, ◌∙◌, append_assoc, append-nil, length-drop, take-append-drop, inl, inr}
use Rattle.std.proofs.lemmas.List.{drop_all}
use Rattle.git_pkt.specs.Streams.{Flow, flow}
use Rattle.git_pkt.specs.declared.fault.RunFault.{RunFault}
use Rattle.git_pkt.specs.declared.fault.RunFault.TheVariants.{ReadFault, WriteFault, ReadLimit, Refused as RefusedRun}
use Rattle.git_pkt.proofs.EngineLemmas.{timely}
use Rattle.git_client.specs.Machine.Client.{can_ask, phase_of, wants_input}
use Rattle.git_client.specs.Machine.RunSteps.{ReceivesBytes, ReceivesInChunk, ReceivesChunkTo}
use Rattle.git_client.specs.declared.client.Client.{Client}
use Rattle.git_client.specs.declared.receiving.Counts.{Counts}
use Rattle.git_client.proofs.ReceivedBytes.{received_then, nothing_received}
use Rattle.git_client.proofs.Phases.{not_ready_where_expected}
use Rattle.git_server.specs.Repository.{RepoState}
use Rattle.git_server.specs.Machine.Server.{outcome_of}
use Rattle.git_server.specs.Machine.ServerCalls.{IsAfterPull, Pulls, AnnouncesPulled}
use Rattle.git_server.specs.declared.outcome.Outcome.{Outcome}
use Rattle.git_server.specs.declared.server.Pulled.{Pulled}
use Rattle.git_server.specs.declared.server.Pulled.TheVariants.{Packet, NeedInput, Finished}
use Rattle.git_server.specs.declared.server.Server.{Server}
use Rattle.git_server.proofs.Outcomes.{too_long_before}
use Rattle.git2show_lib.specs.Machine.PlaySteps.{GivesOn, ReceivesFront, ReceivesOut, ReceivesServerTo, IsSpent, StopsAt, silent}
use denote.Ref.{Bor}

-- ---- the server

none_before : (old now : Option Outcome) → IsAfterPull old now → now ≡ None → old ≡ None
none_before None now after none = refl
none_before (Some outcome) now after none = absurd (cc)

module _ {R A : Type 0} (state : R → RepoState) where
  gives_still : (server : Server R A) → GivesOn state server [] server
  gives_still server s content given h = rw (append-nil given) h

  gives_then : (old middle new : Server R A) (g k : List ℕ) → GivesOn state old g middle → GivesOn state middle k new → GivesOn state old (g ++ k) new
  gives_then old middle new g k first second s content given h =
      rw (append_assoc given g k) at (second s content (given ++ g) (first s content given h))

  -- a packet was pulled
  gives_packet : (old new : Server R A) (pulled : Pulled) (bytes : Bor (List ℕ)) → Pulls state old pulled new → pulled ≡ Packet bytes
      → GivesOn state old bytes.now new
  gives_packet old new pulled bytes pulls is s content given h = record {
    used = h.used;
    unused = h.unused;
    parts = h.parts;
    runs = rw (append-nil h.used, is) at (pulls.goes s h.used false given h.runs);
    settled = λ none. h.settled (none_before (outcome_of old) (outcome_of new) pulls.outcome none);
    in_time = λ fault ended late. h.in_time fault (too_long_before (outcome_of old) (outcome_of new) fault pulls.outcome ended late) late;
  }

  -- ---- both

  -- all that was sent was received, and then some of these bytes, which the server sent, or which come after all that it sent
  module _ {old b : Client A} {counts now : Counts} {server middle : Server R A} (new : Server R A)
      {announced_before announced sent_before sent : Option (List ℕ)} {unheard : List ℕ}
      (arrives : ReceivesFront state false old b counts now server middle [] unheard (flow announced_before announced) (flow sent_before sent))
      (waits : wants_input b ≡ true)
      (none : unheard ≡ []) (bytes given end : List ℕ) (parts : given ++ end ≡ arrives.given ++ bytes) (goes : GivesOn state server given new) where
    pub receives_more : {broken : Bool} {c : Client A} {after : Counts} {announced_after sent_after : Option (List ℕ)} (u : ℕ)
        → ReceivesBytes broken b c now after (take u bytes) (flow announced announced_after) (flow sent sent_after) silent
        → ReceivesFront state broken old c counts after server new end (drop u bytes) (flow announced_before announced_after) (flow sent_before sent_after)
    receives_more u step =
        let all : arrives.given ≡ arrives.used = simp (none, append-nil) at arrives.parts in
        record {
          given = given;
          used = arrives.used ++ take u bytes;
          parts = parts ∙ simp (all, append_assoc, take-append-drop);
          arrived = received_then (not_ready_where_expected (phase_of b) waits) arrives.arrived step;
          server_goes = goes;
        }

    -- a fault was met in them
    pub stops_in : (fault : RunFault) (c : Client A) (after : Counts) (announced_after sent_after : Option (List ℕ))
        → ReceivesChunkTo (Err fault) b c now after bytes (flow announced announced_after) (flow sent sent_after) silent
        → StopsAt state fault false old c counts after server new end (flow announced_before announced_after) (flow sent_before sent_after)
    stops_in ReadFault c after announced_after sent_after step = absurd step
    stops_in ReadLimit c after announced_after sent_after step = absurd step
    stops_in WriteFault c after announced_after sent_after step = (drop step.used bytes, receives_more step.used step.arrives)
    stops_in (RefusedRun fault) c after announced_after sent_after step = (
      drop step.used bytes,
      record {
        arrives = receives_more step.used step.arrives;
        announced = step.announced;
        timely = timely fault.kind false (drop step.used bytes) step.shown.not_the_end
            (λ late. omega (arith, step.shown.one_more late, length-drop step.used bytes));
        done = λ no. absurd (cc);
      },
    )

  -- the client received all that the server gave so far, or can ask
  pub record Receiving (old new : Client A) (counts counts_after : Counts) (server after : Server R A) (out packs : Flow) : Type 0 where
    pub unheard : List ℕ
    pub arrives : ReceivesFront state false old new counts counts_after server after [] unheard out packs
    pub expected : wants_input new ≡ true → unheard ≡ []
    pub asks : wants_input new ≡ false → can_ask new ≡ true

  pub receiving_begins : (client : Client A) (counts : Counts) (server : Server R A) (announced sent : Option (List ℕ)) → wants_input client ≡ true
      → Receiving client client counts counts server server (flow announced announced) (flow sent sent)
  receiving_begins client counts server announced sent waits = record {
    unheard = [];
    arrives = record {
      given = [];
      used = [];
      parts = refl;
      arrived = nothing_received client counts announced sent None waits;
      server_goes = gives_still server;
    };
    expected = λ _. refl;
    asks = λ none. absurd (cc);
  }

  module _ {old b : Client A} {counts now : Counts} {server middle new : Server R A} {pulled : Pulled} {bytes : Bor (List ℕ)}
      {announced_before announced sent_before sent : Option (List ℕ)}
      (so_far : Receiving old b counts now server middle (flow announced_before announced) (flow sent_before sent))
      (waits : wants_input b ≡ true) (pulls : Pulls state middle pulled new) (is : pulled ≡ Packet bytes) where
    given_on : GivesOn state server (so_far.arrives.given ++ bytes.now) new
    given_on = gives_then server middle new so_far.arrives.given bytes.now so_far.arrives.server_goes (gives_packet middle new pulled bytes pulls is)

    -- a packet was received, or as much of it as was expected
    pub receiving_on : {c : Client A} {after : Counts} {announced_after sent_after : Option (List ℕ)} (u : ℕ)
        → ReceivesInChunk b c now after bytes.now u (flow announced announced_after) (flow sent sent_after) silent
        → Receiving old c counts after server new (flow announced_before announced_after) (flow sent_before sent_after)
    receiving_on u step = record {
      unheard = drop u bytes.now;
      arrives = receives_more new so_far.arrives waits (so_far.expected waits) bytes.now (so_far.arrives.given ++ bytes.now) []
          (append-nil (so_far.arrives.given ++ bytes.now)) given_on u step.arrives;
      expected = λ wants. drop_all u bytes.now (omega (arith, step.all wants));
      asks = step.whole;
    }

    -- the receiving of a packet stopped
    pub meeting_stopped : (fault : RunFault) (c : Client A) (after : Counts) (announced_after sent_after : Option (List ℕ))
        → ReceivesChunkTo (Err fault) b c now after bytes.now (flow announced announced_after) (flow sent sent_after) silent
        → ReceivesServerTo state (Err fault) old c counts after server new (flow announced_before announced_after) (flow sent_before sent_after)
    meeting_stopped =
        stops_in new so_far.arrives waits (so_far.expected waits) bytes.now (so_far.arrives.given ++ bytes.now) []
        (append-nil (so_far.arrives.given ++ bytes.now)) given_on

  -- the client can ask, or the server gives nothing more
  pub received_out : (old new : Client A) (counts after : Counts) (server last : Server R A) (out packs : Flow)
      → Receiving old new counts after server last out packs → (wants_input new ≡ true → IsSpent state last)
      → ReceivesOut state old new counts after server last out packs
  received_out old new counts after server last out packs h spent = record {
    unheard = h.unheard;
    arrives = h.arrives;
    expected = λ wants. (h.expected wants, spent wants);
    asks = h.asks;
  }

  -- the server gave nothing more
  pub spent_waiting : (old new : Server R A) (pulled : Pulled) → Pulls state old pulled new → pulled ≡ NeedInput → (new ≡ old) × IsSpent state old
  spent_waiting old new pulled pulls is =
      let announces : AnnouncesPulled state old NeedInput new = rw is at pulls.announces in
      (announces.1, inl announces.0)

  pub spent_ended : (old new : Server R A) (pulled : Pulled) (outcome : Outcome) → Pulls state old pulled new → pulled ≡ Finished outcome
      → (new ≡ old) × IsSpent state old
  spent_ended old new pulled outcome pulls is =
      let announces : AnnouncesPulled state old (Finished outcome) new = rw is at pulls.announces in
      (announces.2, inr (outcome, announces.0, announces.3))
