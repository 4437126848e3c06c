-- A message of a server, and the packet after it, received whole or up to a fault.
use Rattle.std.proofs.Common.{arith, ◌≡◌, inl, ℕ, Bool, true, false, List, [], ◌++◌, drop, Option, None}
use Rattle.std.proofs.Common.{Result, Ok, Err, refl, sym, ap, ◌∙◌, append_assoc, append-nil, length-append}
use Rattle.std.proofs.lemmas.List.{drop_all}
use Rattle.std.specs.Io.KnownBytes.{Keeps}
use Rattle.git_pkt.specs.Streams.{Flow, flow, IsTimely}
use Rattle.git_pkt.specs.declared.fault.Kind.{Kind}
use Rattle.git_pkt.specs.declared.fault.Kind.TheVariants.{StreamTooLong, Truncated}
use Rattle.git_pkt.specs.declared.fault.RunFault.{RunFault}
use Rattle.git_pkt.specs.declared.fault.RunFault.TheVariants.{ReadFault, WriteFault, ReadLimit, Refused as RefusedRun}
use Rattle.git_pkt.proofs.EngineLemmas.{written_flushed, written_nothing}
use Rattle.git_msg.specs.declared.requests.Request.{Request}
use Rattle.git_client.specs.Machine.Client.{can_ask, phase_of, wants_input}
use Rattle.git_client.specs.Machine.RunSteps.{ReceivesInChunk, ReceivesChunkTo, no_counts}
use Rattle.git_client.specs.declared.client.Client.{Client}
use Rattle.git_client.specs.declared.receiving.Counts.{Counts}
use Rattle.git_client.proofs.ReceivedBytes.{received_flushed, received_then, received_to_fault}
use Rattle.git_client.proofs.Phases.{not_ready_where_expected}
use Rattle.git_server.specs.Repository.{RepoState}
use Rattle.git_server.specs.declared.server.Server.{Server}
use Rattle.git2show_lib.specs.Machine.PlaySteps.{AnswersTo, AsksServer, EndsMessageTo, ReceivesFront, ReceivesMessageTo, ReceivesOut, ReceivesServerTo}
use Rattle.git2show_lib.specs.Machine.PlaySteps.{IsSpent, silent}
use Rattle.git2show_lib.proofs.PlayMeeting.{receives_more, stops_in}

-- more bytes that nobody used change nothing where the input goes on
timely_more : (kind : Kind) (unheard more : List ℕ) → IsTimely kind false unheard → IsTimely kind false (unheard ++ more)
timely_more Truncated unheard more (_, ended) = absurd (cc)
timely_more StreamTooLong unheard more some = omega (arith, some, length-append unheard more)
timely_more kind unheard more some = tt

module _ {R A : Type 0} (state : R → RepoState) where
  -- ---- what comes after a message

  -- bytes that come after all that was sent are not received yet
  receives_with : {broken : Bool} {old new : Client A} {counts : Counts} {server after : Server R A} {unheard : List ℕ} {out packs : Flow} (end : List ℕ)
      → ReceivesFront state broken old new no_counts counts server after [] unheard out packs
      → ReceivesFront state broken old new no_counts counts server after end (unheard ++ end) out packs
  receives_with {unheard = unheard} end h = record {
    given = h.given;
    used = h.used;
    parts = rw (sym (append-nil h.given) ∙ h.parts) (append_assoc h.used unheard end);
    arrived = h.arrived;
    server_goes = h.server_goes;
  }

  -- a fault was met before all of the message was received
  pub message_stopped : (end : List ℕ) (old new : Client A) (counts : Counts) (server after : Server R A) (out packs : Flow) (fault : RunFault)
      → ReceivesServerTo state (Err fault) old new no_counts counts server after out packs
      → ReceivesMessageTo state (Err fault) end old new server after out packs
  message_stopped end old new counts server after out packs ReadFault step = absurd step
  message_stopped end old new counts server after out packs ReadLimit step = absurd step
  message_stopped end old new counts server after out packs WriteFault (unheard, arrives) = (false, counts, (unheard ++ end, receives_with end arrives))
  message_stopped end old new counts server after out packs (RefusedRun fault) (unheard, step) = (
    false,
    counts,
    (
      unheard ++ end,
      record {
        arrives = receives_with end step.arrives;
        announced = step.announced;
        timely = timely_more fault.kind unheard end step.timely;
        done = λ no. absurd (cc);
      },
    ),
  )

  -- ---- before the flushes

  -- a message was received, and the packet after it, up to where the client can ask or nothing more comes
  pub record MessageReceived (end : List ℕ) (old new : Client A) (server after : Server R A) (out packs : Flow) : Type 0 where
    pub counts : Counts
    pub unheard : List ℕ
    pub arrives : ReceivesFront state false old new no_counts counts server after end unheard out packs
    pub expected : wants_input new ≡ true → (unheard ≡ []) × IsSpent state after
    pub asks : wants_input new ≡ false → can_ask new ≡ true

  -- the client could ask before it
  pub arrived_before : (end : List ℕ) (old new : Client A) (counts : Counts) (server after : Server R A) (out packs : Flow) → wants_input new ≡ false
      → ReceivesOut state old new no_counts counts server after out packs → MessageReceived end old new server after out packs
  arrived_before end old new counts server after out packs none h = record {
    counts = counts;
    unheard = h.unheard ++ end;
    arrives = receives_with end h.arrives;
    expected = λ wants. absurd (let no : true ≡ false = sym wants ∙ none in cc);
    asks = h.asks;
  }

  -- what comes after it was received, or a fault met in it
  module _ (end : List ℕ) {old middle : Client A} {counts : Counts} {server after : Server R A} {announced_before announced sent_before sent : Option (List ℕ)}
      (arrived : ReceivesOut state old middle no_counts counts server after (flow announced_before announced) (flow sent_before sent))
      (waits : wants_input middle ≡ true) where
    pub received_with : {new : Client A} {now : Counts} {announced_after sent_after : Option (List ℕ)} (n : ℕ)
        → ReceivesInChunk middle new counts now end n (flow announced announced_after) (flow sent sent_after) silent
        → MessageReceived end old new server after (flow announced_before announced_after) (flow sent_before sent_after)
    received_with {now = now} n step = record {
      counts = now;
      unheard = drop n end;
      arrives = receives_more state after arrived.arrives waits
          (arrived.expected waits).0 end arrived.arrives.given end refl arrived.arrives.server_goes n step.arrives;
      expected = λ wants. (drop_all n end (omega (arith, step.all wants)), (arrived.expected waits).1);
      asks = step.whole;
    }

    pub end_stopped : (fault : RunFault) (new : Client A) (now : Counts) (announced_after sent_after : Option (List ℕ))
        → ReceivesChunkTo (Err fault) middle new counts now end (flow announced announced_after) (flow sent sent_after) silent
        → ReceivesMessageTo state (Err fault) end old new server after (flow announced_before announced_after) (flow sent_before sent_after)
    end_stopped fault new now announced_after sent_after step = (
      false,
      now,
      stops_in state after arrived.arrives waits
          (arrived.expected waits).0 end arrived.arrives.given end refl arrived.arrives.server_goes fault new now announced_after sent_after
          step,
    )

  -- ---- after the flushes

  module _ {end : List ℕ} {old new : Client A} {server after : Server R A} {announced_before announced sent_before sent : Option (List ℕ)}
      (announced_after sent_after : Option (List ℕ))
      (arrived : MessageReceived end old new server after (flow announced_before announced) (flow sent_before sent))
      (kept : Keeps announced announced_after) (kept_pack : Keeps sent sent_after) where
    receives_flushed : (broken : Bool)
        → ReceivesFront state broken old new no_counts arrived.counts server after end arrived.unheard (flow announced_before announced_after)
        (flow sent_before sent_after)
    receives_flushed broken = record {
      given = arrived.arrives.given;
      used = arrived.arrives.used;
      parts = arrived.arrives.parts;
      arrived = received_flushed arrived.arrives.arrived (written_flushed false announced announced announced_after [] (written_nothing announced) kept)
          (written_flushed false sent sent sent_after [] (written_nothing sent) kept_pack) (written_nothing None);
      server_goes = arrived.arrives.server_goes;
    }

    -- nothing more comes
    pub message_ended : (result : Result (Unit {0}) RunFault) (closed : Client A) → EndsMessageTo result new closed
        → ReceivesMessageTo state result end old closed server after (flow announced_before announced_after) (flow sent_before sent_after)
    message_ended (Ok done) closed (same, none) =
        rw same (record { counts = arrived.counts; unheard = arrived.unheard; arrives = receives_flushed false; asks = arrived.asks none })
    message_ended (Err ReadFault) closed ends = absurd ends
    message_ended (Err ReadLimit) closed ends = absurd ends
    message_ended (Err WriteFault) closed same =
        rw same (false, arrived.counts, (arrived.unheard, receives_flushed true))
    message_ended (Err (RefusedRun fault)) closed (waits, arrives, failed, kind) =
        let flushed = receives_flushed false in
        let (all, spent) = arrived.expected waits in
        let nothing = received_to_fault arrived.counts arrives fault failed (written_nothing announced_after)
        (written_nothing sent_after) (written_nothing None) in (
          true,
          arrived.counts,
          (
            [],
            record {
              arrives = record {
                given = flushed.given;
                used = flushed.used ++ [];
                parts = flushed.parts ∙ ap (λ (l : List ℕ). flushed.used ++ l) all ∙ sym (append-nil (flushed.used ++ []));
                arrived = received_then (not_ready_where_expected (phase_of new) waits) flushed.arrived nothing;
                server_goes = flushed.server_goes;
              };
              announced = failed;
              timely = rw kind (refl, refl);
              done = λ _. (refl, spent);
            },
          ),
        )

  -- ---- a request and the response

  pub answers : (result : Result (Unit {0}) RunFault) (end : List ℕ) (old asking new : Client A) (request : Request A) (server announced after : Server R A)
      (announced_before written announced_after : Option (List ℕ)) (packs : Flow)
      → AsksServer state old asking request server announced (flow announced_before written)
      → ReceivesMessageTo state result end asking new announced after (flow written announced_after) packs
      → AnswersTo state result end old new request server after (flow announced_before announced_after) packs
  answers (Ok done) end old asking new request server announced after announced_before written announced_after packs asks arrives =
      record { asking = asking; announced = announced; written = written; asks = asks; arrives = arrives }
  answers (Err fault) end old asking new request server announced after announced_before written announced_after packs asks arrives =
      inl (record { asking = asking; announced = announced; written = written; asks = asks; arrives = arrives })
