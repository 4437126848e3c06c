use Rattle.std.proofs.Common.{rules, arith, Bool, ◌||◌, Err, ◌≡◌, ◌∷◌, [], ◌++◌, length, false, true, refl, sym, ap, ◌∙◌, subst}
use denote.Enum.Bare.{same_true, sameb}
use Rattle.std.proofs.lemmas.Bool.{or_parts, or_from}
use Rattle.std.specs.Io.KnownBytes.{Keeps}
use Rattle.git_pkt.specs.Machine.Recorded.{inner_of, has_failed, has_ended}
use Rattle.git_pkt.specs.declared.fault.RunFault.{RunFault}
use Rattle.git_pkt.specs.declared.recorded.Recorded.{Recorded}
use Rattle.git_loop.specs.OneStreams.{reader_of, waiting_in}
use Rattle.git_client.specs.declared.client.Client.{Client}
use Rattle.git_client.specs.declared.events.Ending.{Ending}
use Rattle.git_client.specs.declared.events.Ending.TheVariants.{FlushOnly}
use Rattle.git_client.specs.contracts.events.Ending.{the_type}
use Rattle.git_client.specs.Machine.Client.{ending_of}
use Rattle.git_pkt.specs.Streams.{flow, is_broken}
use Rattle.git_client.specs.Machine.RunSteps.{SendsPackets, no_counts}
use Rattle.git_client.proofs.AskedInTurn.{next_is, none_more, one_more}
use Rattle.git_client.proofs.ClientRuns.{RunEnds, begins, over_empty, asks_on, receives_whole, ends_at, ends_at_write, breaks_unflushed}
use Rattle.git_client.proofs.ClientRuns.{receiving_ended, asking_stopped, stays_to_the_end, leaving_stopped, leaves_at_the_end}
use Rattle.git_client.proofs.ClientRuns.{fails_at, shown_at, flush_fails, flush_shows, sound_last, sound_first}
use Rattle.git_client.proofs.HandedBack.{back_at, back_unwritten, back_written, back_from_receiving, back_from_asking}
use Rattle.git_client.proofs.Phases.{sound_where_expected, not_ready_where_left, sound_where_left}
use Rattle.git_client.proofs.Writing.{no_failure}
use Rattle.git_client.proofs.conversing.converse_over.Goals as goal
use Rattle.git_client.proofs.conversing.converse_over.Goals.{then-eq+in_ok-send_all, else-eq}

-- a write broke a step without a value
abbrev write_broke : RunFault → Bool
write_broke fault = is_broken {T = Unit {0}} (Err fault)

pub returns-in_err-flush-clause-conversed : goal.returns-in_err-flush-clause-conversed
returns-in_err-flush-clause-conversed g c =
    λ t begun.
    ends_at_write t _ _ _ _ _ _ _ _ _ _ c.from_residual.ensures.1 c.in_err-flush.ensures.fault
    (breaks_unflushed t _ [] _ refl _ _ no_counts _ (sound_where_expected _ c.requires.waits)
    (over_empty t c.requires.empty (begins t _ _ _ _ _ _ _ c.requires.waits begun c.flush.ensures.bytes)))

pub returns-in_err-receive_response-clause-conversed : goal.returns-in_err-receive_response-clause-conversed
returns-in_err-receive_response-clause-conversed g c =
    λ t begun.
    ends_at t _ _ _ _ _ _ _ _ _ _ c.from_residual-in_err-receive_response.ensures.1
    (receiving_ended t _ [] _ refl _ _ _ _ _ _ (over_empty t c.requires.empty (begins t _ _ _ _ _ _ _ c.requires.waits begun c.flush.ensures.bytes))
    c.requires.waits c.in_err-receive_response.ensures.arrived)

pub returns-in_err-receive_response-clause-fault : goal.returns-in_err-receive_response-clause-fault
returns-in_err-receive_response-clause-fault g c =
    shown_at c.from_residual-in_err-receive_response.result c.in_err-receive_response.field-0.0 _ _
    (has_failed c.receive_response.new.out || (has_failed c.receive_response.new.pack || g.E.Output.failed c.receive_response.new.progress)) _
    c.from_residual-in_err-receive_response.ensures.1 (λ failed. failed) (λ spent. spent)
    (sound_first (has_failed c.flush.new.writer) _ (no_failure _ _ _ c.in_ok-flush.ensures.failed c.requires.sound_writer))
    c.in_err-receive_response.ensures.fault

pub loop-request-init : goal.loop-request-init
loop-request-init g c =
    let arrived = c.in_ok-receive_response.ensures.arrived in
    record {
      runs = λ t begun. (
        _,
        receives_whole t [] _ _ _ _ (over_empty t c.requires.empty (begins t _ _ _ _ _ _ _ c.requires.waits begun c.flush.ensures.bytes))
            c.requires.waits arrived,
      );
      ready = arrived.can_ask_on;
      left_to_ask = sym c.into_iter-request-iterator.ensures.into_iter_gives.0;
      counted = search rules;
      reads = c.in_ok-receive_response.ensures.reads;
      sound_reader = search rules;
      open_ended = search rules;
      useful = c.in_ok-receive_response.ensures.useful ∙ c.requires.new_reader.useful;
      sound_writer = no_failure _ _ _ c.in_ok-flush.ensures.failed c.requires.sound_writer;
      sound_out = (or_parts _ _ c.in_ok-receive_response.ensures.announced.1).0;
      sound_pack = (or_parts _ _ (or_parts _ _ c.in_ok-receive_response.ensures.announced.1).1).0;
      sound_progress = (or_parts _ _ (or_parts _ _ c.in_ok-receive_response.ensures.announced.1).1).1;
      same_reader = c.in_ok-receive_response.ensures.same_reader;
    }

pub returns-in_err-ask_next-clause-conversed : goal.returns-in_err-ask_next-clause-conversed
returns-in_err-ask_next-clause-conversed g c =
    let at = c.loop-request in
    let request = c.in-Some.request in
    λ t begun.
    ends_at t _ _ _ _ _ _ _ _ _ _ c.from_residual-in_err-ask_next.ensures.1
    (asking_stopped t _ _ _ at.yielded _ request _ _ no_counts _
    (next_is _ at.yielded _ _ request at.invariant.left_to_ask c.in-Some.ensures.steps.0)
    at.invariant.ready (at.invariant.runs t begun).1 c.in_err-ask_next.ensures.asked)

pub returns-in_err-ask_next-clause-fault : goal.returns-in_err-ask_next-clause-fault
returns-in_err-ask_next-clause-fault g c =
    shown_at c.from_residual-in_err-ask_next.result c.in_err-ask_next.field-0.0 _ _
    (has_failed c.ask_next.new.writer || has_failed c.ask_next.new.out) _ c.from_residual-in_err-ask_next.ensures.1 (λ none. absurd none) (λ none. absurd none)
    (sound_last (has_failed c.ask_next.new.writer) (has_failed c.ask_next.new.out)
    (has_failed c.loop-request.pack || g.E.Output.failed c.loop-request.progress)
    (or_from _ _ c.loop-request.invariant.sound_pack c.loop-request.invariant.sound_progress))
    c.in_err-ask_next.ensures.fault

pub returns-in_err-ask_next-clause-announced : goal.returns-in_err-ask_next-clause-announced
returns-in_err-ask_next-clause-announced g c =
    fails_at c.from_residual-in_err-ask_next.result c.in_err-ask_next.field-0.0 false _ (has_failed c.ask_next.new.writer || has_failed c.ask_next.new.out) _
    c.from_residual-in_err-ask_next.ensures.1 (sym c.loop-request.invariant.sound_reader)
    (sound_last (has_failed c.ask_next.new.writer) (has_failed c.ask_next.new.out)
    (has_failed c.loop-request.pack || g.E.Output.failed c.loop-request.progress)
    (or_from _ _ c.loop-request.invariant.sound_pack c.loop-request.invariant.sound_progress))
    c.in_err-ask_next.ensures.announced

pub receive_response-requires-in-loop-request-clause-sound_out : goal.receive_response-requires-in-loop-request-clause-sound_out
receive_response-requires-in-loop-request-clause-sound_out g c = (or_parts _ _ c.in_ok-ask_next.ensures.announced.1).1

pub returns-in_err-receive_response-2-clause-conversed : goal.returns-in_err-receive_response-2-clause-conversed
returns-in_err-receive_response-2-clause-conversed g c =
    let at = c.loop-request in
    let request = c.in-Some.request in
    λ t begun.
    ends_at t _ _ _ _ _ _ _ _ _ _ c.from_residual-in_err-receive_response-2.ensures.1
    (receiving_ended t _ (at.yielded ++ request ∷ []) _ (one_more _ at.yielded _ _ request at.invariant.left_to_ask c.in-Some.ensures.steps.0) _ _ _ _ _ _
    (asks_on t false at.yielded _ _ request no_counts _ (at.invariant.runs t begun).1 at.invariant.ready c.in_ok-ask_next.ensures.asked.0)
    c.in_ok-ask_next.ensures.asked.1 c.in_err-receive_response-2.ensures.arrived)

pub returns-in_err-receive_response-2-clause-fault : goal.returns-in_err-receive_response-2-clause-fault
returns-in_err-receive_response-2-clause-fault g c =
    shown_at c.from_residual-in_err-receive_response-2.result c.in_err-receive_response-2.field-0.0 _ _
    (has_failed c.receive_response-in-loop-request.new.out
    || (has_failed c.receive_response-in-loop-request.new.pack || g.E.Output.failed c.receive_response-in-loop-request.new.progress)) _
    c.from_residual-in_err-receive_response-2.ensures.1
    (λ failed. failed) (λ spent. spent) (sound_first (has_failed c.ask_next.new.writer) _ (or_parts _ _ c.in_ok-ask_next.ensures.announced.1).0)
    c.in_err-receive_response-2.ensures.fault

pub returns-in_err-receive_response-2-clause-announced : goal.returns-in_err-receive_response-2-clause-announced
returns-in_err-receive_response-2-clause-announced g c =
    fails_at c.from_residual-in_err-receive_response-2.result c.in_err-receive_response-2.field-0.0 _ _
    (has_failed c.receive_response-in-loop-request.new.out
    || (has_failed c.receive_response-in-loop-request.new.pack || g.E.Output.failed c.receive_response-in-loop-request.new.progress)) _
    c.from_residual-in_err-receive_response-2.ensures.1 refl
    (sound_first (has_failed c.ask_next.new.writer) _ (or_parts _ _ c.in_ok-ask_next.ensures.announced.1).0) c.in_err-receive_response-2.ensures.announced

pub returns-in_err-receive_response-2-clause-same_reader : goal.returns-in_err-receive_response-2-clause-same_reader
returns-in_err-receive_response-2-clause-same_reader g c =
    let now = c.in_err-receive_response-2.ensures.same_reader in
    let before = c.loop-request.invariant.same_reader in
    (now.0 ∙ before.0, now.1 ∙ before.1)

pub loop-request-preserved : goal.loop-request-preserved
loop-request-preserved g c =
    let at = c.loop-request in
    let request = c.in-Some.request in
    let arrived = c.in_ok-receive_response-2.ensures.arrived in
    record {
      runs = λ t begun. (
        _,
        receives_whole t (at.yielded ++ request ∷ []) _ _ _ _
            (asks_on t false at.yielded _ _ request no_counts _ (at.invariant.runs t begun).1 at.invariant.ready c.in_ok-ask_next.ensures.asked.0)
            c.in_ok-ask_next.ensures.asked.1 arrived,
      );
      ready = arrived.can_ask_on;
      left_to_ask = one_more _ at.yielded _ _ request at.invariant.left_to_ask c.in-Some.ensures.steps.0;
      counted = omega (arith, at.invariant.counted, c.in-Some.ensures.steps.1, ap length c.in-Some.ensures.steps.0);
      reads = c.in_ok-receive_response-2.ensures.reads;
      sound_reader = c.in_ok-receive_response-2.ensures.announced.0;
      open_ended = c.in_ok-receive_response-2.ensures.goes_on;
      useful = c.in_ok-receive_response-2.ensures.useful ∙ at.invariant.useful;
      sound_writer = (or_parts _ _ c.in_ok-ask_next.ensures.announced.1).0;
      sound_out = (or_parts _ _ c.in_ok-receive_response-2.ensures.announced.1).0;
      sound_pack = (or_parts _ _ (or_parts _ _ c.in_ok-receive_response-2.ensures.announced.1).1).0;
      sound_progress = (or_parts _ _ (or_parts _ _ c.in_ok-receive_response-2.ensures.announced.1).1).1;
      same_reader = (
        c.in_ok-receive_response-2.ensures.same_reader.0 ∙ at.invariant.same_reader.0,
        c.in_ok-receive_response-2.ensures.same_reader.1 ∙ at.invariant.same_reader.1,
      );
    }

pub send_all-requires-clause-speaks : goal.send_all-requires-clause-speaks
send_all-requires-clause-speaks g c = not_ready_where_left _ c.leave.ensures.no_more

pub send_all-requires-clause-sound : goal.send_all-requires-clause-sound
send_all-requires-clause-sound g c = sound_where_left _ c.leave.ensures.no_more

pub returns-in_err-send_all-clause-conversed : goal.returns-in_err-send_all-clause-conversed
returns-in_err-send_all-clause-conversed g c =
    let at = c.loop-request in
    λ t begun.
    ends_at_write t _ _ _ _ _ _ _ _ _ _ c.from_residual-in_err-send_all.ensures.1 c.in_err-send_all.ensures.fault
    (leaving_stopped t _ at.yielded (none_more _ at.yielded _ at.invariant.left_to_ask (sym at.invariant.counted ∙ c.in-None.ensures.steps.0)) _ _ _
    no_counts _ at.invariant.ready c.leave.ensures _ (same_true the_type (search rules) _ _ (sym c.if-eq.ensures)) (at.invariant.runs t begun).1
    (subst (λ (fault : RunFault). SendsPackets (write_broke fault) c.leave.new.self c.send_all.new.client
    (flow (g.W.Write.contents (inner_of at.writer)) (g.W.Write.contents (inner_of c.send_all.new.writer)))) c.in_err-send_all.ensures.fault
    c.in_err-send_all.ensures.conveys))

pub returns-clause-conversed : goal.returns-clause-conversed
returns-clause-conversed g c =
    let at = c.loop-request in
    let all =
    none_more c.args.requests.items at.yielded _ at.invariant.left_to_ask (sym at.invariant.counted ∙ c.in-None.ensures.steps.0) in
    let ended = has_ended (reader_of at.input) in
    let reader = flow (g.R.Read.remaining (inner_of (reader_of c.args.input.now))) (g.R.Read.remaining (inner_of (reader_of at.input))) in
    let writer = flow (g.W.Write.contents (inner_of c.args.writer.now)) (g.W.Write.contents (inner_of c.flush-2.new.writer)) in
    let out = flow (g.O.Write.contents (inner_of c.args.out.now)) (g.O.Write.contents (inner_of at.out)) in
    let pack = flow (g.P.Write.contents (inner_of c.args.pack.now)) (g.P.Write.contents (inner_of at.pack)) in
    let progress = flow (g.E.Output.contents c.args.progress.now) (g.E.Output.contents at.progress) in
    λ t begun.
    elim c.if-eq.branch [
      | then-eq+in_ok-send_all w ↦
          let last : ending_of at.client ≡ FlushOnly = same_true the_type (search rules) _ _ (sym w.if-eq.ensures) in
          let kept : Keeps (g.W.Write.contents (inner_of w.send_all.new.writer)) (g.W.Write.contents (inner_of c.flush-2.new.writer)) =
          subst (λ (announced : Recorded _). Keeps (g.W.Write.contents (inner_of announced)) (g.W.Write.contents (inner_of c.flush-2.new.writer))) w.writer-is
          c.flush-2.ensures.bytes in
          subst (λ (client : Client _). RunEnds t c.args.requests.items c.flush-2.result ended client reader writer out pack progress) (sym w.client-is)
          (leaves_at_the_end t c.args.requests.items at.yielded all at.client w.leave.new.self w.send_all.new.client no_counts (waiting_in at.input)
          at.invariant.ready w.leave.ensures c.flush-2.result ended c.flush-2.ensures.fault last
          (at.invariant.runs t begun).1 w.in_ok-send_all.ensures.conveys kept)
      | else-eq w ↦
          let other : ending_of at.client ≡ FlushOnly → ⊥ = λ last. let differs : false ≡ true =
          w.if-eq.ensures ∙ ap (λ (ending : Ending). sameb the_type ending FlushOnly) last in absurd (cc) in
          let kept : Keeps (g.W.Write.contents (inner_of at.writer)) (g.W.Write.contents (inner_of c.flush-2.new.writer)) =
          subst (λ (announced : Recorded _). Keeps (g.W.Write.contents (inner_of announced)) (g.W.Write.contents (inner_of c.flush-2.new.writer))) w.writer-is
          c.flush-2.ensures.bytes in
          subst (λ (client : Client _). RunEnds t c.args.requests.items c.flush-2.result ended client reader writer out pack progress) (sym w.client-is)
          (stays_to_the_end t c.args.requests.items at.yielded all c.flush-2.result ended at.client no_counts (waiting_in at.input)
          c.flush-2.ensures.fault at.invariant.ready other (at.invariant.runs t begun).1 kept)
    ]

pub returns-clause-fault : goal.returns-clause-fault
returns-clause-fault g c =
    let sound : has_failed c.if-eq.writer ≡ false = elim c.if-eq.branch [
      | then-eq+in_ok-send_all w ↦ ap has_failed w.writer-is ∙ no_failure _ _ _ w.in_ok-send_all.ensures.failed c.loop-request.invariant.sound_writer
      | else-eq w ↦ ap has_failed w.writer-is ∙ c.loop-request.invariant.sound_writer
    ] in
    flush_shows (has_failed c.if-eq.writer) (has_failed c.flush-2.new.writer)
    (has_failed c.loop-request.out || (has_failed c.loop-request.pack || g.E.Output.failed c.loop-request.progress)) sound
    c.flush-2.result _ _ c.flush-2.ensures.failed c.flush-2.ensures.fault

pub returns-clause-announced : goal.returns-clause-announced
returns-clause-announced g c =
    let at = c.loop-request.invariant in
    let sound : has_failed c.if-eq.writer ≡ false = elim c.if-eq.branch [
      | then-eq+in_ok-send_all w ↦ ap has_failed w.writer-is ∙ no_failure _ _ _ w.in_ok-send_all.ensures.failed at.sound_writer
      | else-eq w ↦ ap has_failed w.writer-is ∙ at.sound_writer
    ] in
    flush_fails (has_failed c.if-eq.writer) (has_failed c.flush-2.new.writer)
    (has_failed c.loop-request.out || (has_failed c.loop-request.pack || g.E.Output.failed c.loop-request.progress)) sound c.flush-2.result _
    at.sound_reader (or_from _ _ at.sound_out (or_from _ _ at.sound_pack at.sound_progress)) c.flush-2.ensures.failed c.flush-2.ensures.fault

pub returns-in_err-flush-clause-handed_back : goal.returns-in_err-flush-clause-handed_back
returns-in_err-flush-clause-handed_back g c = back_at c.from_residual.result _ _ c.from_residual.ensures.1 (back_unwritten _ _ c.in_err-flush.ensures.fault)

pub returns-in_err-receive_response-clause-handed_back : goal.returns-in_err-receive_response-clause-handed_back
returns-in_err-receive_response-clause-handed_back g c =
    back_at c.from_residual-in_err-receive_response.result _ _ c.from_residual-in_err-receive_response.ensures.1
    (back_from_receiving c.in_err-receive_response.field-0.0 _ c.args.client.now c.receive_response.new.client _ _ _ _ _ _
    c.in_err-receive_response.ensures.arrived)

pub returns-in_err-ask_next-clause-handed_back : goal.returns-in_err-ask_next-clause-handed_back
returns-in_err-ask_next-clause-handed_back g c =
    back_at c.from_residual-in_err-ask_next.result _ _ c.from_residual-in_err-ask_next.ensures.1
    (back_from_asking c.in_err-ask_next.field-0.0 c.loop-request.client c.ask_next.new.client _ _ _ c.loop-request.invariant.ready
    c.in_err-ask_next.ensures.asked)

pub returns-in_err-receive_response-2-clause-handed_back : goal.returns-in_err-receive_response-2-clause-handed_back
returns-in_err-receive_response-2-clause-handed_back g c =
    back_at c.from_residual-in_err-receive_response-2.result _ _ c.from_residual-in_err-receive_response-2.ensures.1
    (back_from_receiving c.in_err-receive_response-2.field-0.0 _ c.ask_next.new.client c.receive_response-in-loop-request.new.client _ _ _ _ _ _
    c.in_err-receive_response-2.ensures.arrived)

pub returns-in_err-send_all-clause-handed_back : goal.returns-in_err-send_all-clause-handed_back
returns-in_err-send_all-clause-handed_back g c =
    back_at c.from_residual-in_err-send_all.result _ _ c.from_residual-in_err-send_all.ensures.1 (back_unwritten _ _ c.in_err-send_all.ensures.fault)

pub returns-clause-handed_back : goal.returns-clause-handed_back
returns-clause-handed_back g c = back_written c.flush-2.result _ c.flush-2.ensures.fault
