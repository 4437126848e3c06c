use Rattle.std.proofs.Common.{rules, arith, refl, sym}
use Rattle.std.proofs.lemmas.Bool.{or_from}
use Rattle.git_loop.specs.OneStreams.{reader_of, waiting_in}
use Rattle.git_pkt.specs.Machine.Recorded.{inner_of}
use Rattle.git_client.specs.Machine.ReceiverStates.{passes_none}
use Rattle.git_client.proofs.ReceiverRuns.{answers_at, answers_refused, answers_whole, fails_at, fails_so, never_ended, shown_at}
use Rattle.git_client.proofs.receiving.run_receiver.Goals as goal

pub run_streams-requires-clause-sound_outputs : goal.run_streams-requires-clause-sound_outputs
run_streams-requires-clause-sound_outputs g c = or_from _ _ c.requires.sound_out (or_from _ _ c.requires.sound_pack c.requires.sound_progress)

pub run_streams-requires-clause-holds : goal.run_streams-requires-clause-holds
run_streams-requires-clause-holds g c = passes_none c.args.receiver.now c.requires.waits

pub returns-in_err-run_streams-clause-useful : goal.returns-in_err-run_streams-clause-useful
returns-in_err-run_streams-clause-useful g c =
    (c.run_streams.ensures.ran.went.used 0).useful

pub returns-in_err-run_streams-clause-arrived : goal.returns-in_err-run_streams-clause-arrived
returns-in_err-run_streams-clause-arrived g c =
    answers_at g.R.Read.remaining c.args.receiver.now c.run_streams.new.machine (reader_of c.args.input.now) (reader_of c.run_streams.new.inputs)
    (waiting_in c.args.input.now) (waiting_in c.run_streams.new.inputs) (g.O.Write.contents (inner_of c.args.writers.now.out.now))
    (g.O.Write.contents (inner_of c.run_streams.new.outputs.out.now)) (g.P.Output.contents c.args.writers.now.pack.now)
    (g.P.Output.contents c.run_streams.new.outputs.pack.now) (g.E.Output.contents c.args.writers.now.progress.now)
    (g.E.Output.contents c.run_streams.new.outputs.progress.now) _ _ c.requires.begun c.requires.waits c.requires.open_ended
    c.from_residual.result _ c.from_residual.ensures.1 c.in_err-run_streams.ensures.ran

pub returns-in_err-run_streams-clause-fault : goal.returns-in_err-run_streams-clause-fault
returns-in_err-run_streams-clause-fault g c =
    shown_at g.R.Read.remaining c.args.receiver.now c.run_streams.new.machine (reader_of c.args.input.now) (reader_of c.run_streams.new.inputs)
    (waiting_in c.args.input.now) (waiting_in c.run_streams.new.inputs) (g.O.Write.contents (inner_of c.args.writers.now.out.now))
    (g.O.Write.contents (inner_of c.run_streams.new.outputs.out.now)) (g.P.Output.contents c.args.writers.now.pack.now)
    (g.P.Output.contents c.run_streams.new.outputs.pack.now) (g.E.Output.contents c.args.writers.now.progress.now)
    (g.E.Output.contents c.run_streams.new.outputs.progress.now) _ _ c.requires.begun c.requires.waits c.requires.open_ended
    c.from_residual.result _ c.from_residual.ensures.1 c.in_err-run_streams.ensures.ran c.args.turns
    (λ all. omega (arith, all, c.reads.ensures, c.requires.turns))
    (omega (arith, c.in_err-run_streams.ensures.reads, c.reads.ensures, c.requires.turns))

pub returns-in_err-run_streams-clause-announced : goal.returns-in_err-run_streams-clause-announced
returns-in_err-run_streams-clause-announced g c =
    fails_at g.R.Read.remaining c.args.receiver.now c.run_streams.new.machine (reader_of c.args.input.now) (reader_of c.run_streams.new.inputs)
    (waiting_in c.args.input.now) (waiting_in c.run_streams.new.inputs) (g.O.Write.contents (inner_of c.args.writers.now.out.now))
    (g.O.Write.contents (inner_of c.run_streams.new.outputs.out.now)) (g.P.Output.contents c.args.writers.now.pack.now)
    (g.P.Output.contents c.run_streams.new.outputs.pack.now) (g.E.Output.contents c.args.writers.now.progress.now)
    (g.E.Output.contents c.run_streams.new.outputs.progress.now) _ _ c.requires.begun c.requires.waits c.requires.open_ended
    c.from_residual.result _ c.from_residual.ensures.1 c.in_err-run_streams.ensures.ran

pub returns-in_err-run_streams-clause-same_client : goal.returns-in_err-run_streams-clause-same_client
returns-in_err-run_streams-clause-same_client g c =
    c.run_streams.ensures.ran.went.reaches.1

pub returns-in-Some-clause-useful : goal.returns-in-Some-clause-useful
returns-in-Some-clause-useful g c =
    (c.in_ok-run_streams.ensures.ran.went.used 0).useful

pub returns-in-Some-clause-arrived : goal.returns-in-Some-clause-arrived
returns-in-Some-clause-arrived g c =
    answers_refused g.R.Read.remaining c.args.receiver.now c.run_streams.new.machine (reader_of c.args.input.now) (reader_of c.run_streams.new.inputs)
    (waiting_in c.args.input.now) (waiting_in c.run_streams.new.inputs) (g.O.Write.contents (inner_of c.args.writers.now.out.now))
    (g.O.Write.contents (inner_of c.run_streams.new.outputs.out.now)) (g.P.Output.contents c.args.writers.now.pack.now)
    (g.P.Output.contents c.run_streams.new.outputs.pack.now) (g.E.Output.contents c.args.writers.now.progress.now)
    (g.E.Output.contents c.run_streams.new.outputs.progress.now) _ _ c.requires.begun c.requires.waits c.requires.open_ended
    c.in_ok-run_streams.ensures.ran _ (sym c.in-Some.ensures)

pub returns-in-Some-clause-announced : goal.returns-in-Some-clause-announced
returns-in-Some-clause-announced g c =
    fails_so g.R.Read.remaining c.args.receiver.now c.run_streams.new.machine (reader_of c.args.input.now) (reader_of c.run_streams.new.inputs)
    (waiting_in c.args.input.now) (waiting_in c.run_streams.new.inputs) (g.O.Write.contents (inner_of c.args.writers.now.out.now))
    (g.O.Write.contents (inner_of c.run_streams.new.outputs.out.now)) (g.P.Output.contents c.args.writers.now.pack.now)
    (g.P.Output.contents c.run_streams.new.outputs.pack.now) (g.E.Output.contents c.args.writers.now.progress.now)
    (g.E.Output.contents c.run_streams.new.outputs.progress.now) _ _ c.requires.begun c.requires.waits c.requires.open_ended
    _ c.in_ok-run_streams.ensures.ran

pub returns-in-Some-clause-same_client : goal.returns-in-Some-clause-same_client
returns-in-Some-clause-same_client g c =
    c.in_ok-run_streams.ensures.ran.went.reaches.1

pub returns-in-None-clause-useful : goal.returns-in-None-clause-useful
returns-in-None-clause-useful g c =
    (c.in_ok-run_streams.ensures.ran.went.used 0).useful

pub returns-in-None-clause-arrived : goal.returns-in-None-clause-arrived
returns-in-None-clause-arrived g c =
    answers_whole g.R.Read.remaining c.args.receiver.now c.run_streams.new.machine (reader_of c.args.input.now) (reader_of c.run_streams.new.inputs)
    (waiting_in c.args.input.now) (waiting_in c.run_streams.new.inputs) (g.O.Write.contents (inner_of c.args.writers.now.out.now))
    (g.O.Write.contents (inner_of c.run_streams.new.outputs.out.now)) (g.P.Output.contents c.args.writers.now.pack.now)
    (g.P.Output.contents c.run_streams.new.outputs.pack.now) (g.E.Output.contents c.args.writers.now.progress.now)
    (g.E.Output.contents c.run_streams.new.outputs.progress.now) _ _ c.requires.begun c.requires.waits c.requires.open_ended
    c.in_ok-run_streams.ensures.ran (sym c.in-None.ensures)

pub returns-in-None-clause-goes_on : goal.returns-in-None-clause-goes_on
returns-in-None-clause-goes_on g c =
    never_ended g.R.Read.remaining c.args.receiver.now c.run_streams.new.machine (reader_of c.args.input.now) (reader_of c.run_streams.new.inputs)
    (waiting_in c.args.input.now) (waiting_in c.run_streams.new.inputs) (g.O.Write.contents (inner_of c.args.writers.now.out.now))
    (g.O.Write.contents (inner_of c.run_streams.new.outputs.out.now)) (g.P.Output.contents c.args.writers.now.pack.now)
    (g.P.Output.contents c.run_streams.new.outputs.pack.now) (g.E.Output.contents c.args.writers.now.progress.now)
    (g.E.Output.contents c.run_streams.new.outputs.progress.now) _ _ c.requires.begun c.requires.waits c.requires.open_ended
    _ c.in_ok-run_streams.ensures.ran (sym c.in-None.ensures)

pub returns-in-None-clause-announced : goal.returns-in-None-clause-announced
returns-in-None-clause-announced g c =
    fails_so g.R.Read.remaining c.args.receiver.now c.run_streams.new.machine (reader_of c.args.input.now) (reader_of c.run_streams.new.inputs)
    (waiting_in c.args.input.now) (waiting_in c.run_streams.new.inputs) (g.O.Write.contents (inner_of c.args.writers.now.out.now))
    (g.O.Write.contents (inner_of c.run_streams.new.outputs.out.now)) (g.P.Output.contents c.args.writers.now.pack.now)
    (g.P.Output.contents c.run_streams.new.outputs.pack.now) (g.E.Output.contents c.args.writers.now.progress.now)
    (g.E.Output.contents c.run_streams.new.outputs.progress.now) _ _ c.requires.begun c.requires.waits c.requires.open_ended
    _ c.in_ok-run_streams.ensures.ran

pub returns-in-None-clause-same_client : goal.returns-in-None-clause-same_client
returns-in-None-clause-same_client g c =
    c.in_ok-run_streams.ensures.ran.went.reaches.1
