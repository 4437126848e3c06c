use Rattle.std.proofs.Common.{rules}
use Rattle.git_loop.specs.OneStreams.{waiting_in}
use Rattle.git_loop.proofs.OneStream.{ran_fails, ran_one, ran_shown, ran_to_the_end, ran_useful}
use Rattle.git_loop.proofs.running.run_one.Goals as goal

pub returns-clause-useful : goal.returns-clause-useful
returns-clause-useful g c =
    ran_useful _ _ (λ k needs. c.requires.one _ k needs) _ _ g.R.Read.remaining g.W.Write.contents c.args.input.now.reader.now
    c.run_streams.new.inputs.reader.now c.args.output.now.writer.now c.run_streams.new.outputs.writer.now _
    (waiting_in c.run_streams.new.inputs) c.requires.empty _
    c.run_streams.ensures.ran c.requires.new_reader

pub returns-clause-at_end : goal.returns-clause-at_end
returns-clause-at_end g c =
    ran_to_the_end g.R.Read.remaining c.run_streams.new.inputs.reader.now (waiting_in c.run_streams.new.inputs) c.run_streams.ensures.at_end

pub returns-clause-ran : goal.returns-clause-ran
returns-clause-ran g c =
    ran_one _ _ (λ k needs. c.requires.one _ k needs) _ _ g.R.Read.remaining g.W.Write.contents c.args.input.now.reader.now
    c.run_streams.new.inputs.reader.now c.args.output.now.writer.now c.run_streams.new.outputs.writer.now _
    (waiting_in c.run_streams.new.inputs) c.requires.empty
    c.args.turns (search rules) (λ all. all) c.requires.new_reader _ c.run_streams.ensures.ran

pub returns-clause-fault : goal.returns-clause-fault
returns-clause-fault g c =
    ran_shown _ _ (λ k needs. c.requires.one _ k needs) _ _ g.R.Read.remaining g.W.Write.contents c.args.input.now.reader.now
    c.run_streams.new.inputs.reader.now c.args.output.now.writer.now c.run_streams.new.outputs.writer.now _
    (waiting_in c.run_streams.new.inputs) c.requires.empty
    c.args.turns (search rules) (λ all. all) c.requires.new_reader _ c.run_streams.ensures.ran (search rules)

pub returns-clause-failed : goal.returns-clause-failed
returns-clause-failed g c =
    ran_fails _ _ (λ k needs. c.requires.one _ k needs) _ _ g.R.Read.remaining g.W.Write.contents c.args.input.now.reader.now
    c.run_streams.new.inputs.reader.now c.args.output.now.writer.now c.run_streams.new.outputs.writer.now _
    (waiting_in c.run_streams.new.inputs) c.requires.empty _
    c.run_streams.ensures.ran
