use Rattle.std.proofs.Common.{refl}
use Rattle.git_loop.specs.OneStreams.{reader_of, waiting_in}
use Rattle.git_loop.specs.Streams.{recorded_input}
use Rattle.git_server.proofs.OneRequestTaken.{takes_failing, takes_on, takes_one, takes_shown, takes_whole}
use Rattle.git_server.proofs.one_request.run_request.Goals as goal

pub returns-clause-useful : goal.returns-clause-useful
returns-clause-useful g c = (c.run_streams.ensures.ran.went.used 0).useful

pub returns-clause-takes : goal.returns-clause-takes
returns-clause-takes g c =
    let went = c.run_streams.ensures.ran.went in
    takes_one g.R.Repo.state _ _ went.trace c.requires.open_ended went.reaches.0 (went.used 0) (went.ended 0)

pub returns-clause-expected : goal.returns-clause-expected
returns-clause-expected g c =
    takes_whole _ (recorded_input g.In.Read.remaining (reader_of c.run_streams.new.inputs) (waiting_in c.run_streams.new.inputs)) _ _
    c.run_streams.ensures.ran.ends

pub returns-clause-goes_on : goal.returns-clause-goes_on
returns-clause-goes_on g c =
    takes_on _ (recorded_input g.In.Read.remaining (reader_of c.run_streams.new.inputs) (waiting_in c.run_streams.new.inputs)) _ _
    c.run_streams.ensures.ran.ends c.run_streams.ensures.ran.failed

pub returns-clause-fault : goal.returns-clause-fault
returns-clause-fault g c =
    takes_shown _ (recorded_input g.In.Read.remaining (reader_of c.run_streams.new.inputs) (waiting_in c.run_streams.new.inputs)) _ _
    (λ all still. record { reads = all; open_ended = still }) _ c.run_streams.ensures.ran.ends c.run_streams.ensures.ran.failed

pub returns-clause-announced : goal.returns-clause-announced
returns-clause-announced g c =
    takes_failing _ (recorded_input g.In.Read.remaining (reader_of c.run_streams.new.inputs) (waiting_in c.run_streams.new.inputs)) _ _
    c.run_streams.ensures.ran.ends c.run_streams.ensures.ran.failed

pub returns-clause-same_server : goal.returns-clause-same_server
returns-clause-same_server g c = c.run_streams.ensures.ran.went.reaches.1

pub returns-clause-closed : goal.returns-clause-closed
returns-clause-closed g c = c.run_streams.ensures.ends_known 0 refl
