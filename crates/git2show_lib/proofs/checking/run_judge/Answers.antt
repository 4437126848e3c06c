use Rattle.std.proofs.Common.{rules, ◌≡◌, inl, inr, true, ap, ◌∙◌}
use Rattle.git_loop.specs.Streams.{InputState}
use Rattle.git_loop.specs.TwoStreams.{first_reader_of, first_waiting, second_reader_of, second_waiting}
use Rattle.git_loop.specs.OneStreams.{writer_of}
use Rattle.git_loop.proofs.TwoStreams.{ran_two, two_fail, two_shown}
use Rattle.git_loop.proofs.Unread.{has_or_unread}
use Rattle.git2show_lib.specs.Machine.Checker.{is_opened}
use Rattle.git2show_lib.specs.Machine.JudgingStates.{judging_states}
use Rattle.git2show_lib.proofs.CheckRun.{needs_one_of_two, opened_where_read}
use Rattle.git2show_lib.proofs.checking.run_judge.Goals as goal

pub returns-clause-useful : goal.returns-clause-useful
returns-clause-useful g c = (c.run_streams.ensures.ran.went.used 0).useful ∙ c.requires.new_requests.useful

pub returns-clause-useful_responses : goal.returns-clause-useful_responses
returns-clause-useful_responses g c = (c.run_streams.ensures.ran.went.used 1).useful ∙ c.requires.new_responses.useful

pub returns-clause-ran : goal.returns-clause-ran
returns-clause-ran g c =
    ran_two (λ k needs. needs_one_of_two _ k needs) g.Q.Read.remaining g.R.Read.remaining g.O.Write.contents
    (first_reader_of c.args.inputs.now) (first_reader_of c.run_streams.new.inputs)
    (second_reader_of c.args.inputs.now) (second_reader_of c.run_streams.new.inputs)
    _ (first_waiting c.run_streams.new.inputs) _ (second_waiting c.run_streams.new.inputs)
    (writer_of c.args.output.now) (writer_of c.run_streams.new.outputs)
    c.requires.new_requests c.requires.new_responses c.requires.nothing_waits.0 c.requires.nothing_waits.1 _ c.run_streams.ensures.ran

pub returns-clause-opened : goal.returns-clause-opened
returns-clause-opened g c =
    elim (has_or_unread judging_states _ (λ j. Unit {0}) (λ j. is_opened j.checker ≡ true) 0 (λ old new t reaches s. tt)
    (λ old new t reaches s opened. reaches.stays_opened opened) (λ j s needs. opened_where_read j needs) c.run_streams.ensures.needed tt
    c.requires.nothing_waits.0) [
      | inl opened ↦ inl opened
      | inr same ↦ inr (ap (λ (i : InputState). i.window) same ∙ c.requires.nothing_waits.0)
    ]

pub returns-clause-fault : goal.returns-clause-fault
returns-clause-fault g c =
    two_shown (λ k needs. needs_one_of_two _ k needs) c.args.turns (search rules) (λ all. all) c.requires.new_requests.unread
    c.requires.new_responses.unread _ c.run_streams.ensures.ran (search rules)

pub returns-clause-announced : goal.returns-clause-announced
returns-clause-announced g c = two_fail _ c.run_streams.ensures.ran
