use Rattle.std.proofs.Common.{rules, refl, sym}
use Rattle.std.proofs.lemmas.Bool.{or_parts}
use Rattle.git_client.specs.Parts.{terms_of}
use Rattle.git_client.specs.declared.events.Ending.TheVariants.{ResponseEnd}
use Rattle.git_client.proofs.AskedInTurn.{next_is, none_more, one_more}
use Rattle.git2show_lib.proofs.PlayMany.{advertised_many, answered_many, many_end, many_stopped, next_server}
use Rattle.git2show_lib.proofs.PlayRuns.{advertising_stopped}
use Rattle.git2show_lib.proofs.playing.play_each.Goals as goal

pub returns-in-Err-clause-played : goal.returns-in-Err-clause-played
returns-in-Err-clause-played g c =
    rw (c.into_repo.ensures)
    (advertising_stopped _ _ _ _ c.new-client.ensures.waits (rw c.format.ensures at c.new-client.ensures.converses)
    c.new_server-server.ensures.begins c.in-Err.ensures.arrived)

pub loop-request-init : goal.loop-request-init
loop-request-init g c = record {
  plays = advertised_many c.new-client.ensures.waits (rw c.format.ensures at c.new-client.ensures.converses)
      c.new_server-server.ensures.begins c.in_default.ensures.arrived;
  left_to_ask = sym c.into_iter-request-iterator.ensures.into_iter_gives.0;
  counted = search rules;
  cut = c.requires.cut;
  sound_out = (or_parts _ _ c.in_default.ensures.announced.1).0;
  sound_pack = (or_parts _ _ c.in_default.ensures.announced.1).1;
}

pub returns-in-Err-answer_request-clause-played : goal.returns-in-Err-answer_request-clause-played
returns-in-Err-answer_request-clause-played g c =
    let at = c.loop-request in
    rw (c.into_repo-in-Err-answer_request.ensures)
    (many_stopped at.invariant.plays refl c.in-Some.request
    (next_server g.R.Repo.state (terms_of _ ResponseEnd) _ _ at.server _ refl at.invariant.plays.stands c.into_repo-in-loop-request.ensures
    c.new_server-server-in-loop-request.ensures.begins) _ _ _
    (next_is _ at.yielded _ _ c.in-Some.request at.invariant.left_to_ask c.in-Some.ensures.steps.0) c.in-Err-answer_request.ensures.answered)

pub loop-request-preserved : goal.loop-request-preserved
loop-request-preserved g c =
    let at = c.loop-request in
    record {
      plays = answered_many at.invariant.plays refl c.in-Some.request
          (next_server g.R.Repo.state (terms_of _ ResponseEnd) _ _ at.server _ refl at.invariant.plays.stands c.into_repo-in-loop-request.ensures
          c.new_server-server-in-loop-request.ensures.begins) c.in_default-answer_request.ensures.answered;
      left_to_ask = one_more _ at.yielded _ _ c.in-Some.request at.invariant.left_to_ask c.in-Some.ensures.steps.0;
      counted = search rules;
      cut = at.invariant.cut;
      sound_out = (or_parts _ _ c.in_default-answer_request.ensures.announced.1).0;
      sound_pack = (or_parts _ _ c.in_default-answer_request.ensures.announced.1).1;
    }

pub returns-clause-played : goal.returns-clause-played
returns-clause-played g c =
    let at = c.loop-request in
    rw (c.into_repo-2.ensures) (many_end at.invariant.plays refl (none_more _ at.yielded _ at.invariant.left_to_ask (search rules)))
