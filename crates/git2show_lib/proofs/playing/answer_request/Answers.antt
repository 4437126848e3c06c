use Rattle.std.proofs.Common.{Bool, ◌||◌, ◌≡◌, inr, false, refl, sym, ap, ◌∙◌}
use Rattle.std.proofs.lemmas.Result.{err_from_is_err_and}
use Rattle.std.proofs.Math.Bool.{or-false}
use Rattle.git_pkt.specs.Machine.Recorded.{has_failed}
use Rattle.git_client.proofs.ClientRuns.{fails_at, shown_at}
use Rattle.git2show_lib.proofs.PlayServers.{answers}
use Rattle.git2show_lib.proofs.playing.answer_request.Goals as goal

-- a stream that has not failed changes nothing
sound_pack : (a b : Bool) → b ≡ false → a ≡ (a || b)
sound_pack a b sound = sym (or-false a) ∙ ap (λ (x : Bool). a || x) (sym sound)

pub returns-in_err-ask_server-clause-answered : goal.returns-in_err-ask_server-clause-answered
returns-in_err-ask_server-clause-answered g c =
    let met = err_from_is_err_and c.from_residual.result c.from_residual.ensures.1 in rw (met.1, met.2) (inr (c.in_err-ask_server.ensures.asked, refl))

pub returns-in_err-ask_server-clause-fault : goal.returns-in_err-ask_server-clause-fault
returns-in_err-ask_server-clause-fault g c =
    shown_at c.from_residual.result c.in_err-ask_server.field-0.0 _ _ (has_failed c.ask_server.new.out) _ c.from_residual.ensures.1 (λ none. none)
    (λ none. none) (sound_pack (has_failed c.ask_server.new.out) (g.P.Output.failed c.args.pack.now) c.requires.sound_pack)
    c.in_err-ask_server.ensures.fault

pub returns-in_err-ask_server-clause-announced : goal.returns-in_err-ask_server-clause-announced
returns-in_err-ask_server-clause-announced g c =
    fails_at c.from_residual.result c.in_err-ask_server.field-0.0 false _ (has_failed c.ask_server.new.out) _ c.from_residual.ensures.1 refl
    (sound_pack (has_failed c.ask_server.new.out) (g.P.Output.failed c.args.pack.now) c.requires.sound_pack) c.in_err-ask_server.ensures.announced

pub returns-clause-answered : goal.returns-clause-answered
returns-clause-answered g c =
    answers g.R.Repo.state c.receive_message.result c.args.end.now c.args.client.now c.ask_server.new.client c.receive_message.new.client c.args.request
    c.args.server.now c.ask_server.new.server c.receive_message.new.server _ _ _ _ c.in_ok-ask_server.ensures.asked c.receive_message.ensures.arrived
