use Rattle.std.proofs.Common.{refl, subst, true}
use Rattle.git_server.specs.FetchAnswers.{ack_packet}
use Rattle.git_host.specs.FetchPlaces.{StandsAt, with_have}
use Rattle.git_host.specs.declared.fetch_answer.Place.{Place}
use Rattle.git_host.proofs.FetchMoves.{after_common, have_place, have_there, sound_so}
use Rattle.git_host.proofs.fetch_answer.FetchAnswer.common.Goals as goal

pub returns-clause-reported : goal.returns-clause-reported
returns-clause-reported g c t given h =
    let q = c.args.self.now.request.asked in
    let next = c.in-Have.next in
    let any = c.in-Have.field-1 in
    let at = subst (λ (p : Place). StandsAt p q t given) c.in-Have.is h.stands in
    let (id, here) = have_there next any q t given at in
    record {
      packet = ack_packet id;
      held = c.put_common.ensures id here;
      same = record { request = refl; format = refl; wanted = refl };
      holds = record {
        wanted = h.wanted;
        all = h.all;
        sound = sound_so _ q t (with_have true t) refl refl h.sound;
        stands = have_place c.after_have-self.result _ _ q _ _ c.after_have-self.ensures.more c.after_have-self.ensures.over
            (after_common next any q t given id at here);
      };
    }
