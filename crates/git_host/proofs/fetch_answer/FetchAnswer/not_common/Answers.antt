use Rattle.std.proofs.Common.{false, refl, subst}
use Rattle.git_host.specs.FetchPlaces.{StandsAt, with_have}
use Rattle.git_host.specs.declared.fetch_answer.Place.{Place}
use Rattle.git_host.proofs.FetchMoves.{after_not_common, have_place, sound_so}
use Rattle.git_host.proofs.fetch_answer.FetchAnswer.not_common.Goals as goal

pub returns-clause-reported : goal.returns-clause-reported
returns-clause-reported g c t given h =
    let q = c.args.self.now.request.asked in
    let at = subst (λ (p : Place). StandsAt p q t given) c.in-Have.is h.stands in (
      record { request = refl; format = refl; wanted = refl },
      record {
        wanted = h.wanted;
        all = h.all;
        sound = sound_so _ q t (with_have false t) refl refl h.sound;
        stands = have_place c.after_have-self.result _ _ q _ _ c.after_have-self.ensures.more c.after_have-self.ensures.over
            (after_not_common c.in-Have.next c.in-Have.any q t given at);
      },
    )
