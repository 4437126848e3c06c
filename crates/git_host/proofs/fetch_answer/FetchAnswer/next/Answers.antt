use Rattle.std.proofs.Common.{codes, refl, subst}
use Rattle.git_msg.specs.WrittenRequest.{text_line}
use Rattle.git_host.specs.FetchPlaces.{StandsAt}
use Rattle.git_host.specs.declared.fetch_answer.Place.{Place}
use Rattle.git_host.proofs.FetchMoves.{after_header, after_nak, have_place, line_held}
use Rattle.git_host.proofs.fetch_answer.FetchAnswer.next.Goals as goal

pub returns-in-Header-clause-steps : goal.returns-in-Header-clause-steps
returns-in-Header-clause-steps g c t given h =
    let q = c.args.self.now.request.asked in
    let at = subst (λ (p : Place). StandsAt p q t given) c.in-Header.is h.stands in
    record {
      packet = text_line (codes "acknowledgments");
      held = line_held _ (codes "acknowledgments") c.put_line.ensures.written c.put_line.ensures.fits;
      same = record { request = refl; format = refl; wanted = refl };
      holds = record {
        wanted = h.wanted;
        all = h.all;
        sound = h.sound;
        stands = have_place c.first_have-self.result _ _ q _ _ c.first_have-self.ensures.more c.first_have-self.ensures.over
            (after_header q t given at);
      };
    }

pub returns-in-Nak-clause-steps : goal.returns-in-Nak-clause-steps
returns-in-Nak-clause-steps g c t given h =
    let q = c.args.self.now.request.asked in
    let at = subst (λ (p : Place). StandsAt p q t given) c.in-Nak.is h.stands in
    record {
      packet = text_line (codes "NAK");
      held = line_held _ (codes "NAK") c.put_line-in-Nak.ensures.written c.put_line-in-Nak.ensures.fits;
      same = record { request = refl; format = refl; wanted = refl };
      holds = record { wanted = h.wanted; all = h.all; sound = h.sound; stands = after_nak q t given at };
    }
