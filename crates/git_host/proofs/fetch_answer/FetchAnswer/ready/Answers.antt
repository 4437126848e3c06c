use Rattle.std.proofs.Common.{true, ◌∙◌, codes, refl, subst, sym}
use Rattle.git_msg.specs.WrittenRequest.{text_line}
use Rattle.git_host.specs.FetchPlaces.{StandsAt, with_ready}
use Rattle.git_host.specs.declared.fetch_answer.Place.{Place}
use Rattle.git_host.proofs.FetchMoves.{after_ready, asks_ready_at, line_held, sound_so}
use Rattle.git_host.proofs.fetch_answer.FetchAnswer.ready.Goals as goal

pub returns-clause-reported : goal.returns-clause-reported
returns-clause-reported g c t given h =
    let q = c.args.self.now.request.asked in
    let (was, other) = asks_ready_at q c.args.self.now.place (sym c.asks_ready.ensures ∙ c.if-not-asks_ready.false) in
    let at = subst (λ (p : Place). StandsAt p q t given) was h.stands in
    record {
      packet = text_line (codes "ready");
      held = line_held _ (codes "ready") c.put_line.ensures.written c.put_line.ensures.fits;
      same = record { request = refl; format = refl; wanted = refl };
      holds = record { wanted = h.wanted; all = h.all; sound = sound_so _ q t (with_ready true t) refl refl h.sound; stands = after_ready q t given at other };
    }
