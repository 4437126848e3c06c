use Rattle.std.proofs.Common.{arith, false, ◌∙◌, refl, subst, sym}
use Rattle.git_pkt.specs.Packets.{flush}
use Rattle.git_host.specs.FetchPlaces.{StandsAt, with_ready}
use Rattle.git_host.specs.declared.fetch_answer.Place.{Place}
use Rattle.git_host.proofs.FetchMoves.{after_unready, asks_ready_at, sound_so}
use Rattle.git_host.proofs.fetch_answer.FetchAnswer.not_ready.Goals as goal

pub returns-clause-reported : goal.returns-clause-reported
returns-clause-reported g c t given h =
    let q = c.args.self.now.request.asked in
    let (was, other) = asks_ready_at q c.args.self.now.place (sym c.asks_ready.ensures ∙ c.if-not-asks_ready.false) in
    let at = subst (λ (p : Place). StandsAt p q t given) was h.stands in
    record {
      packet = flush;
      held = record { spelled = c.put.ensures; fits = omega arith };
      same = record { request = refl; format = refl; wanted = refl };
      holds = record {
        wanted = h.wanted;
        all = h.all;
        sound = sound_so _ q t (with_ready false t) refl refl h.sound;
        stands = after_unready q t given at;
      };
    }
