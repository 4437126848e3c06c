use Rattle.std.proofs.Common.{arith, refl, subst}
use Rattle.git_server.specs.Packs.{broken, pack_source_packet}
use Rattle.git_host.specs.FetchPlaces.{StandsAt}
use Rattle.git_host.specs.declared.fetch_answer.Place.{Place}
use Rattle.git_host.proofs.FetchMoves.{after_pack}
use Rattle.git_host.proofs.fetch_answer.FetchAnswer.pack_failed.Goals as goal

pub returns-clause-reported : goal.returns-clause-reported
returns-clause-reported g c t given h =
    let q = c.args.self.now.request.asked in
    let at = subst (λ (p : Place). StandsAt p q t given) c.in-Pack.is h.stands in
    record {
      packet = pack_source_packet;
      held = record { spelled = c.put_band.ensures; fits = omega arith };
      same = record { request = refl; format = refl; wanted = refl };
      holds = record { wanted = h.wanted; all = h.all; sound = h.sound; stands = after_pack broken q t given h.all at };
    }
