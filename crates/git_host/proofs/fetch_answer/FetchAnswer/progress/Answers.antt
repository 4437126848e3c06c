use Rattle.std.proofs.Common.{◌++◌, ◌∷◌, [], ◌∙◌, refl, subst, sym}
use Rattle.git_pkt.specs.Bands.{band_packet}
use Rattle.git_pkt.specs.declared.band.Band.TheVariants.{Progress as Band}
use Rattle.git_host.specs.FetchPlaces.{StandsAt, with_progress}
use Rattle.git_host.specs.declared.fetch_answer.Place.{Place}
use Rattle.git_host.proofs.FetchMoves.{after_progress, band_held, progress_sound}
use Rattle.git_host.proofs.fetch_answer.FetchAnswer.progress.Goals as goal

pub returns-clause-reported : goal.returns-clause-reported
returns-clause-reported g c t given h =
    let q = c.args.self.now.request.asked in
    let bytes = c.args.bytes.now in
    let at = subst (λ (p : Place). StandsAt p q t given) c.in-Pack.is h.stands in
    record {
      packet = band_packet Band bytes;
      held = band_held _ bytes Band c.put_on_band.ensures c.requires.fits;
      same = record { request = refl; format = refl; wanted = refl };
      holds = record {
        wanted = h.wanted;
        all = h.all;
        sound = progress_sound c.args.self.now.format q t bytes (sym c.drops_progress.ensures ∙ c.if-drops_progress.false) h.sound;
        stands = subst (λ (p : Place). StandsAt p q (with_progress bytes t) (given ++ band_packet Band bytes ∷ [])) (sym c.in-Pack.is)
            (after_progress q t given bytes c.requires.some c.requires.fits at);
      };
    }
