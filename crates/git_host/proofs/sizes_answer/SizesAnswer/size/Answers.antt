use Rattle.std.proofs.Common.{List, length, ◌<◌, slice_get, ap, refl, subst, ◌∙◌}
use Rattle.git_names.specs.ObjectName.{ObjectName}
use Rattle.git_host.specs.SizesPlaces.{StandsAtSizes, size_line}
use Rattle.git_host.specs.declared.sizes_answer.SizesPlace.{SizesPlace}
use Rattle.git_host.proofs.SizesMoves.{after_size, size_there}
use Rattle.git_host.proofs.sizes_answer.SizesAnswer.size.Goals as goal

pub returns-then-at-oids : goal.returns-then-at-oids
returns-then-at-oids g c =
    let q = c.args.self.now.request.asked in
    let at = c.in-Object.at in
    let within = subst (λ (l : List ObjectName). at < length l) c.oids-oids.ensures c.if-at-oids.true in (
      (at, (c.in-Object.is, within)),
      record {
        same = refl;
        gives =
            λ sizes given h.
            let stands = subst (λ (p : SizesPlace). StandsAtSizes p q sizes given) c.in-Object.is h in
            let (id, here) = size_there q at within in (
              size_line c.args.size id,
              c.put_size.ensures id (ap (λ (l : List ObjectName). slice_get l at) c.oids-oids.ensures ∙ here),
              after_size at q sizes given c.args.size id stands within here,
            );
      },
    )
