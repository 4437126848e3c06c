use Rattle.std.proofs.Common.{codes, refl, subst}
use Rattle.git_msg.specs.WrittenRequest.{text_line}
use Rattle.git_host.specs.SizesPlaces.{StandsAtSizes}
use Rattle.git_host.specs.declared.sizes_answer.SizesPlace.{SizesPlace}
use Rattle.git_host.proofs.FetchMoves.{line_held}
use Rattle.git_host.proofs.SizesMoves.{after_size_header}
use Rattle.git_host.proofs.sizes_answer.SizesAnswer.next.Goals as goal

pub returns-in-Header-clause-steps : goal.returns-in-Header-clause-steps
returns-in-Header-clause-steps g c = record {
  same = refl;
  gives =
      λ sizes given h.
      let q = c.args.self.now.request.asked in
      let at = subst (λ (p : SizesPlace). StandsAtSizes p q sizes given) c.in-Header.is h in
      (text_line (codes "size"), line_held _ (codes "size") c.put_line.ensures.written c.put_line.ensures.fits, after_size_header q sizes given at.0 at.1);
}
