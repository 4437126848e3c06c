use Rattle.std.proofs.Common.{refl, ap, subst}
use Rattle.git_host.specs.Admissions.{StandsAtStep, is_want}
use Rattle.git_host.specs.declared.admission.AdmissionStep.{AdmissionStep}
use Rattle.git_host.proofs.AdmissionMoves.{after_there, after_want}
use Rattle.git_host.proofs.admission.Admission.want.Goals as goal

pub returns : goal.returns
returns g c =
    let old = c.args.self.now in
    let q = old.request.asked in
    let ids = old.wanted.items in (
      ap is_want c.in-AskWant.is,
      record {
        request = refl;
        format = refl;
        represents = λ a h.
            let at = subst (λ (s : AdmissionStep). StandsAtStep s old.format q a ids) c.in-AskWant.is h in
            after_there c.after_want-self.result c.in-AskWant.at old.format q a ids c.args.has c.after_want-self.ensures c.if-not-has.false at;
      },
    )

pub returns-then-not-has : goal.returns-then-not-has
returns-then-not-has g c =
    let old = c.args.self.now in
    let q = old.request.asked in
    let ids = old.wanted.items in (
      ap is_want c.in-AskWant.is,
      record {
        request = refl;
        format = refl;
        represents = λ a h.
            let at = subst (λ (s : AdmissionStep). StandsAtStep s old.format q a ids) c.in-AskWant.is h in
            after_want c.in-AskWant.at q a ids c.args.has c.if-not-has.true at;
      },
    )
