use Rattle.std.proofs.Common.{rules, refl, ap, subst}
use Rattle.git_host.specs.Admissions.{StandsAtStep, is_want_ref}
use Rattle.git_host.specs.declared.admission.AdmissionStep.{AdmissionStep}
use Rattle.git_host.proofs.AdmissionMoves.{after_found, other_step}
use Rattle.git_host.proofs.admission.Admission.want_ref.Goals as goal

pub returns-in_default-clause-reports : goal.returns-in_default-clause-reports
returns-in_default-clause-reports g c = (other_step c.args.self.now.step c.in_default.not-AskWantRef, refl)

pub returns-clause-reports : goal.returns-clause-reports
returns-clause-reports g c =
    let old = c.args.self.now in
    let q = old.request.asked in
    let ids = old.wanted.items in (
      ap is_want_ref c.in-AskWantRef.is,
      record {
        request = refl;
        format = refl;
        represents = λ a h.
            let at = subst (λ (s : AdmissionStep). StandsAtStep s old.format q a ids) c.in-AskWantRef.is h in
            after_found c.after_want_ref-self.result c.in-AskWantRef.at old.format q a ids c.push_reserved.new.self.items c.in-Some.id c.args.id
            c.after_want_ref-self.ensures (search rules) c.in-Some.is (search rules) at;
      },
    )
