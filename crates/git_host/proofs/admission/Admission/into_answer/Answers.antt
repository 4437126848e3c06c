use Rattle.std.proofs.Common.{subst}
use Rattle.git_host.specs.Admissions.{AdmissionFacts, IsAdmitted, RepresentsAdmission, StandsAtStep}
use Rattle.git_host.specs.declared.admission.AdmissionStep.{AdmissionStep}
use Rattle.git_host.proofs.admission.Admission.into_answer.Goals as goal

pub returns-in-Admitted : goal.returns-in-Admitted
returns-in-Admitted g c =
    let old = c.args.self in
    let admitted : (a : AdmissionFacts) → RepresentsAdmission a old → IsAdmitted old.format old.request.asked a old.wanted.items =
    λ a h. subst (λ (s : AdmissionStep). StandsAtStep s old.format old.request.asked a old.wanted.items) c.in-Admitted.is h in (
      c.in-Admitted.is,
      record {
        request = c.begin.ensures.request;
        format = c.begin.ensures.format;
        admitted = admitted;
        represents = λ a h. c.begin.ensures.represents (admitted a h).all;
      },
    )
