use Rattle.std.proofs.Common.{refl, sym, ◌∙◌}
use Rattle.git_host.specs.declared.admission.AdmissionStep.TheVariants.{Admitted, Refused}
use Rattle.git_host.specs.declared.host_answer.HostAnswer.TheVariants.{Admission}
use Rattle.git_host.proofs.HostAnswerMoves.{through_waits, unbroken, want_ref_waits, want_waits}
use Rattle.git_host.proofs.host_answer.HostAnswer.next.Goals as goal

pub returns-in-AskWant-clause-broken : goal.returns-in-AskWant-clause-broken
returns-in-AskWant-clause-broken g c = λ is. absurd (unbroken c.args.self.now (Admission c.in-Admission.admission) c.in-Admission.is refl is)

pub returns-in-AskWantRef-clause-broken : goal.returns-in-AskWantRef-clause-broken
returns-in-AskWantRef-clause-broken g c = λ is. absurd (unbroken c.args.self.now (Admission c.in-Admission.admission) c.in-Admission.is refl is)

pub returns-in-Refused-clause-broken : goal.returns-in-Refused-clause-broken
returns-in-Refused-clause-broken g c = λ is. absurd (unbroken c.args.self.now (Admission c.in-Admission.admission) c.in-Admission.is refl is)

pub returns-in-Admitted-clause-broken : goal.returns-in-Admitted-clause-broken
returns-in-Admitted-clause-broken g c = λ is. absurd (unbroken c.args.self.now (Admission c.in-Admission.admission) c.in-Admission.is refl is)

pub returns-in-AskWant-clause-waits : goal.returns-in-AskWant-clause-waits
returns-in-AskWant-clause-waits g c = want_waits c.in-Admission.admission c.args.self.now c.in-AskWant.at c.in-Admission.is
    (sym c.step.ensures ∙ c.in-AskWant.is)

pub returns-in-AskWantRef-clause-waits : goal.returns-in-AskWantRef-clause-waits
returns-in-AskWantRef-clause-waits g c = want_ref_waits c.in-Admission.admission c.args.self.now c.in-AskWantRef.at c.in-Admission.is
    (sym c.step.ensures ∙ c.in-AskWantRef.is)

pub returns-in-Refused-clause-waits : goal.returns-in-Refused-clause-waits
returns-in-Refused-clause-waits g c = through_waits c.in-Admission.admission c.args.self.now _ (Refused c.in-Refused.kind) _ c.in-Admission.is
    (sym c.step.ensures ∙ c.in-Refused.is) refl

pub returns-in-Admitted-clause-waits : goal.returns-in-Admitted-clause-waits
returns-in-Admitted-clause-waits g c = through_waits c.in-Admission.admission c.args.self.now _ Admitted _ c.in-Admission.is
    (sym c.step.ensures ∙ c.in-Admitted.is) refl
