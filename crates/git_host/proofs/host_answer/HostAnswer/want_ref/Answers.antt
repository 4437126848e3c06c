use Rattle.std.proofs.Common.{Ok, ◌+◌, ◌*◌, ap, subst, sym, ◌∙◌}
use Rattle.git_msg.specs.Memory.{HasRefused}
use Rattle.git_host.specs.HostMemory.{objects_for}
use Rattle.git_host.specs.declared.host_answer.HostAnswer.{HostAnswer}
use Rattle.git_host.proofs.HostAnswerMoves.{on_err, ref_lacks, ref_mixed, ref_taken, ref_unasked}
use Rattle.git_host.proofs.host_answer.HostAnswer.want_ref.Goals as goal

pub returns-in-Ok-Taken-clause-reports : goal.returns-in-Ok-Taken-clause-reports
returns-in-Ok-Taken-clause-reports g c =
    ref_taken c.in-Admission.admission c.want_ref.new.self c.args.self.now c.args.id c.args.hold.now.items c.want_ref.result
    c.in-Admission.is
    (c.in-Ok-Taken.is ∙ ap Ok c.in-Ok-Taken.field-0-is) c.want_ref.ensures.reports

pub returns-in-Ok-MixedFormats-clause-reports : goal.returns-in-Ok-MixedFormats-clause-reports
returns-in-Ok-MixedFormats-clause-reports g c =
    ref_mixed c.in-Admission.admission c.want_ref.new.self c.args.self.now c.args.id c.args.hold.now.items c.want_ref.result
    c.in-Admission.is
    (c.in-Ok-MixedFormats.is ∙ ap Ok c.in-Ok-MixedFormats.field-0-is) c.want_ref.ensures.reports

pub returns-in-Ok-NotAsked-clause-reports : goal.returns-in-Ok-NotAsked-clause-reports
returns-in-Ok-NotAsked-clause-reports g c =
    ref_unasked c.in-Admission.admission c.want_ref.new.self c.args.self.now c.args.id c.args.hold.now.items c.want_ref.result
    c.in-Admission.is
    (c.in-Ok-NotAsked.is ∙ ap Ok c.in-Ok-NotAsked.field-0-is) c.want_ref.ensures.reports

pub returns-in-Err-clause-reports : goal.returns-in-Err-clause-reports
returns-in-Err-clause-reports g c =
    ref_lacks c.in-Admission.admission c.want_ref.new.self c.args.self.now c.args.id c.args.hold.now.items c.want_ref.result _
    c.in-Admission.is c.in-Err.is c.want_ref.ensures.reports

pub returns-in-Err-clause-memory : goal.returns-in-Err-clause-memory
returns-in-Err-clause-memory g c = λ is.
    subst (λ (old : HostAnswer g.row.A.Denot). HasRefused g.A.Memory.refuses (33 * (objects_for old + 1))) (sym c.in-Admission.is)
    (on_err c.want_ref.result _ _ c.in-Err.is c.want_ref.ensures.memory)
