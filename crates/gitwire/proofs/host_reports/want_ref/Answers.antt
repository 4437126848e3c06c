use Rattle.std.proofs.Common.{arith, Ok, Err, refl, subst}
use Rattle.git_names.specs.ObjectName.{IsNoObjectName}
use Rattle.git_names.specs.declared.object_format.Format.{Format}
use Rattle.git_pkt.specs.declared.fault.Kind.TheVariants.{BadObjectName}
use Rattle.git_msg.specs.References.{IsMaybeObjectName}
use Rattle.git_host.specs.declared.report.Report.{Report}
use Rattle.gitwire.specs.WrittenForC.{given}
use Rattle.gitwire.specs.declared.host_texts.Unread.{Unread}
use Rattle.gitwire.proofs.Reporting.{reported_in}
use Rattle.gitwire.proofs.host_reports.want_ref.Goals as goal

pub returns-in-Ok : goal.returns-in-Ok
returns-in-Ok c =
    reported_in _ (Ok (Report.WantRef c.in-Ok.id)) _ _ _ _ _ (omega (arith, c.if-buffer-lt-LONGEST_PACKET.false))
    (c.in-Ok.id, refl, subst (λ (format : Format). IsMaybeObjectName format (given c.args.id.now) c.in-Ok.id) c.format.ensures c.in-Ok.ensures)
    c.report_to.ensures

pub returns-in-Err : goal.returns-in-Err
returns-in-Err c =
    reported_in _ (Err (Unread.Refused BadObjectName)) _ _ _ _ _ (omega (arith, c.if-buffer-lt-LONGEST_PACKET.false))
    (refl, c.in-Err.ensures.1, subst (λ (format : Format). IsNoObjectName format c.args.id.now) c.format.ensures c.in-Err.ensures.2)
    (c.refused_as.ensures, refl, refl)
