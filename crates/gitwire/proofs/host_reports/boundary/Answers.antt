use Rattle.std.proofs.Common.{arith, Ok, Err, ap, refl, subst}
use Rattle.git_names.specs.ObjectName.{IsNoObjectName, IsObjectName}
use Rattle.git_names.specs.declared.object_format.Format.{Format}
use Rattle.git_pkt.specs.declared.fault.Kind.TheVariants.{BadObjectName}
use Rattle.git_msg.specs.declared.response_lines.Boundary.{Boundary}
use Rattle.git_host.specs.declared.report.Report.{Report}
use Rattle.gitwire.specs.declared.host_texts.Unread.{Unread}
use Rattle.gitwire.proofs.Reporting.{reported_in}
use Rattle.gitwire.proofs.host_reports.boundary.Goals as goal

pub returns-in-Ok : goal.returns-in-Ok
returns-in-Ok c =
    reported_in _ (Ok (Report.Boundary c.boundary_of.result)) _ _ _ _ _ (omega (arith, c.if-buffer-lt-LONGEST_PACKET.false)) (
      c.in-Ok.id,
      ap (λ (line : Boundary). Report.Boundary line) c.boundary_of.ensures,
      subst (λ (format : Format). IsObjectName format c.args.id.now c.in-Ok.id) c.format.ensures c.in-Ok.ensures.name,
    )
    c.report_to.ensures

pub returns-in-Err : goal.returns-in-Err
returns-in-Err c =
    reported_in _ (Err (Unread.Refused BadObjectName)) _ _ _ _ _ (omega (arith, c.if-buffer-lt-LONGEST_PACKET.false))
    (refl, subst (λ (format : Format). IsNoObjectName format c.args.id.now) c.format.ensures c.in-Err.ensures.name.1)
    (c.refused_as.ensures, refl, refl)
