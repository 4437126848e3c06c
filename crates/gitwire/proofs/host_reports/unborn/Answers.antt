use Rattle.std.proofs.Common.{arith, Ok, Err, refl}
use Rattle.git_pkt.specs.declared.fault.Kind.TheVariants.{BadRefName}
use Rattle.git_host.specs.declared.report.Report.{Report}
use Rattle.gitwire.specs.declared.host_texts.Unread.{Unread}
use Rattle.gitwire.proofs.Reporting.{reported_in}
use Rattle.gitwire.proofs.host_reports.unborn.Goals as goal

pub returns-in-Ok : goal.returns-in-Ok
returns-in-Ok c =
    reported_in _ (Ok (Report.Unborn c.in-Ok.target)) _ _ _ _ _ (omega (arith, c.if-buffer-lt-LONGEST_PACKET.false))
    (c.in-Ok.target, refl, c.in-Ok.ensures.name.0, c.in-Ok.ensures.name.1) c.report_to.ensures

pub returns-in-Err : goal.returns-in-Err
returns-in-Err c =
    reported_in _ (Err (Unread.Refused BadRefName)) _ _ _ _ _ (omega (arith, c.if-buffer-lt-LONGEST_PACKET.false))
    (refl, c.in-Err.ensures.name.1) (c.refused_as.ensures, refl, refl)
