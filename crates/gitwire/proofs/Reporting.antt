-- What is reported of texts of C, if the buffer is large enough.
use Rattle.std.proofs.Common.{arith, ◌≤◌, ℕ, List, length}
use Rattle.std.specs.Global.{Global}
use Rattle.git_host.specs.declared.host_server.HostServer.{HostServer}
use Rattle.gitwire.specs.HostAnswers.{Meant, ReportsBy, ReportsMeantInBuffer}
use Rattle.gitwire.specs.declared.answer.GitwireAnswer.{GitwireAnswer}

pub reported_in : (Means : Meant → Type 0) (meant : Meant) (old : HostServer Global) (buffer : List ℕ) (answer : GitwireAnswer) (filled : List ℕ)
    (new : HostServer Global) → 65520 ≤ length buffer → Means meant → ReportsBy meant old buffer answer filled new
    → ReportsMeantInBuffer Means old buffer answer filled new
reported_in Means meant old buffer answer filled new suffices means reports = record {
  small = λ small. absurd (omega (arith, small, suffices));
  large = λ large. record { meant = meant; means = means; reports = reports };
}
