use Rattle.std.proofs.Common.{◌∙◌, ℕ, ap, min, sym}
use Rattle.std.proofs.lemmas.List.{length-take}
use Rattle.gitwire.specs.HostAnswers.{bytes_in}
use Rattle.gitwire.proofs.host_reports.part_count.Goals as goal

pub returns : goal.returns
returns c = c.min.ensures ∙ ap (λ (k : ℕ). min 65515 k) c.byte_count.ensures ∙ sym (length-take 65515 (bytes_in c.args.report.now))
