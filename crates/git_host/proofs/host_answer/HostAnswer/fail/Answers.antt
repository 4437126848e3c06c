use Rattle.std.proofs.Common.{ap, ◌∙◌}
use Rattle.git_host.specs.HostAnswers.{asks_wanted}
use Rattle.git_host.proofs.AnswerFronts.{admission_fails, fetch_fails, references_fail, sizes_fail}
use Rattle.git_host.proofs.host_answer.HostAnswer.fail.Goals as goal

pub returns-in-Admission : goal.returns-in-Admission
returns-in-Admission g c = admission_fails c.args.self.now c.in-Admission.admission c.asks_wanted.result c.cut_where.result _ c.in-Admission.is
    c.cut_where.ensures (c.asks_wanted.ensures ∙ ap asks_wanted c.step.ensures)

pub returns-in-Fetch : goal.returns-in-Fetch
returns-in-Fetch g c = fetch_fails c.args.self.now c.in-Fetch.answer c.fail_fetch.new.answer c.fail_fetch.result c.fail_fetch.new.hold.items c.in-Fetch.is
    c.fail_fetch.ensures

pub returns-in-References : goal.returns-in-References
returns-in-References g c = references_fail c.args.self.now c.in-References.field-0 c.in-References.is

pub returns-in-Sizes : goal.returns-in-Sizes
returns-in-Sizes g c = sizes_fail c.args.self.now c.in-Sizes.answer c.asks.result c.cut_where-in-Sizes.result _ c.in-Sizes.is c.cut_where-in-Sizes.ensures
    c.asks.ensures
