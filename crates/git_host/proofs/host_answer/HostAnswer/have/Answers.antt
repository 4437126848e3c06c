use Rattle.std.proofs.Common.{Bool, refl, subst, sym, ◌∙◌}
use Rattle.git_host.specs.FetchPlaces.{ReportsAlone, ReportsAndGives, WhereAsked, with_have}
use Rattle.git_host.specs.declared.report.Report.TheVariants.{Have}
use Rattle.git_host.proofs.HostAnswerMoves.{fetch_gives, fetch_goes, fetch_packet, fetch_taken}
use Rattle.git_host.proofs.host_answer.HostAnswer.have.Goals as goal

pub returns-then-has : goal.returns-then-has
returns-then-has g c =
    let a = c.in-Fetch.answer in
    let b = c.common.new.self in
    let bytes = c.common.new.hold.items in
    fetch_packet a b c.args.self.now (Have c.args.has) (with_have c.args.has) c.packet_where.result bytes c.common.result c.in-Fetch.is
    c.packet_where.ensures (λ wanted. c.common.ensures.asked ∙ wanted) (λ gives. fetch_gives a b (with_have c.args.has) bytes (λ t. refl) gives) (λ is. tt)
    (subst (λ (has : Bool). WhereAsked c.common.result (ReportsAndGives (with_have has) a bytes b) a b) (sym c.if-has.true) c.common.ensures.reported)

pub returns : goal.returns
returns g c =
    let a = c.in-Fetch.answer in
    let b = c.not_common.new.self in
    fetch_taken a b c.args.self.now (Have c.args.has) (with_have c.args.has) c.taken_where.result _ c.not_common.result c.in-Fetch.is
    c.taken_where.ensures (λ wanted. c.not_common.ensures.asked ∙ wanted) (λ goes. fetch_goes a b (with_have c.args.has) (λ t. refl) goes) tt
    (subst (λ (has : Bool). WhereAsked c.not_common.result (ReportsAlone (with_have has) a b) a b) (sym c.if-has.false) c.not_common.ensures.reported)
