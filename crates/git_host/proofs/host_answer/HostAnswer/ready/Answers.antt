use Rattle.std.proofs.Common.{Bool, true, false, refl, subst, sym, ◌∙◌}
use Rattle.git_host.specs.FetchPlaces.{with_ready}
use Rattle.git_host.specs.HostAnswers.{ReportsBy}
use Rattle.git_host.specs.declared.host_answer.HostAnswer.TheVariants.{Fetch}
use Rattle.git_host.specs.declared.report.Report.TheVariants.{Ready}
use Rattle.git_host.proofs.HostAnswerMoves.{fetch_gives, fetch_packet}
use Rattle.git_host.proofs.host_answer.HostAnswer.ready.Goals as goal

pub returns-then-ready : goal.returns-then-ready
returns-then-ready g c =
    let a = c.in-Fetch.answer in
    let b = c.ready.new.self in
    let bytes = c.ready.new.hold.items in
    subst (λ (ready : Bool). ReportsBy (Ready ready) c.args.self.now c.packet_where.result bytes (Fetch b)) (sym c.if-ready.true)
    (fetch_packet a b c.args.self.now (Ready true) (with_ready true) c.packet_where.result bytes c.ready.result c.in-Fetch.is
    c.packet_where.ensures (λ wanted. c.ready.ensures.asked ∙ wanted) (λ gives. fetch_gives a b (with_ready true) bytes (λ t. refl) gives)
    (λ is. tt) c.ready.ensures.reported)

pub returns : goal.returns
returns g c =
    let a = c.in-Fetch.answer in
    let b = c.not_ready.new.self in
    let bytes = c.not_ready.new.hold.items in
    subst (λ (ready : Bool). ReportsBy (Ready ready) c.args.self.now c.packet_where-2.result bytes (Fetch b)) (sym c.if-ready.false)
    (fetch_packet a b c.args.self.now (Ready false) (with_ready false) c.packet_where-2.result bytes c.not_ready.result c.in-Fetch.is
    c.packet_where-2.ensures (λ wanted. c.not_ready.ensures.asked ∙ wanted)
    (λ gives. fetch_gives a b (with_ready false) bytes (λ t. refl) gives) (λ is. tt) c.not_ready.ensures.reported)
