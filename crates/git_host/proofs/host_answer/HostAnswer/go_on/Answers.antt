use Rattle.std.proofs.Common.{refl}
use Rattle.git_host.specs.declared.host_answer.HostAnswer.TheVariants.{References, Sizes, Whole}
use Rattle.git_host.proofs.HostAnswerMoves.{broken_stepped, fetch_stepped, fetch_waits, references_wait, sizes_stepped, sizes_wait, unbroken, whole_waits}
use Rattle.git_host.proofs.host_answer.HostAnswer.go_on.Goals as goal

pub returns-in-Fetch-clause-steps : goal.returns-in-Fetch-clause-steps
returns-in-Fetch-clause-steps g c = fetch_stepped c.in-Fetch.answer c.next.new.self c.args.self.now c.next.result c.of_fetch.result c.next.new.hold.items
    c.in-Fetch.is c.of_fetch.ensures c.next.ensures.step c.next.ensures.steps

pub returns-in-Fetch-clause-broken : goal.returns-in-Fetch-clause-broken
returns-in-Fetch-clause-broken g c = broken_stepped c.in-Fetch.answer c.args.self.now c.next.result c.of_fetch.result c.in-Fetch.is c.of_fetch.ensures
    c.next.ensures.step

pub returns-in-Fetch-clause-waits : goal.returns-in-Fetch-clause-waits
returns-in-Fetch-clause-waits g c = fetch_waits c.in-Fetch.answer c.next.new.self c.next.result c.next.new.hold.items c.next.ensures.step
    c.next.ensures.steps c.args.self.now c.of_fetch.result c.in-Fetch.is c.of_fetch.ensures

pub returns-in-References-clause-waits : goal.returns-in-References-clause-waits
returns-in-References-clause-waits g c = references_wait c.args.self.now c.in-References.field-0 c.in-References.is

pub returns-in-Sizes-clause-waits : goal.returns-in-Sizes-clause-waits
returns-in-Sizes-clause-waits g c = sizes_wait c.in-Sizes.answer c.next-in-Sizes.new.self c.next-in-Sizes.result c.next-in-Sizes.ensures.asks
    c.args.self.now c.of_sizes.result c.in-Sizes.is c.of_sizes.ensures

pub returns-in-Whole-clause-waits : goal.returns-in-Whole-clause-waits
returns-in-Whole-clause-waits g c = whole_waits c.args.self.now _ _ c.in-Whole.is

pub returns-in-References-clause-broken : goal.returns-in-References-clause-broken
returns-in-References-clause-broken g c = λ is. absurd (unbroken c.args.self.now (References c.in-References.field-0) c.in-References.is refl is)

pub returns-in-Whole-clause-broken : goal.returns-in-Whole-clause-broken
returns-in-Whole-clause-broken g c = λ is. absurd (unbroken c.args.self.now Whole c.in-Whole.is refl is)

pub returns-in-Sizes-clause-broken : goal.returns-in-Sizes-clause-broken
returns-in-Sizes-clause-broken g c = λ is. absurd (unbroken c.args.self.now (Sizes c.in-Sizes.answer) c.in-Sizes.is refl is)

pub returns-in-Sizes-clause-steps : goal.returns-in-Sizes-clause-steps
returns-in-Sizes-clause-steps g c = sizes_stepped c.in-Sizes.answer c.next-in-Sizes.new.self c.args.self.now c.next-in-Sizes.result c.of_sizes.result
    c.next-in-Sizes.new.hold.items c.in-Sizes.is c.of_sizes.ensures c.next-in-Sizes.ensures.steps
