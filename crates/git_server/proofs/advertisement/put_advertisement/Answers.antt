use Rattle.std.proofs.Common.{arith, ap, length, length-append}
use Rattle.git_server.specs.Machine.AdvertisementLines.{advertisement_after}
use Rattle.git_server.specs.Answers.{spelled}
use Rattle.git_server.proofs.Advertisements.{advertisement_is_short, line_appended, line_fits}
use Rattle.git_server.proofs.advertisement.put_advertisement.Goals as goal

pub append-requires : goal.append-requires
append-requires c =
    let whole = rw c.in-Some.is at c.loop-next.invariant in
    omega (arith, line_fits c.args.offer.now c.in-Some.line c.loop-next.hold.items whole)

pub loop-next-preserved : goal.loop-next-preserved
loop-next-preserved c =
    let whole = rw c.in-Some.is at c.loop-next.invariant in
    rw (c.append.ensures, c.next-next.ensures) (line_appended c.args.offer.now c.in-Some.line c.loop-next.hold.items whole)

pub returns-clause-short : goal.returns-clause-short
returns-clause-short c =
    let left = spelled (advertisement_after c.args.offer.now c.loop-next.next) in
    omega (arith, advertisement_is_short c.args.offer.now, ap length c.loop-next.invariant, length-append c.loop-next.hold.items left)
