use Rattle.std.proofs.Common.{rules}
use Rattle.git_client.proofs.GatheredRows.{row_begun, row_further, row_whole, space_at_end, part_space}
use Rattle.git_client.proofs.gathered.GatheredLines.put_row.Goals as goal

pub loop-part-init : goal.loop-part-init
loop-part-init c = row_begun _ _ c.requires

pub put_part-requires : goal.put_part-requires
put_part-requires c = part_space c.part-item.result c.loop-part.invariant c.loop-part-test.true c.part-item.is

pub loop-part-preserved : goal.loop-part-preserved
loop-part-preserved c =
    row_further c.part-item.result c.loop-part.invariant c.loop-part-test.true c.part-item.is c.put_part.ensures.put c.put_part.ensures.within

pub append-requires : goal.append-requires
append-requires c = space_at_end c.loop-part.invariant (search rules)

pub returns : goal.returns
returns c = row_whole c.loop-part.invariant (search rules) c.append.ensures
