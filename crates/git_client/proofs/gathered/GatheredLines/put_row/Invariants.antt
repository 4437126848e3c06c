use Rattle.git_client.proofs.GatheredRows.{RowPut}
use Rattle.git_client.proofs.gathered.GatheredLines.put_row.Given as goal

-- the parts before this one were put
abbrev pub invariant-loop-part : goal.invariant-loop-part
invariant-loop-part l = RowPut l.fn.self l.parts l.part-index l.self
