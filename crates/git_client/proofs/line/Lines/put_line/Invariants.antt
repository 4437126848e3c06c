use Rattle.git_client.proofs.Writing.{PutsSome}
use Rattle.git_client.proofs.line.Lines.put_line.Given as goal

-- the parts before this one were put
abbrev pub invariant-loop-part : goal.invariant-loop-part
invariant-loop-part g l = PutsSome g.W.Write.contents l.fn.out l.fn.self l.parts l.part-index l.out l.self
