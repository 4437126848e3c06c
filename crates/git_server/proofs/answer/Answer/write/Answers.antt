use Rattle.std.proofs.Common.{refl}
use Rattle.git_server.proofs.Listed.{listed}
use Rattle.git_server.proofs.answer.Answer.write.Goals as goal

pub returns-in-Some-clause-writes : goal.returns-in-Some-clause-writes
returns-in-Some-clause-writes g c = record {
  packet = c.write_references.ensures.packet;
  writes = c.write_references.ensures.writes;
  is_next = listed (g.R.Repo.state c.args.repo.now).answers c.in-References.listing c.put_in_order.new.self c.in-References.place c.in-Some.after
      c.write_references.ensures.packet c.put_in_order.ensures.same (rw c.in-Some.is at c.write_references.ensures.unsent) c.args.self.now c.in-References.is;
  reads = record { answers = refl; failures = refl };
}
