use Rattle.git_names.proofs.ObjectNames.{reads_back-hex_of}
use Rattle.git_names.proofs.object_name.Oid.write.Goals as goal

pub returns-clause-reads_back : goal.returns-clause-reads_back
returns-clause-reads_back c = rw (← c.self.view_is) (reads_back-hex_of _ c.self.invariant)
