use Rattle.std.proofs.Common.{rules}
use Rattle.std.specs.Option.{option_copied}
use Rattle.git_msg.specs.Memory.{HasRefused}
use Rattle.git_server.specs.NameBytes.{name_bytes}
use Rattle.git_server.proofs.entry.copy_target.Goals as goal

pub returns-in_err-copy-in-Some-clause-memory : goal.returns-in_err-copy-in-Some-clause-memory
returns-in_err-copy-in-Some-clause-memory g c =
    let refused : HasRefused g.M.RepoMemory.refuses (name_bytes (option_copied c.args.target)) =
    rw c.in-Some.is c.in_err-copy-in-Some.ensures.memory in
    search rules
