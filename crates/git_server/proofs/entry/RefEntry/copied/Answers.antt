use Rattle.std.proofs.Common.{rules, arith, ◌+◌, length}
use Rattle.std.specs.Option.{option_copied}
use Rattle.git_msg.specs.Memory.{HasRefused}
use Rattle.git_server.specs.NameBytes.{name_bytes}
use Rattle.git_server.proofs.Refusals.{refused_within}
use Rattle.git_server.proofs.entry.RefEntry.copied.Goals as goal

pub returns-in_err-name-clause-memory : goal.returns-in_err-name-clause-memory
returns-in_err-name-clause-memory g c =
    let refused : HasRefused g.M.RepoMemory.refuses (length c.args.name.now + name_bytes (option_copied c.args.target)) =
    refused_within g.M.RepoMemory.refuses (length c.args.name.now) _ (omega arith) c.in_err-name.ensures.memory in
    search rules

pub returns-in_err-copy-clause-memory : goal.returns-in_err-copy-clause-memory
returns-in_err-copy-clause-memory g c =
    let refused : HasRefused g.M.RepoMemory.refuses (length c.args.name.now + name_bytes (option_copied c.args.target)) =
    refused_within g.M.RepoMemory.refuses (name_bytes (option_copied c.args.target)) _ (omega arith) c.in_err-copy.ensures.memory in
    search rules
