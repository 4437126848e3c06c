use Rattle.std.proofs.Common.{arith, ◌+◌, ◌*◌, length}
use Rattle.git_msg.specs.Memory.{HasRefused}
use Rattle.git_server.proofs.Refusals.{refused_within}
use Rattle.git_repository.proofs.drafts.Draft.keep_boundary.Goals as goal

pub returns-in-Err : goal.returns-in-Err
returns-in-Err g c =
    let refused : HasRefused g.M.RepoMemory.refuses (34 * (length c.args.self.now.lists.boundaries.items + 1)) = c.in-Err.ensures.memory in (
      record { name_last = tt; object_last = tt; first_count = tt },
      tt,
      refused_within g.M.RepoMemory.refuses _ _ (omega arith) refused,
    )
