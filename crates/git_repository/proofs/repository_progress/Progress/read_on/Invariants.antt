use Rattle.std.proofs.Common.{ℕ, List, ◌≤◌, length}
use Rattle.std.specs.Option.{option_copied}
use Rattle.git_msg.proofs.TextParts.{bytes_left}
use Rattle.git_repository.specs.Machine.DraftLists.{drafted}
use Rattle.git_repository.specs.LinesAnnounced.{AreAnnounced}
use Rattle.git_repository.proofs.Progressing.{ReadsOn}
use Rattle.git_repository.proofs.repository_progress.Progress.read_on.Given as goal

abbrev pub invariant-lines : goal.invariant-lines
invariant-lines g l = record {
  reads : (lines : List (List ℕ)) → AreAnnounced lines (drafted l.fn.draft) → ReadsOn l.fn.text lines l.line (option_copied l.rest) (drafted l.draft);
  within : length l.line ≤ length l.fn.text;
  space : bytes_left (option_copied l.rest) ≤ length l.fn.text;
}

abbrev pub decreases-lines : goal.decreases-lines
decreases-lines g l = bytes_left (option_copied l.rest)
