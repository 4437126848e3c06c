use Rattle.std.proofs.Common.{refl}
use Rattle.git_rows.proofs.runs.requests_with_a_command.Goals as goal

pub returns : goal.returns
returns c = record { whole = refl; cut_off = refl; not_a_longer_word = refl; not_behind_another_line = refl; stray = refl; not_stray = refl }
