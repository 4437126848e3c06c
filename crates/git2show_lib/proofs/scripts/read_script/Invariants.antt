use Rattle.std.proofs.Common.{◌+◌, ◌≤◌, length}
use Rattle.std.specs.Option.{option_copied}
use Rattle.git_msg.specs.Advertisement.{everything}
use Rattle.git_msg.proofs.TextParts.{bytes_left}
use Rattle.git2show_lib.specs.Machine.ScriptLines.{held}
use Rattle.git2show_lib.proofs.ScriptReading.{ReadsScript}
use Rattle.git2show_lib.proofs.scripts.read_script.Given as goal

abbrev pub invariant-lines : goal.invariant-lines
invariant-lines g l = record {
  reading : ReadsScript l.fn.text (everything l.fn.format) l.fn.limits.args (held l.script) l.line (option_copied l.rest);
  space : l.line + bytes_left (option_copied l.rest) ≤ length l.fn.text + 1;
}

abbrev pub decreases-lines : goal.decreases-lines
decreases-lines g l = bytes_left (option_copied l.rest)
