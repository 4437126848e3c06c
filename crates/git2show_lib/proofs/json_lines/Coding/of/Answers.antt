use Rattle.std.proofs.Common.{ap, sym}
use Rattle.std.proofs.lemmas.Str.{is_utf8-from_IsUtf8}
use Rattle.git2show_lib.specs.JsonLines.{coding_of}
use Rattle.git2show_lib.proofs.JsonTexts.{no_text}
use Rattle.git2show_lib.proofs.json_lines.Coding.of.Goals as goal

pub returns-in-Ok : goal.returns-in-Ok
returns-in-Ok c = sym (ap coding_of (is_utf8-from_IsUtf8 c.args.payload.now c.in-Ok.ensures.cases.1))

pub returns-in-Err : goal.returns-in-Err
returns-in-Err c = sym (ap coding_of (no_text c.args.payload.now c.in-Err.ensures.cases.0))
