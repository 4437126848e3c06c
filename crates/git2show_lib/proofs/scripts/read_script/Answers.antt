use Rattle.std.proofs.Common.{length, subst}
use Rattle.std.specs.Option.{option_copied}
use Rattle.git_msg.specs.Advertisement.{everything}
use Rattle.git2show_lib.specs.Machine.HeldScripts.{IsLineFault}
use Rattle.git2show_lib.specs.Machine.ScriptLines.{held}
use Rattle.git2show_lib.proofs.ScriptReading.{no_memory_at, refused_at, room_at_all, buffer_behind, started, stepped}
use Rattle.git2show_lib.proofs.scripts.read_script.Goals as goal

pub lines-init : goal.lines-init
lines-init g c = record {
  reading = started c.args.text.now c.text.result.now (everything c.args.format) c.args.limits.args (held c.new-script.result) c.text.ensures
      c.new-script.ensures;
  space = room_at_all c.args.text.now c.text.result.now c.text.ensures;
}

pub lines-preserved : goal.lines-preserved
lines-preserved g c =
    let h = rw c.in-Some.is at c.lines.invariant in
    record {
      reading = stepped (option_copied c.split_at_first.result.1) h.reading c.split_at_first.ensures.parts c.in-Ok.ensures;
      space = buffer_behind (length c.args.text.now) c.lines.line c.in-Some.left.now c.split_at_first.result.1 h.space c.split_at_first.ensures.shorter;
    }

pub returns-in-Err-Refused : goal.returns-in-Err-Refused
returns-in-Err-Refused g c =
    let h = rw c.in-Some.is at c.lines.invariant in
    refused_at (option_copied c.split_at_first.result.1) h.reading c.split_at_first.ensures.parts g.A.Memory.refuses 0
    (subst (IsLineFault _ _ (held c.lines.script) c.split_at_first.result.0.now)
    c.in-Err-Refused.field-0-is c.in-Err-Refused.ensures)

pub returns-in-Err-OutOfMemory : goal.returns-in-Err-OutOfMemory
returns-in-Err-OutOfMemory g c =
    let h = rw c.in-Some.is at c.lines.invariant in
    no_memory_at (option_copied c.split_at_first.result.1) h.reading c.split_at_first.ensures.parts _ _
    (subst (IsLineFault _ _ (held c.lines.script) c.split_at_first.result.0.now)
    c.in-Err-OutOfMemory.field-0-is c.in-Err-OutOfMemory.ensures)
