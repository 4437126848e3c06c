use Rattle.std.proofs.Common.{sym, ◌∙◌}
use Rattle.git2show_lib.specs.Machine.ScriptLines.{held}
use Rattle.git2show_lib.proofs.Scripting.{no_bytes, stated_argument, stated_command, some_bytes, takes_blank}
use Rattle.git2show_lib.proofs.script_lines.Script.take.Goals as goal

pub returns-then-is_empty : goal.returns-then-is_empty
returns-then-is_empty g c = takes_blank (held c.args.self.now) c.args.text.now (no_bytes c.args.text.now (sym c.is_empty.ensures ∙ c.if-is_empty.true))

pub returns-then-self : goal.returns-then-self
returns-then-self g c = stated_argument _ _ (held c.args.self.now) (held c.add.new.self) c.args.text.now c.add.result c.if-self.true
    (some_bytes c.args.text.now (sym c.is_empty.ensures ∙ c.if-is_empty.false)) c.add.ensures

pub returns : goal.returns
returns g c = stated_command _ _ (held c.args.self.now) (held c.begin.new.self) c.args.text.now c.begin.result c.if-self.false
    (some_bytes c.args.text.now (sym c.is_empty.ensures ∙ c.if-is_empty.false)) c.begin.ensures
