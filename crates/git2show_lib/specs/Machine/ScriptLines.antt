-- What a clause sees of a `Script`.
use Rattle.git2show_lib.specs.Machine.HeldScripts.{Held}
use Rattle.git2show_lib.specs.declared.script_lines.Script.{Script}

-- what is held of it
abbrev pub held : {A : Type 0} → Script A → Held A
held script = record { offer = script.offer; limit = script.limits.args; requests = script.requests.items; is_open = script.is_open }
