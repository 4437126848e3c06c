use Rattle.std.proofs.Common.{rules, arith, subst, ◌∙◌, ap, length, inl, inr}
use Rattle.git_msg.specs.declared.arguments.Command.{Command}
use Rattle.git_msg.specs.declared.requests.Request.{Request}
use Rattle.git_msg.specs.Arguments.{Arg, IsArgumentFault, ReadsAs, TakesMemory, shown, written_text}
use Rattle.git_msg.specs.Memory.{HasRefused}
use Rattle.git_msg.specs.Machine.HeldRequest.{Keeps, add_checks, command_of, limit_of}
use Rattle.git_msg.specs.Checks.{Refuses}
use Rattle.git2show_lib.specs.Machine.HeldScripts.{FitsIn}
use Rattle.git2show_lib.specs.Machine.ScriptLines.{held}
use Rattle.git2show_lib.proofs.Scripting.{none_fits, none_reads, fits_of_passes, last_now, same_held}
use Rattle.git2show_lib.proofs.script_lines.Script.add.Goals as goal

pub returns-in_default-read_argument : goal.returns-in_default-read_argument
returns-in_default-read_argument g c others last is format opened =
    let old = c.args.self.now in
    let same = last_now old.requests.items others last c.in-Some.request.now old.requests.len old.requests.ok.0 c.in-Some.ensures.value is in
    none_reads old.offer last c.args.text.now c.in_default-read_argument.field-0
    (subst (λ (k : Command). IsArgumentFault k old.offer c.args.text.now c.in_default-read_argument.field-0) (c.command.ensures ∙ ap command_of same)
    c.in_default-read_argument.ensures.argument)

pub returns-in-Ok-add : goal.returns-in-Ok-add
returns-in-Ok-add g c others last is format opened =
    let old = c.args.self.now in
    let arg = shown c.in-Ok.argument in
    let same = last_now old.requests.items others last c.in-Some.request.now old.requests.len old.requests.ok.0 c.in-Some.ensures.value is in
    let reads = subst (λ (k : Command). ReadsAs k old.offer c.args.text.now arg) c.command.ensures c.in-Ok.ensures.argument in
    record {
      arg = arg;
      fits_in = subst (λ (r : Request _). FitsIn old.offer r c.args.text.now arg) same
          (fits_of_passes old.offer c.in-Some.request.now c.args.text.now arg reads
          (omega (arith, c.if-text-gt-LONGEST_LINE.false)) c.in-Ok-add.ensures.passes);
      request = c.add.new.self;
      keeps = subst (λ (r : Request _). Keeps r arg (length (written_text arg)) c.add.new.self) same c.in-Ok-add.ensures.added;
      new_is = same_held (held old) others last c.add.new.self old.requests.len old.requests.ok.0 is opened;
    }

pub returns-in_default-kind : goal.returns-in_default-kind
returns-in_default-kind g c others last is format opened =
    let old = c.args.self.now in
    let same = last_now old.requests.items others last c.in-Some.request.now old.requests.len old.requests.ok.0 c.in-Some.ensures.value is in
    let reads = subst (λ (k : Command). ReadsAs k old.offer c.args.text.now (shown c.in-Ok.argument)) (c.command.ensures ∙ ap command_of same)
    c.in-Ok.ensures.argument in
    none_fits old.offer last c.args.text.now (shown c.in-Ok.argument) c.in-Err.kind format reads (
    elim c.in-Err.ensures.refused [
      | inl refuses ↦ subst (λ (r : Request _). Refuses (add_checks r (shown c.in-Ok.argument)) c.in-Err.kind) same refuses
      | inr ran_out ↦ absurd (c.in_default-kind.not-OutOfMemory ran_out.name)
    ]
    )

pub returns-in-OutOfMemory : goal.returns-in-OutOfMemory
returns-in-OutOfMemory g c others last is format opened =
    let old = c.args.self.now in
    let same = last_now old.requests.items others last c.in-Some.request.now old.requests.len old.requests.ok.0 c.in-Some.ensures.value is in
    let kept_back : (arg : Arg) × FitsIn old.offer last c.args.text.now arg × TakesMemory arg = search rules in
    let refused : HasRefused g.A.Memory.refuses (limit_of last) =
    subst (λ (r : Request _). HasRefused g.A.Memory.refuses (limit_of r)) same (c.in-Err.ensures.memory c.in-OutOfMemory.is) in
    (kept_back.0, kept_back.1, kept_back.2, refused)
