use Rattle.std.proofs.Common.{◌≡◌, ap, refl, rules, subst, Bool}
use Rattle.std.proofs.lemmas.Result.{err_from_is_err_and}
use Rattle.git_msg.specs.Checks.{Refuses}
use Rattle.git_msg.specs.Lines.{IsCapabilityLine, capability_checks, command, object_format, server_option, unkept}
use Rattle.git_msg.specs.Machine.HeldRequest.{IsBounded}
use Rattle.git_msg.specs.Machine.RequestReaderSteps.{is_first}
use Rattle.git_msg.proofs.BoundedRequests.{one_bound, same_with}
use Rattle.git_msg.proofs.PacketFaults.{not_for_memory_by_capability}
use Rattle.git_msg.proofs.StepFacts.{first_by, notes, notes_option, unnoted_by_itself, unnoted_option}
use Rattle.git_msg.proofs.reader.RequestReader.note.Goals as goal
use Rattle.git_msg.proofs.reader.RequestReader.note.Goals.{in-Command, in-ObjectFormat, in-Unkept, in-ServerOption+in_ok-push-in-ServerOption}

pub returns-in_err-command-clause-unchanged : goal.returns-in_err-command-clause-unchanged
returns-in_err-command-clause-unchanged g c =
    let p = err_from_is_err_and c.from_residual.result c.from_residual.ensures.1 in
    rw p.1 (ap (λ (h : IsBounded c.args.self.now.offer c.args.self.now.request). record c.args.self.now { bounded = h }) (one_bound _ _ _ _))

pub returns-in_err-command-clause-err : goal.returns-in_err-command-clause-err
returns-in_err-command-clause-err g c =
    let p = err_from_is_err_and c.from_residual.result c.from_residual.ensures.1 in
    let same : c.is_none.result ≡ is_first c.args.self.now = first_by c.args.self.now.command c.is_none.result c.is_none.ensures in
    rw (p.1, p.2)
    (unnoted_by_itself c.args.self.now c.args.text.now c.in_err-command.field-0.0
    (subst (λ (b : Bool). Refuses (capability_checks c.args.self.now.offer b c.args.text.now) c.in_err-command.field-0.0) same
    c.in_err-command.ensures.line))

pub returns-in_err-command-clause-memory : goal.returns-in_err-command-clause-memory
returns-in_err-command-clause-memory g c =
    let p = err_from_is_err_and c.from_residual.result c.from_residual.ensures.1 in
    rw (p.1, p.2)
    (λ name. absurd (not_for_memory_by_capability c.args.self.now.offer _ _ c.in_err-command.field-0.0 c.in_err-command.ensures.line name))

pub returns-in_err-push-in-ServerOption-clause-unchanged : goal.returns-in_err-push-in-ServerOption-clause-unchanged
returns-in_err-push-in-ServerOption-clause-unchanged g c =
    let p = err_from_is_err_and c.from_residual-in_err-push-in-ServerOption.result c.from_residual-in_err-push-in-ServerOption.ensures.1 in
    rw p.1 (same_with c.args.self.now c.push.new.self _ c.in_err-push-in-ServerOption.ensures.unchanged)

pub returns-in_err-push-in-ServerOption-clause-err : goal.returns-in_err-push-in-ServerOption-clause-err
returns-in_err-push-in-ServerOption-clause-err g c =
    let p = err_from_is_err_and c.from_residual-in_err-push-in-ServerOption.result c.from_residual-in_err-push-in-ServerOption.ensures.1 in
    let same : c.is_none.result ≡ is_first c.args.self.now = first_by c.args.self.now.command c.is_none.result c.is_none.ensures in
    let line = c.in_ok-command.ensures.line in
    rw (p.1, p.2)
    (unnoted_option c.args.self.now c.args.text.now c.in-ServerOption.option.now c.in_err-push-in-ServerOption.field-0.0
    (subst (λ (b : Bool). IsCapabilityLine c.args.self.now.offer b c.args.text.now (server_option c.in-ServerOption.option.now)) same
    (rw c.in-ServerOption.is at line)) c.in_err-push-in-ServerOption.ensures.refused)

pub returns-clause-ok : goal.returns-clause-ok
returns-clause-ok g c =
    let r = c.args.self.now in
    let text = c.args.text.now in
    let same : c.is_none.result ≡ is_first r = first_by r.command c.is_none.result c.is_none.ensures in
    let line = c.in_ok-command.ensures.line in
    elim c.match-branch-2.branch [
      | in-Command w ↦
          notes r _ text c.is_none.result (command w.in-Command.command) same (rw w.in-Command.is at line) tt
          (record {
            offer = refl;
            part = refl;
            begun = refl;
            command = search (rules, w.self-is);
            has_format = search (rules, w.self-is);
            request = search (rules, w.self-is);
          })
      | in-ObjectFormat w ↦
          notes r _ text c.is_none.result object_format same (rw w.in-ObjectFormat.is at line) tt
          (record {
            offer = refl;
            part = refl;
            begun = refl;
            command = search (rules, w.self-is);
            has_format = search (rules, w.self-is);
            request = search (rules, w.self-is);
          })
      | in-Unkept w ↦
          notes r _ text c.is_none.result unkept same (rw w.in-Unkept.is at line) tt
          (record {
            offer = refl;
            part = refl;
            begun = refl;
            command = search (rules, w.self-is);
            has_format = search (rules, w.self-is);
            request = search (rules, w.self-is);
          })
      | in-ServerOption+in_ok-push-in-ServerOption w ↦
          notes_option r _ w.push.new.self text w.in-ServerOption.option.now c.is_none.result same (rw w.in-ServerOption.is at line)
          w.in_ok-push-in-ServerOption.ensures.fits w.in_ok-push-in-ServerOption.ensures.kept (search (rules, w.self-is)) refl refl refl
          (search (rules, w.self-is)) (search (rules, w.self-is))
    ]
