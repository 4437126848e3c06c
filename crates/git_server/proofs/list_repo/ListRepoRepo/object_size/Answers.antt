use Rattle.std.proofs.Common.{◌∙◌, None, Some, ap, refl, sym, ℕ}
use Rattle.git_names.specs.ObjectName.{ObjectName}
use Rattle.git_server.proofs.FoundObject.{size_is}
use Rattle.git_server.proofs.list_repo.ListRepoRepo.object_size.Goals as goal

pub returns-in_err-at-clause-answer : goal.returns-in_err-at-clause-answer
returns-in_err-at-clause-answer c =
    let repo = c.args.self.now in
    let none = rw c.deref.ensures.value at c.in_err-at.ensures in
    c.from_residual.ensures ∙ sym (size_is repo.lists.objects.items c.args.id.now None repo.fit.rising_objects none)

pub returns-clause-answer : goal.returns-clause-answer
returns-clause-answer c =
    let repo = c.args.self.now in
    let found = rw c.deref.ensures.value at c.in_ok-at.ensures in
    let object : ObjectName × ℕ = c.index.result.now in
    let named = ap (λ (object : ObjectName × ℕ). object.0) c.index.ensures ∙ found.1 object in
    sym (size_is repo.lists.objects.items c.args.id.now (Some object.1) repo.fit.rising_objects
    (c.in_ok-at.at, object, found.0, sym c.index.ensures, (named, refl)))
