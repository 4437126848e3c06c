use Rattle.std.proofs.Common.{arith, true, ◌≡◌, ℕ, ◌+◌, ◌*◌, List, length, subst}
use Rattle.std.specs.Prelude.{All}
use Rattle.std.proofs.lemmas.List.Elements.{All-push}
use Rattle.git_names.specs.ObjectName.{ObjectName}
use Rattle.git_msg.specs.Memory.{HasRefused}
use Rattle.git_server.specs.Objects.{AreRising, precedes}
use Rattle.git_server.proofs.Refusals.{refused_within}
use Rattle.git_server.proofs.Rising.{rising_more}
use Rattle.git_repository.specs.Machine.DraftLists.{drafted}
use Rattle.git_repository.specs.Drafts.{ComesLastObject}
use Rattle.git_repository.proofs.Drafting.{pushed}
use Rattle.git_repository.proofs.drafts.Draft.keep_object.Goals as goal

pub returns-in-Err : goal.returns-in-Err
returns-in-Err g c =
    let behind : ComesLastObject c.args.self.now.lists.objects.items c.args.id =
    subst (λ (xs : List (ObjectName × ℕ)). ComesLastObject xs c.args.id) c.deref.ensures.value
    (c.comes_last_object.ensures.0 c.if-not-comes_last_object.false) in
    let refused : HasRefused g.M.RepoMemory.refuses (48 * (length c.args.self.now.lists.objects.items + 1)) = c.in-Err.ensures.memory in (
      record { name_last = tt; object_last = behind; first_count = tt },
      tt,
      refused_within g.M.RepoMemory.refuses _ _ (omega arith) refused,
    )

pub invariant_of-self : goal.invariant_of-self
invariant_of-self g c =
    let old = c.args.self.now in
    let lists = drafted old in
    let one : ObjectName × ℕ = (c.args.id, c.args.size) in
    let behind : ComesLastObject lists.objects c.args.id =
    subst (λ (xs : List (ObjectName × ℕ)). ComesLastObject xs c.args.id) c.deref.ensures.value
    (c.comes_last_object.ensures.0 c.if-not-comes_last_object.false) in
    let came = λ (P : List (ObjectName × ℕ) → Type 0). pushed P _ lists.objects c.keep_item.new.list.items one c.keep_item.ensures.items in
    record {
      fit = record {
        rising_refs = old.fit.rising_refs;
        rising_objects = came AreRising old.fit.rising_objects
            (rising_more (λ a b. precedes a.0 b.0 ≡ true) lists.objects one old.fit.rising_objects behind);
        of_format = record {
          by_refs = old.fit.of_format.by_refs;
          by_objects = came (All (λ sized. sized.0.format ≡ lists.format)) old.fit.of_format.by_objects
              (All-push (λ sized. sized.0.format ≡ lists.format) lists.objects one old.fit.of_format.by_objects c.requires);
          by_boundaries = old.fit.of_format.by_boundaries;
        };
        unborn_head = old.fit.unborn_head;
      };
      named = old.named;
    }
