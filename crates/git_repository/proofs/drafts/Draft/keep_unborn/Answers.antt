use Rattle.std.proofs.Common.{ap, List, ℕ}
use Rattle.std.specs.Option.{is_some}
use Rattle.git_repository.specs.Machine.DraftLists.{drafted}
use Rattle.git_repository.specs.RepositoryLines.{unborn}
use Rattle.git_repository.specs.Drafts.{head_names, with_content}
use Rattle.git_repository.proofs.LastNames.{head_comes_alone, no_refs_there, unborn_announced}
use Rattle.git_repository.proofs.drafts.Draft.keep_unborn.Goals as goal

pub invariant_of-self : goal.invariant_of-self
invariant_of-self g c =
    let old = c.args.self.now in
    let lists = drafted old in
    let alone = head_comes_alone lists.unborn_head lists.refs old.named (c.comes_last.ensures.0 c.if-not-comes_last.false) in
    record {
      fit = record {
        rising_refs = old.fit.rising_refs;
        rising_objects = old.fit.rising_objects;
        of_format = record {
          by_refs = old.fit.of_format.by_refs;
          by_objects = old.fit.of_format.by_objects;
          by_boundaries = old.fit.of_format.by_boundaries;
        };
        unborn_head = unborn_announced lists.refs c.args.target.now c.in-Ok.copy.items
            (no_refs_there (head_names (is_some lists.unborn_head)) lists.refs alone) c.in-Ok.ensures.copied c.requires;
      };
      named = old.named;
    }

pub returns-in-Ok : goal.returns-in-Ok
returns-in-Ok g c = (
  ap (λ (target : List ℕ). with_content (drafted c.args.self.now) (unborn target)) c.in-Ok.ensures.copied,
  record { name_last = c.comes_last.ensures.0 c.if-not-comes_last.false; object_last = tt; first_count = tt },
)
