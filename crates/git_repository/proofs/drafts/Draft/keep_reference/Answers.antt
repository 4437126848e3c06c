use Rattle.std.proofs.Common.{arith, true, ◌≡◌, ◌+◌, ◌*◌, List, length, sym, subst}
use Rattle.std.specs.Prelude.{All}
use Rattle.std.proofs.lemmas.List.Elements.{All-push}
use Rattle.git_server.specs.Repository.{Entry, IsNamed, IsOfFormat, IsRising, IsUnbornHead, comes_before}
use Rattle.std.specs.Option.{is_some, ForSome}
use Rattle.git_repository.specs.Machine.DraftLists.{drafted}
use Rattle.git_repository.specs.Drafts.{ComesLast, head_names, names_of}
use Rattle.git_repository.proofs.Drafting.{pushed}
use Rattle.git_repository.proofs.LastNames.{after_those_of_refs, still_unborn}
use Rattle.git_msg.specs.Memory.{HasRefused}
use Rattle.git_server.proofs.Refusals.{refused_within}
use Rattle.git_server.proofs.Rising.{rising_more}
use Rattle.git_repository.proofs.drafts.Draft.keep_reference.Goals as goal

pub returns-in_default : goal.returns-in_default
returns-in_default g c =
    let behind = c.comes_last.ensures.0 c.if-not-comes_last.false in (
      record { name_last = behind; object_last = tt; first_count = tt },
      tt,
      refused_within g.M.RepoMemory.refuses _ _ (omega arith) c.in_default.ensures.memory,
    )

pub returns-in-Err : goal.returns-in-Err
returns-in-Err g c =
    let behind = c.comes_last.ensures.0 c.if-not-comes_last.false in
    let refused : HasRefused g.M.RepoMemory.refuses (152 * (length c.args.self.now.lists.refs.items + 1)) = c.in-Err.ensures.memory in (
      record { name_last = behind; object_last = tt; first_count = tt },
      tt,
      refused_within g.M.RepoMemory.refuses _ _ (omega arith) refused,
    )

pub invariant_of-self : goal.invariant_of-self
invariant_of-self g c =
    let old = c.args.self.now in
    let lists = drafted old in
    let entry = c.in-Ok.made in
    let came = λ (P : List Entry → Type 0). pushed P _ lists.refs c.keep_item.new.list.items entry c.keep_item.ensures.items in
    let is = sym c.in-Ok.ensures.made in
    let named : IsNamed entry.name entry.target = subst (λ (e : Entry). IsNamed e.name e.target) is c.requires.named in
    let of_format : IsOfFormat lists.format entry = subst (IsOfFormat lists.format) is c.requires.of_format in
    let behind : ComesLast (names_of lists) entry.name =
    subst (λ (e : Entry). ComesLast (names_of lists) e.name) is (c.comes_last.ensures.0 c.if-not-comes_last.false) in
    record {
      fit = record {
        rising_refs = came IsRising old.fit.rising_refs (rising_more (λ a b. comes_before a.name b.name ≡ true) lists.refs entry old.fit.rising_refs
            (after_those_of_refs (head_names (is_some lists.unborn_head)) lists.refs entry.name behind));
        rising_objects = old.fit.rising_objects;
        of_format = record {
          by_refs = came (All (IsOfFormat lists.format)) old.fit.of_format.by_refs
              (All-push (IsOfFormat lists.format) lists.refs entry old.fit.of_format.by_refs of_format);
          by_objects = old.fit.of_format.by_objects;
          by_boundaries = old.fit.of_format.by_boundaries;
        };
        unborn_head = came (λ (refs : List Entry). ForSome lists.unborn_head (IsUnbornHead refs)) old.fit.unborn_head
            (still_unborn lists.unborn_head lists.refs entry old.named old.fit.unborn_head behind);
      };
      named = came (All (λ ref. IsNamed ref.name ref.target)) old.named (All-push (λ ref. IsNamed ref.name ref.target) lists.refs entry old.named named);
    }
