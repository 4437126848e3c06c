-- The values of a `ListRepo` that contracts refer to.
use Rattle.std.specs.Prelude.{◌≡◌, ◌<◌, ℕ, Bool, true, false, List, Option, Some, None, filter, length, unwrap_or, if◌then◌else◌}
use Rattle.std.proofs.Common.{refl}
use Rattle.std.specs.Option.{ForSome}
use Rattle.git_server.specs.declared.list_repo.ListRepo.{ListRepo}
use Rattle.git_msg.specs.Asked.{is_empty, filters_in, haves_in}
use Rattle.git_server.specs.BoundaryLaws.{announced_keep, announced_unshallow}
use Rattle.git_server.specs.Repository.{IsSound, RepoState, Repository}
use Rattle.git_server.specs.Lists.{Lists, lists_in, pack_for}
use Rattle.git_server.specs.Objects.{has_object, object_of, size_among}
use Rattle.git_server.specs.AnnouncedBoundary.{boundary_for, is_enough}
use Rattle.git_msg.specs.Arguments.{Arg}

-- the lists that it consists of
abbrev pub lists_of : ListRepo → Lists
lists_of repo = lists_in repo.lists

-- the answers of a repository of these lists
abbrev pub answers_from : Lists → Repository
answers_from lists = record {
  format = lists.format;
  refs = lists.refs;
  unborn_head = lists.unborn_head;
  has = has_object lists.objects;
  object_size = size_among lists.objects;
  is_ready = λ request. is_enough lists.ready_after (length (filter (has_object lists.objects) (haves_in request)));
  boundaries = boundary_for lists.boundaries;
  pack = pack_for lists;
}

-- its answers: none of its reads fails
abbrev pub state_of : ListRepo → RepoState
state_of repo = record { answers = answers_from (lists_of repo); failures = 0 }

-- the conditions that its answers meet
pub is_sound : (repo : ListRepo) → IsSound (state_of repo).answers
is_sound repo = record {
  rising = repo.fit.rising_refs;
  named = repo.named;
  of_format = repo.fit.of_format.by_refs;
  unborn = repo.fit.unborn_head;
  boundaries_of_format = λ request. announced_keep (λ line. (object_of line).format ≡ repo.lists.format) (lists_of repo).boundaries request
      repo.fit.of_format.by_boundaries;
  unshallow = λ request. announced_unshallow (lists_of repo).boundaries request;
}

-- the pack that a request gets, of one or two, is short if both are
short_pack : (is_unfiltered : Bool) (pack : List ℕ) (filtered : Option (List ℕ)) → length pack < 9223372036854775808
    → ForSome filtered (λ other. length other < 9223372036854775808)
    → length (if is_unfiltered then pack else unwrap_or filtered pack) < 9223372036854775808
short_pack true pack filtered short others = short
short_pack false pack None short others = short
short_pack false pack (Some other) short others = others other refl

-- each of its packs is short enough
pub is_short : (repo : ListRepo) (request : List Arg) → length ((state_of repo).answers.pack request) < 9223372036854775808
is_short repo request = short_pack (is_empty (filters_in request)) (lists_of repo).pack (lists_of repo).filtered repo.short repo.short_filtered
