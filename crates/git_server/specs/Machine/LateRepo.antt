-- The values of a `LateRepo` that contracts refer to.
use Rattle.std.specs.Prelude.{◌≡◌, ℕ, Bool, Option, List}
use Rattle.git_server.specs.Lists.{Lists}
use Rattle.git_server.specs.Repository.{RepoState}
use Rattle.git_server.specs.Machine.LatePacks.{with_packs}
use Rattle.git_server.specs.Machine.LateReads.{are_read, have_failure, unread_among}
use Rattle.git_server.specs.Machine.ListRepo.{answers_from, lists_of}
use Rattle.git_server.specs.Machine.PackSources.{AreReadFrom}
use Rattle.git_server.specs.declared.late_repo.LateRepo.{LateRepo}

module _ {P : Type 0} where
  -- the lists that it consists of
  abbrev pub late_lists : LateRepo P → Lists
  late_lists repo = lists_of repo.lists

  -- its answers, and how many reads of a pack failed
  abbrev pub late_state : LateRepo P → RepoState
  late_state repo = record { answers = answers_from (late_lists repo); failures = repo.failed }

  -- the readers of the packs, until the packs are read
  abbrev pub unread_in : LateRepo P → Option (P × Option P)
  unread_in repo = unread_among repo.packs

  -- the packs were read
  abbrev pub has_packs : LateRepo P → Bool
  has_packs repo = are_read repo.packs

  -- a read of one of them failed, other than by an interruption, or memory for the bytes was refused
  abbrev pub pack_failed : LateRepo P → Bool
  pack_failed repo = have_failure repo.packs

  -- these are the packs of the lists
  abbrev pub AreReadOf : (P → Option (List ℕ)) → P × Option P → Lists → Type 0
  AreReadOf remaining sources lists = AreReadFrom remaining sources lists.pack lists.filtered

-- the repository's answers stay the same, except for its packs, and none of its reads failed
pub record SettlesPacks (old new : RepoState) : Type 0 where
  pub answers : new.answers ≡ with_packs new.answers.pack old.answers
  pub failures : new.failures ≡ old.failures
