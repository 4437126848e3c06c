-- The values of a `Faulty` that contracts refer to.
use Rattle.std.specs.Prelude.{ℕ, ◌+◌}
use Rattle.git_server.specs.declared.faulty.Faulty.{Faulty}
use Rattle.git_server.specs.Repository.{RepoState}

module _ {R : Type 0} where
  -- the repository that it passes calls on to
  abbrev pub inner_of : Faulty R → R
  inner_of faulty = faulty.inner

  -- the number of reads that it still passes on
  abbrev pub reads_left : Faulty R → ℕ
  reads_left faulty = faulty.reads_left

  -- the maximum number of bytes that a read returns
  abbrev pub most_of : Faulty R → ℕ
  most_of faulty = faulty.most

  -- its answers: those of the inner repository; the reads that it failed itself count as failures too
  abbrev pub faulty_state : (R → RepoState) → Faulty R → RepoState
  faulty_state state faulty = record {
    answers = (state faulty.inner).answers;
    failures = (state faulty.inner).failures + faulty.failed;
  }
