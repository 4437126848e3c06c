-- What is reported to C for a repository's calls.
use Rattle.std.specs.Prelude.{◌≡◌, ◌⊎◌, ℕ, List, Option, Some, None}
use Rattle.git_server.specs.Machine.SharedRepo.{shared_by}
use Rattle.git_server.specs.declared.shared_repo.SharedRepo.{SharedRepo}
use Rattle.git_repository.specs.Packs.{PackBytes}
use Rattle.git_repository.specs.RepositoryText.{IsFirstBad}
use Rattle.git_repository.specs.Machine.RepositoryFaults.{IsWholeText}
use Rattle.gitwire.specs.Answers.{answering, answering_packet}
use Rattle.gitwire.specs.declared.answer.GitwireAnswer.{GitwireAnswer}
use Rattle.gitwire.specs.declared.answer.What.TheVariants as What

-- a line of the text is refused, and it is reported to C which
pub record RefusesText (text : List ℕ) (answer : GitwireAnswer) : Type 0 where
  pub line : ℕ
  pub refused : IsFirstBad text line
  pub answer_is : answer ≡ answering_packet 0 line 0 What.Failed

-- the packs that C passes: one for each fetch, and another for each fetch with a filter, or none
abbrev pub packs_given : List ℕ → Option (List ℕ) → PackBytes
packs_given pack filtered = record { pack = pack; filtered = filtered }

-- the repository of the text and the packs; or none, if the text is refused or memory ran out
abbrev pub Begins : List ℕ → PackBytes → GitwireAnswer → Option SharedRepo → Type 0
Begins text packs answer None = RefusesText text answer ⊎ (answer ≡ answering What.OutOfMemory)
Begins text packs answer (Some repository) = (answer ≡ answering What.Done) × IsWholeText text packs (shared_by repository)
