-- The results of reading a repository's text.
use Rattle.std.specs.Prelude.{ℕ, List}
use Rattle.git_server.specs.declared.list_repo.ListRepo.{ListRepo}
use Rattle.git_server.specs.Machine.ListRepo.{lists_of}
use Rattle.git_repository.specs.Packs.{PackBytes}
use Rattle.git_repository.specs.RepositoryLines.{lines_of}
use Rattle.git_repository.specs.RepositoryText.{IsRepositoryText, IsFirstBad, WantsMemory}
use Rattle.git_repository.specs.declared.text_faults.TextFault.{TextFault}
use Rattle.git_repository.specs.declared.text_faults.TextFault.TheVariants.{Bad, OutOfMemory}

-- the text is this repository, with these packs
abbrev pub IsWholeText : List ℕ → PackBytes → ListRepo → Type 0
IsWholeText text packs repo = IsRepositoryText text packs (lists_of repo)

-- why the text is no repository: its first bad line, or that memory refused a list
abbrev pub IsTextFault : (ℕ → Type 0) → List ℕ → TextFault → Type 0
IsTextFault refuses text (Bad line) = IsFirstBad text line
IsTextFault refuses text OutOfMemory = WantsMemory refuses (lines_of text)
