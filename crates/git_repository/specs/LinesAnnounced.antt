-- Lines that begin a repository's text, and the lists that they contain.
use Rattle.std.specs.Prelude.{ℕ, List}
use Rattle.git_server.specs.Lists.{Lists}
use Rattle.git_repository.specs.RepositoryLines.{LineContent}
use Rattle.git_repository.specs.RepositoryText.{Begins}
use Rattle.git_repository.specs.Drafts.{Holds}

-- the lines begin a text, and contain these lists
pub record AreAnnounced (lines : List (List ℕ)) (lists : Lists) : Type 0 where
  pub content : List LineContent
  pub begins : Begins lists.format lines content
  pub holds : Holds content lists
