use Rattle.std.proofs.Common.{ℕ, List, subst}
use Rattle.git_host.specs.FetchFacts.{AreParts}
use Rattle.git_host.proofs.RepositoryFacts.{parts_are_bands}
use Rattle.git_host.proofs.laws.no_progress_is_given.Goals as goal

pub returns : goal.returns
returns c manner format q t packets is none pack =
    parts_are_bands t.pack pack.parts (subst (λ (progress : List ℕ). AreParts t.pack progress pack.parts) (is.sound.quiet none) pack.are_parts)
