-- What a store reports if it answers as a repository does.
use Rattle.std.specs.Prelude.{◌≡◌, ℕ, true, List, [], ◌∷◌, ◌++◌, Some, map}
use Rattle.git_names.specs.ObjectName.{ObjectName}
use Rattle.git_msg.specs.Arguments.{Arg}
use Rattle.git_msg.specs.Asked.{haves_in, want_refs_in}
use Rattle.git_server.specs.Packs.{Manner, whole, broken}
use Rattle.git_server.specs.Repository.{Entry, Repository, found_ref}
use Rattle.git_server.specs.FetchAnswers.{is_ready_for, negotiates}
use Rattle.git_host.specs.FetchFacts.{FetchFacts, readiness, sends_pack}

-- these are the objects of the references of these names
abbrev pub AreFound : List Entry → List (List ℕ) → List ObjectName → Type 0
AreFound refs [] [] = Unit {0}
AreFound refs (name ∷ names) (id ∷ ids) = (found_ref refs name ≡ Some id) × AreFound refs names ids
AreFound refs _ _ = ⊥

-- the bytes are the pack, or a front of it where it broke off
abbrev pub IsPackOf : Manner → List ℕ → List ℕ → Type 0
IsPackOf whole pack bytes = bytes ≡ pack
IsPackOf broken pack bytes = (more : List ℕ) × (pack ≡ bytes ++ more)

-- what was reported for a fetch is what the repository answers, as far as the answer has it, with no progress
pub record AreOfRepository (manner : Manner) (repo : Repository) (q : List Arg) (t : FetchFacts) : Type 0 where
  pub has : negotiates q ≡ true → t.has ≡ map repo.has (haves_in q)
  pub ready : negotiates q ≡ true → readiness q t ≡ Some (is_ready_for repo q)
  pub boundary : sends_pack q t ≡ true → t.boundary ≡ repo.boundaries q
  pub wanted : AreFound repo.refs (want_refs_in q) t.wanted
  pub pack : sends_pack q t ≡ true → IsPackOf manner (repo.pack q) t.pack
  pub progress : t.progress ≡ []
