-- Sessions over a store that answers as a repository does: what its moves and its packs have to be.
use Rattle.std.specs.Prelude.{◌≡◌, ℕ, Bool, true, false, List, [], ◌∷◌, length, Some}
use Rattle.git_pkt.specs.Splits.{Given}
use Rattle.git_msg.specs.Asked.{Asked, fetch}
use Rattle.git_msg.specs.Machine.RequestStreams.{AreAsked}
use Rattle.git_server.specs.Repository.{RepoState, Repository}
use Rattle.git_server.specs.declared.outcome.Outcome.{Outcome}
use Rattle.git_host.specs.FetchFacts.{sends_pack}
use Rattle.git_store.specs.HostedRepository.{EndsWell}
use Rattle.git_host.specs.HostServer.{Hosts, outcome_of}
use Rattle.git_host.specs.HostSessions.{Facts, HostSetting, of_fetch}
use Rattle.git_store.specs.RepoReplies.{BeginsAnew, RepliesAs, answers_of}
use Rattle.git_store.specs.StoreMoves.{AllMade, Move, facts_after, used_in}
use Rattle.git_host.specs.declared.host_server.HostServer.{HostServer}
use Rattle.git_store.specs.declared.repo_store.RepoStore.{RepoStore}

-- whether the store received the last request, where these facts begin with bytes that were used: not one that has just come
abbrev pub received_after : Bool → List Facts → Bool
received_after received [] = received
received_after received (f ∷ fs) = false

-- the pack that was reported for a fetch, where one follows, is the repository's for that request
abbrev pub HasItsPack : Repository → Asked → Facts → Type 0
HasItsPack repo (fetch q) (of_fetch a t) = sends_pack q t ≡ true → t.pack ≡ repo.pack q
HasItsPack repo q f = Unit {0}

-- and so of each request
abbrev pub AllHaveTheirPacks : Repository → List Asked → List Facts → Type 0
AllHaveTheirPacks repo (q ∷ qs) (f ∷ fs) = HasItsPack repo q f × AllHaveTheirPacks repo qs fs
AllHaveTheirPacks repo qs fs = Unit {0}

-- the requests that these bytes begin with, as many as were reported on, have their packs
abbrev pub IsPackedBy : HostSetting → Repository → List ℕ → List Facts → Type 0
IsPackedBy s repo used reported =
    (asked : List Asked) (left : List Given) (rest : List ℕ) → AreAsked s.offer s.limit used asked left rest → length asked ≡ length reported
    → AllHaveTheirPacks repo asked reported

-- these moves of a host's server and of a store, from the beginning of a session on, ended it well; the repository answers as that of the store,
-- but that its pack for a request is the one that was reported
pub record ServesRepository {R P A : Type 0} (state : R → RepoState) (s : HostSetting) (repo : Repository) (moves : List Move) (outcome : Outcome)
    (first : HostServer A) (store : RepoStore R P) (last : HostServer A) (left : RepoStore R P) : Type 0 where
  pub begins : Hosts s [] false [] [] first
  pub answers : record (answers_of state store) { pack = repo.pack } ≡ repo
  pub made : AllMade (λ old asked new. BeginsAnew state old new) (RepliesAs state) moves first store last left
  pub packs : IsPackedBy s repo (used_in moves) (facts_after [] moves)
  pub ended : outcome_of last ≡ Some outcome
  pub well : EndsWell outcome
