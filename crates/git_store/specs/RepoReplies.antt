-- What a store replies that answers as a repository does.
use Rattle.std.specs.Prelude.{◌≡◌, ◌≤◌, ℕ, ◌+◌, Bool, true, false, List, length, Option, None, Some, slice_get}
use Rattle.git_server.specs.Repository.{IsFound, RepoState, Repository}
use Rattle.git_store.specs.Questions.{Question, Reply, ask_boundary, ask_have, ask_pack, ask_reference, ask_size, ask_want, ask_want_ref, entry, failed}
use Rattle.git_store.specs.Questions.{found, has, line, progress, ready, references_end, size_is, unborn}
use Rattle.git_store.specs.declared.store.Part.{Part}
use Rattle.git_store.specs.declared.store.Part.TheVariants.{Progress}
use Rattle.git_store.specs.declared.repo_store.RepoStore.{RepoStore}

-- what an unborn `HEAD` points to was sent, or `HEAD` is not unborn: references come after it
abbrev pub IsNamed : Repository → Bool → Type 0
IsNamed repo true = Unit {0}
IsNamed repo false = repo.unborn_head ≡ None

-- this is what an unborn `HEAD` points to, if it was not sent
abbrev pub IsLeftUnborn : Repository → Bool → Option (List ℕ) → Type 0
IsLeftUnborn repo named None = IsNamed repo named
IsLeftUnborn repo named (Some target) = (named ≡ false) × (repo.unborn_head ≡ Some target)

-- what the repository answers, after so many lines or references for the request at hand, and what an unborn `HEAD` points to or
-- not. Of a pack it states only that no progress comes with it; a pack that cannot be read fails, and so does a reference that does not fit.
abbrev pub IsReplyOf : Repository → ℕ → Bool → Question → Reply → Type 0
IsReplyOf repo at named (ask_want id) (has b) = b ≡ repo.has id
IsReplyOf repo at named (ask_want_ref name) (found id) = IsFound repo.refs name id
IsReplyOf repo at named (ask_have id) (has b) = b ≡ repo.has id
IsReplyOf repo at named (ready q) (has b) = b ≡ repo.is_ready q
IsReplyOf repo at named (ask_boundary q) (line l) = l ≡ slice_get (repo.boundaries q) at
IsReplyOf repo at named ask_reference (entry e) = IsNamed repo named × (slice_get repo.refs at ≡ Some e)
IsReplyOf repo at named ask_reference (unborn target) = (named ≡ false) × (repo.unborn_head ≡ Some target)
IsReplyOf repo at named ask_reference references_end = IsNamed repo named × (length repo.refs ≤ at)
IsReplyOf repo at named ask_reference failed = Unit {0}
IsReplyOf repo at named (ask_pack q) (progress bytes) = ⊥
IsReplyOf repo at named (ask_pack q) reply = Unit {0}
IsReplyOf repo at named (ask_size id) (size_is size) = size ≡ repo.object_size id
IsReplyOf repo at named question reply = ⊥

-- bytes of the pack or its end
abbrev pub IsPackPart : Part → Type 0
IsPackPart (Progress count) = ⊥
IsPackPart part = Unit {0}

-- how many references or lines were sent for the request at hand, this reply with them
abbrev pub place_after : Reply → ℕ → ℕ
place_after (line (Some l)) at = at + 1
place_after (entry e) at = at + 1
place_after reply at = at

-- whether what an unborn `HEAD` points to was sent, by this reply or before it
abbrev pub named_after : Reply → Bool → Bool
named_after (unborn target) named = true
named_after reply named = named

module _ {R P : Type 0} (state : R → RepoState) where
  abbrev pub answers_of : RepoStore R P → Repository
  answers_of store = (state store.repo).answers

  -- nothing was sent for a request that begins
  pub record BeginsAnew (old new : RepoStore R P) : Type 0 where
    pub same : answers_of new ≡ answers_of old
    pub at : new.at ≡ 0
    pub unnamed : new.named_unborn ≡ false

  pub record RepliesAs (old : RepoStore R P) (question : Question) (reply : Reply) (new : RepoStore R P) : Type 0 where
    pub same : answers_of new ≡ answers_of old
    pub reply_is : IsReplyOf (answers_of old) old.at old.named_unborn question reply
    pub at : new.at ≡ place_after reply old.at
    pub named : new.named_unborn ≡ named_after reply old.named_unborn
