-- Writing the packets that a server has to send, without new input or after some.
use Rattle.std.specs.Prelude.{◌≡◌, ℕ, Bool, true, false, List, [], ◌++◌, length, Option, Some, None}
use Rattle.git_pkt.specs.Streams.{Flow, WrittenAs}
use Rattle.git_server.specs.Repository.{RepoState}
use Rattle.git_server.specs.Machine.LatePacks.{state_with}
use Rattle.git_server.specs.Machine.Server.{outcome_of, wants_input}
use Rattle.git_server.specs.Machine.ServerCalls.{EndsAs, Goes, HasNoPackUnsent, AreUnsentNow, StopsInTime}
use Rattle.git_server.specs.declared.outcome.Outcome.{Outcome}
use Rattle.git_server.specs.declared.server.Server.{Server}
use Rattle.git_msg.specs.Arguments.{Arg}

-- the bytes were used, and the packets for them were written; a prefix of these if a write failed
pub record WritesOn {R A : Type 0} (broken : Bool) (state : R → RepoState) (old new : Server R A) (bytes : List ℕ) (writer : Flow) : Type 0 where
  pub given : List ℕ
  pub written : WrittenAs broken writer given
  pub goes : Goes state bytes given old new

-- nothing was used; the packets were written, or a prefix of them if a write failed, whatever the packs are; no byte of a pack is left to send
pub record WritesUnread {R A : Type 0} (broken : Bool) (state : R → RepoState) (old new : Server R A) (writer : Flow) : Type 0 where
  pub writes : (packs : List Arg → List ℕ) → WritesOn broken (state_with packs state) old new [] writer
  pub has_unsent : HasNoPackUnsent state new

-- a prefix of the bytes was used, and the packets for it were written; a prefix of these if a write failed
pub record WritesPart {R A : Type 0} (broken : Bool) (state : R → RepoState) (old new : Server R A) (bytes : List ℕ) (writer : Flow) : Type 0 where
  pub used : List ℕ
  pub unused : List ℕ
  pub parts : bytes ≡ used ++ unused
  pub writes : WritesOn broken state old new used writer

module _ {R A : Type 0} (state : R → RepoState) (old new : Server R A) (bytes : List ℕ) (writer : Flow) where
  -- all the bytes were used, and all packets for them were written
  pub record WritesAll : Type 0 where
    pub writes : WritesOn false state old new bytes writer
    pub wants : wants_input new ≡ true

  -- a prefix of the bytes was used, the session ended so, and all packets were written
  pub record WritesItsEnd (outcome : Outcome) : Type 0 where
    pub part : WritesPart false state old new bytes writer
    pub ends : outcome_of new ≡ Some outcome
    pub has_unsent : AreUnsentNow state new []
    pub session : EndsAs state new outcome
    pub in_time : StopsInTime state old (length part.used) bytes (Some outcome)

  -- the packets written, by whether the session goes on or ended
  abbrev pub WritesFor : Option Outcome → Type 0
  WritesFor None = WritesAll
  WritesFor (Some outcome) = WritesItsEnd outcome
