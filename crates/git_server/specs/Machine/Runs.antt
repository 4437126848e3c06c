-- The results of a run of a server over a reader and a writer: the bytes that it used, and those that it sent for them.
use Rattle.std.specs.Prelude.{◌≡◌, ◌≢◌, ◌⊎◌, ℕ, ◌≤◌, Bool, true, false, List, [], ◌∷◌, ◌++◌, length, Result, Ok, Err}
use Rattle.git_pkt.specs.Faults.{last_position}
use Rattle.git_pkt.specs.declared.fault.Fault.{Fault}
use Rattle.git_pkt.specs.declared.fault.Kind.TheVariants.{StreamTooLong}
use Rattle.git_pkt.specs.declared.fault.RunFault.{RunFault}
use Rattle.git_pkt.specs.declared.fault.RunFault.TheVariants.{ReadFault, WriteFault, ReadLimit, Refused as RefusedRun}
use Rattle.git_server.specs.Repository.{RepoState}
use Rattle.git_server.specs.Sessions.{Setting, IsAnswered, IsRunning, IsSession}
use Rattle.git_server.specs.Machine.Server.{Running}
use Rattle.git_server.specs.declared.outcome.Outcome.{Outcome}
use Rattle.git_server.specs.declared.outcome.Outcome.TheVariants.{Refused}
use Rattle.git_server.specs.declared.server.Server.{Server}

-- the session ended so with the bytes used, before the run and by it. If the stream is too long, one more byte was read, or all that
-- are allowed were used before.
pub record IsWholeRun (s : Setting) (outcome : Outcome) (before used unused : List ℕ) (over : Bool) (given : List ℕ) : Type 0 where
  pub session : IsSession s (before ++ used) over given outcome
  pub in_time : (fault : Fault) → outcome ≡ Refused fault → fault.kind ≡ StreamTooLong → (unused ≢ []) ⊎ (length before ≡ last_position)

-- all bytes read were used, the session goes on, and the whole advertisement and each whole answer were sent
pub record Waits (s : Setting) (used unused : List ℕ) (over : Bool) (given : List ℕ) : Type 0 where
  pub all : unused ≡ []
  pub goes_on : over ≡ false
  pub answered : IsAnswered s used given

-- how a run ended. If all its reads were used up, it used at least as many bytes as there were reads.
abbrev pub EndsRun : Setting → Result Outcome RunFault → ℕ → List ℕ → List ℕ → List ℕ → Bool → List ℕ → Type 0
EndsRun s (Ok outcome) turns before used unused over given = IsWholeRun s outcome before used unused over given
EndsRun s (Err ReadFault) turns before used unused over given = Waits s (before ++ used) unused over given
EndsRun s (Err ReadLimit) turns before used unused over given = Waits s (before ++ used) unused over given × (turns ≤ length used)
EndsRun s (Err WriteFault) turns before used unused over given = IsRunning s (before ++ used) over given
EndsRun s (Err (RefusedRun fault)) turns before used unused over given = ⊥

-- the relation between a server that had used and sent the bytes before and the bytes of its run: it used a prefix of those read, and it
-- sent exactly those that its session sends for that. If the session ended with the input, all was used, and the reader reported its end.
pub record Served {R A : Type 0} (state : R → RepoState) (s : Setting) (used_before given_before : List ℕ) (result : Result Outcome RunFault)
    (ended : Bool) (turns : ℕ) (server : Server R A) (read given : List (List ℕ)) : Type 0 where
  pub used : List ℕ
  pub unused : List ℕ
  pub over : Bool
  pub content : List ℕ
  pub arrived : read ≡ (used ++ unused) ∷ []
  pub announced : given ≡ content ∷ []
  pub stands : Running state s (used_before ++ used) over (given_before ++ content) server
  pub whole : over ≡ true → (unused ≡ []) × (ended ≡ true)
  pub ends : EndsRun s result turns used_before used unused over (given_before ++ content)
