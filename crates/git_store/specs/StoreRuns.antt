-- The results of a run of a host's server over its store, a reader and a writer.
use Rattle.std.specs.Prelude.{◌≡◌, ℕ, ◌≤◌, Bool, true, false, List, [], ◌∷◌, ◌++◌, length, Option, Some, None, Result, Ok, Err}
use Rattle.git_pkt.specs.declared.fault.RunFault.{RunFault}
use Rattle.git_pkt.specs.declared.fault.RunFault.TheVariants.{ReadFault, WriteFault, ReadLimit, Refused as RefusedRun}
use Rattle.git_msg.specs.Asked.{Asked}
use Rattle.git_server.specs.declared.outcome.Outcome.{Outcome}
use Rattle.git_host.specs.HostSessions.{Facts, HostSetting, IsHosted, IsWaiting}
use Rattle.git_host.specs.HostServer.{Hosts}
use Rattle.git_store.specs.Questions.{Question, Reply}
use Rattle.git_store.specs.StoreMoves.{AllMade, Move, facts_after, given_in, over_after, used_in}
use Rattle.git_host.specs.declared.host_server.HostServer.{HostServer}

-- all bytes read were used, the session goes on, and each whole request was answered by what was reported
pub record WaitsForMore (s : HostSetting) (used unused : List ℕ) (over : Bool) (facts : List Facts) (given : List ℕ) : Type 0 where
  pub all : unused ≡ []
  pub answered : IsWaiting s used over facts given

-- how a run ended. If all its reads were used up, it used at least as many bytes as there were reads.
abbrev pub EndsStoreRun : HostSetting → Result (Option Outcome) RunFault → ℕ → List ℕ → List ℕ → List ℕ → Bool → List Facts → List ℕ → Type 0
EndsStoreRun s (Ok (Some outcome)) turns before used unused over facts given = IsHosted s (before ++ used) over facts given outcome
EndsStoreRun s (Ok None) turns before used unused over facts given = Unit {0}
EndsStoreRun s (Err ReadFault) turns before used unused over facts given = WaitsForMore s (before ++ used) unused over facts given
EndsStoreRun s (Err ReadLimit) turns before used unused over facts given =
    WaitsForMore s (before ++ used) unused over facts given × (turns ≤ length used)
EndsStoreRun s (Err WriteFault) turns before used unused over facts given = Unit {0}
EndsStoreRun s (Err (RefusedRun fault)) turns before used unused over facts given = ⊥

-- the relation between a server and its store, which used, reported and sent this before, and the bytes of their run: by these moves the
-- store was asked and replied, a prefix of the bytes read was used, and exactly the bytes of the moves were sent, which the session calls for by what
-- was reported. If the session ended with the input, all was used, and the reader reported its end.
pub record ServedStore {S A : Type 0} (begins : S → Asked → S → Type 0) (replies : S → Question → Reply → S → Type 0) (s : HostSetting)
    (used_before : List ℕ) (facts_before : List Facts) (given_before : List ℕ) (result : Result (Option Outcome) RunFault) (ended : Bool) (turns : ℕ)
    (old : HostServer A) (store : S) (new : HostServer A) (left : S) (read given : List (List ℕ)) : Type 0 where
  pub moves : List Move
  pub unused : List ℕ
  pub made : AllMade begins replies moves old store new left
  pub received : read ≡ (used_in moves ++ unused) ∷ []
  pub sent : given ≡ given_in moves ∷ []
  pub stands : Hosts s (used_before ++ used_in moves) (over_after false moves) (facts_after facts_before moves) (given_before ++ given_in moves) new
  pub whole : over_after false moves ≡ true → (unused ≡ []) × (ended ≡ true)
  pub ends : EndsStoreRun s result turns used_before (used_in moves) unused (over_after false moves) (facts_after facts_before moves)
      (given_before ++ given_in moves)
