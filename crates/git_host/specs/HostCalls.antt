-- Calls of a host's server, one after the other, and what is promised after any of them.
use Rattle.std.specs.Prelude.{◌≡◌, ℕ, ◌+◌, ◌*◌, ◌≤◌, Bool, true, false, List, [], ◌∷◌, ◌++◌, length, take, flat_map, sum_by, Some}
use Rattle.git_pkt.specs.Machine.Credit.{Pays}
use Rattle.git_server.specs.declared.outcome.Outcome.{Outcome}
use Rattle.git_msg.specs.Asked.{Asked}
use Rattle.git_msg.specs.Memory.{FaultNeedsRefusal, HasRefused}
use Rattle.git_host.specs.HostLookups.{request_of}
use Rattle.git_host.specs.HostMemory.{ReportNeedsRefusal, bytes_held, kept_by, last_by, objects_by, stored_by, wanted_by}
use Rattle.git_host.specs.HostSessions.{Facts, HostSetting, IsHosted, IsUnderWay, IsWaiting}
use Rattle.git_host.specs.HostAnswers.{with_reported}
use Rattle.git_host.specs.HostServer.{AcceptsHost, AreHandedOut, ClosesHost, FeedsHost, KeepsFault, KeepsHostToMemory, RefusesHost, ReportsHost, Stays}
use Rattle.git_host.specs.HostServer.{StepsHost, begun_in, bytes_of, credit_of, fault_of, given_with, outcome_of, reads_on, with_last}
use Rattle.git_host.specs.declared.host_server.HostServer.{HostServer}
use Rattle.git_host.specs.declared.report.HostReported.{HostReported}
use Rattle.git_host.specs.declared.report.HostReported.TheVariants.{OutOfMemory, Packet as WasGiven}
use Rattle.git_host.specs.declared.report.HostStep.{HostStep}
use Rattle.git_host.specs.declared.report.HostStep.TheVariants.{Packet}
use Rattle.git_host.specs.declared.report.Report.{Report}

-- a call that changed a server: `feed` of a chunk, with how many bytes of it were used, and what it adds to what was reported, where a request came;
-- `close`; `next` with what it returned, and the bytes that it gave; `report` with what came of it, and the bytes that it gave; `accept`;
-- `refuse` with its text, and the bytes that it gave; or one of these that returned that it may not be made then
pub data HostCall : Type 0 where
  feed : List ℕ → ℕ → List Facts → HostCall
  close : HostCall
  next : HostStep → List ℕ → HostCall
  report : Report → HostReported → List ℕ → HostCall
  accept : HostCall
  refuse : List ℕ → List ℕ → HostCall
  nothing : HostCall

-- the bytes that the call used
abbrev pub used_by : HostCall → List ℕ
used_by (feed chunk used begun) = take used chunk
used_by call = []

-- the bytes that it gave
abbrev pub given_by : HostCall → List ℕ
given_by (next step bytes) = bytes
given_by (report fact what bytes) = bytes
given_by (refuse text bytes) = bytes
given_by call = []

-- if the call gave a packet, it gave the bytes of one at least, and no more than the longest has
abbrev pub HandsOut : HostCall → Type 0
HandsOut (next Packet bytes) = AreHandedOut bytes
HandsOut (report fact WasGiven bytes) = AreHandedOut bytes
HandsOut (refuse text bytes) = AreHandedOut bytes
HandsOut call = Unit {0}

-- each of the calls does so
abbrev pub Each : (HostCall → Type 0) → List HostCall → Type 0
Each Does [] = Unit {0}
Each Does (call ∷ calls) = Does call × Each Does calls

-- if memory ran out at a report, it refused a list
abbrev pub LacksMemory : (ℕ → Type 0) → HostCall → Type 0
LacksMemory refuses (report fact what bytes) = what ≡ OutOfMemory → (most : ℕ) × HasRefused refuses most
LacksMemory refuses call = Unit {0}

-- what was reported for each request, with what the call reported
abbrev pub reported_with : HostCall → List Facts → List Facts
reported_with (feed chunk used begun) reported = reported ++ begun
reported_with (report fact what bytes) reported = with_last (with_reported what fact) reported
reported_with call reported = reported

-- whether the input has ended
abbrev pub over_with : HostCall → Bool → Bool
over_with close over = true
over_with call over = over

-- 1 for a call of `feed`
abbrev pub feeds_by : HostCall → ℕ
feeds_by (feed chunk used begun) = 1
feeds_by call = 0

-- all bytes that the calls used, joined, and all that they gave
abbrev pub used_in : List HostCall → List ℕ
used_in = flat_map used_by

abbrev pub given_in : List HostCall → List ℕ
given_in = flat_map given_by

-- how many of them are of `feed`
abbrev pub feeds_in : List HostCall → ℕ
feeds_in = sum_by feeds_by

-- what was reported after the calls, where this was before them, and whether the input has ended
abbrev pub reported_after : List Facts → List HostCall → List Facts
reported_after reported [] = reported
reported_after reported (call ∷ calls) = reported_after (reported_with call reported) calls

abbrev pub over_after : Bool → List HostCall → Bool
over_after over [] = over
over_after over (call ∷ calls) = over_after (over_with call over) calls

module _ {A : Type 0} where
  -- a call that reads nothing takes no step that is counted
  pub record IsFree (before : ℕ) (old : HostServer A) (after : ℕ) (new : HostServer A) : Type 0 where
    pub steps : after ≡ before
    pub credit : credit_of new ≤ credit_of old

  -- the bytes that `next` gave
  abbrev pub given_at : HostStep → HostServer A → List ℕ
  given_at Packet new = bytes_of new
  given_at step new = []

module _ {A : Type 0} (refuses : ℕ → Type 0) where
  -- what `feed` ensures of this chunk, if it used so many bytes: the counter of steps rose from `before` to `after`
  pub record Feeds (chunk : List ℕ) (used : ℕ) (begun : List Facts) (before : ℕ) (old : HostServer A) (after : ℕ) (new : HostServer A) : Type 0 where
    pub within : used ≤ length chunk
    pub begun_is : begun ≡ begun_in old.phase new.phase
    pub feeds : FeedsHost (take used chunk) old new
    pub pays : Pays used before after (credit_of old) (credit_of new)
    pub memory : KeepsHostToMemory refuses old new

  -- what the contract of the call states of the counter and the server, before it and after it
  abbrev pub Makes : HostCall → ℕ → HostServer A → ℕ → HostServer A → Type 0
  Makes (feed chunk used begun) before old after new = Feeds chunk used begun before old after new
  Makes close before old after new = ClosesHost old true new × IsFree before old after new
  Makes (next step bytes) before old after new =
      StepsHost old step new × (bytes ≡ given_at step new) × IsFree before old after new × KeepsFault old new
  Makes (report fact what bytes) before old after new =
      ReportsHost fact old what new × (bytes ≡ given_with what new.stream) × IsFree before old after new × KeepsFault old new
      × ReportNeedsRefusal refuses old what
  Makes accept before old after new = AcceptsHost old true new × IsFree before old after new × KeepsFault old new
  Makes (refuse text bytes) before old after new =
      RefusesHost text old true new × (bytes ≡ bytes_of new) × IsFree before old after new × KeepsFault old new
  Makes nothing before old after new = Stays old new × IsFree before old after new × KeepsFault old new

  -- what holds of a server that was new before these calls, while they raised the counter from `before` to `after`
  pub record HostHeadline (s : HostSetting) (calls : List HostCall) (before after : ℕ) (server : HostServer A) : Type 0 where
    -- the calls took no more than 64 steps for each byte used and for each call of `feed`, and none set the counter back
    pub rises : before ≤ after
    pub steps : after ≤ before + 64 * (length (used_in calls) + feeds_in calls)
    -- its one buffer has no more bytes than the longest packet
    pub hold : length (bytes_of server) ≤ 65520
    -- of the request that is asked about or answered no more is stored than is counted of its lines, and no more is counted than the limit has
    pub stored : stored_by server ≤ kept_by server
    pub kept : kept_by server ≤ s.limit
    -- and no more objects are kept than it wants references
    pub objects : objects_by server ≤ wanted_by server
    -- all its bytes are those of the buffer, of a request that is read and of one that is answered, 33 for each wanted reference, and those of the
    -- reference that was reported last
    pub held : bytes_held server ≤ 65520 + 2 * s.limit + 33 * wanted_by server + last_by server
    -- each packet has bytes, and no more than the longest
    pub gives : Each HandsOut calls
    -- it ends for want of memory only where memory refused a list, which was to have no more bytes than the limit; and memory ran out at a report
    -- only where it refused one
    pub memory : FaultNeedsRefusal refuses s.limit (fault_of server)
    pub reports : Each (LacksMemory refuses) calls
    -- if the session has ended, what was sent is what the input calls for by what was reported of each request, and it ended so
    pub ends : (outcome : Outcome) → outcome_of server ≡ Some outcome
        → IsHosted s (used_in calls) (over_after false calls) (reported_after [] calls) (given_in calls) outcome
    -- while a request is asked about or answered, each one before it was answered, and for it the front of an answer was sent; or as much as
    -- could be had of its pack; or nothing, since the store lacks what it asks for
    pub answers : (asked : Asked) → request_of server ≡ Some asked
        → IsUnderWay s (used_in calls) (over_after false calls) (reported_after [] calls) (given_in calls)
    -- it waits for input only where the input goes on, none of it is refused, and each request was answered
    pub waits : reads_on server ≡ true → IsWaiting s (used_in calls) (over_after false calls) (reported_after [] calls) (given_in calls)
