-- States of a host's server: over, or of some session.
use Rattle.std.specs.Prelude.{◌≡◌, ℕ, Bool, true, false, List}
use Rattle.git_host.specs.HostSessions.{Facts, HostSetting}
use Rattle.git_host.specs.HostServer.{Hosts, is_reading, reads_on}
use Rattle.git_host.specs.declared.host_server.HostServer.{HostServer}
use Rattle.git_host.specs.declared.host_server.Phase.{Phase}
use Rattle.git_host.specs.declared.host_server.Phase.TheVariants.{Advertising, Reading, Asked, Answering, Refusing, Ended}

module _ {A : Type 0} where
  -- the input is refused, or the session has ended: no more of it is used
  abbrev pub is_over_in : Phase A → Bool
  is_over_in (Refusing fault) = true
  is_over_in (Ended outcome) = true
  is_over_in phase = false

  abbrev pub is_over : HostServer A → Bool
  is_over server = is_over_in server.phase

  -- some bytes used and given, by what was reported, lead to this state
  pub record IsOfAHost (server : HostServer A) : Type 0 where
    pub s : HostSetting
    pub used : List ℕ
    pub over : Bool
    pub facts : List Facts
    pub given : List ℕ
    pub hosts : Hosts s used over facts given server

over_in : {A : Type 0} (phase : Phase A) → is_reading phase ≡ true → is_over_in phase ≡ true → ⊥
over_in Advertising reads over = absurd (cc)
over_in Reading reads over = absurd (cc)
over_in (Asked request) reads over = absurd (cc)
over_in (Answering answer) reads over = absurd (cc)
over_in (Refusing fault) reads over = absurd (cc)
over_in (Ended outcome) reads over = absurd (cc)

-- a server that waits for bytes is not over
pub over_reads_none : {A : Type 0} (server : HostServer A) → reads_on server ≡ true → is_over server ≡ true → ⊥
over_reads_none server reads over = over_in server.phase reads over
