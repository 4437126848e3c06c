-- How a run receives one message of the server, the advertisement or a response, over an input in whose window bytes may wait.
use Rattle.std.specs.Prelude.{◌≡◌, ℕ, Bool, true, false, List, [], Some, Result, Ok, Err}
use Rattle.std.specs.Io.KnownBytes.{Consumes, prepend_known}
use Rattle.git_pkt.specs.Streams.{Flow, IsTimely}
use Rattle.git_pkt.specs.declared.fault.Fault.{Fault}
use Rattle.git_pkt.specs.declared.fault.RunFault.{RunFault}
use Rattle.git_pkt.specs.declared.fault.RunFault.TheVariants.{ReadFault, WriteFault, ReadLimit, Refused}
use Rattle.git_client.specs.Machine.Client.{can_ask, fault_of, wants_input}
use Rattle.git_client.specs.Machine.RunSteps.{FaultsInTime, ReceivesBytes, no_counts}
use Rattle.git_client.specs.declared.client.Client.{Client}
use Rattle.git_client.specs.declared.receiving.Counts.{Counts}

module _ {A : Type 0} where
  -- These bytes were received: they are the first of those that waited and of those that were left to read. After them others wait, the unused ones.
  pub record ReceivesFirst (broken : Bool) (old new : Client A) (waiting unused : List ℕ) (reader out packs progress : Flow) : Type 0 where
    pub used : List ℕ
    pub counts : Counts
    pub read : Consumes (prepend_known waiting reader.before) (prepend_known unused reader.after) used
    pub bytes : ReceivesBytes broken old new no_counts counts used out packs progress

  -- a message was received whole
  pub record ReceivesWholeMessage (old new : Client A) (waiting unused : List ℕ) (reader out packs progress : Flow) : Type 0 where
    pub arrives : ReceivesFirst false old new waiting unused reader out packs progress
    pub can_ask_on : can_ask new ≡ true

  -- all bytes were received, and more are expected
  pub record ReceivesAllMessage (old new : Client A) (waiting unused : List ℕ) (reader out packs progress : Flow) : Type 0 where
    pub arrives : ReceivesFirst false old new waiting unused reader out packs progress
    pub all : unused ≡ []
    pub expected : wants_input new ≡ true

  -- there was an error
  pub record ReceivesFaultyMessage (fault : Fault) (ended : Bool) (old new : Client A) (waiting unused : List ℕ) (reader out packs progress : Flow)
      : Type 0 where
    pub arrives : ReceivesFirst false old new waiting unused reader out packs progress
    pub announced : fault_of new ≡ Some fault
    pub timely : IsTimely fault.kind ended unused

  -- a write or a flush failed; if the client has an error, it came in time
  pub record ReceivesBrokenMessage (ended : Bool) (old new : Client A) (waiting unused : List ℕ) (reader out packs progress : Flow) : Type 0 where
    pub arrives : ReceivesFirst true old new waiting unused reader out packs progress
    pub timely : FaultsInTime new ended unused

  -- how a message was received
  abbrev pub ReceivesMessage : Result (Unit {0}) RunFault → Bool → Client A → Client A → List ℕ → List ℕ → Flow → Flow → Flow → Flow → Type 0
  ReceivesMessage (Ok done) ended old new waiting unused reader out packs progress =
      ReceivesWholeMessage old new waiting unused reader out packs progress
  ReceivesMessage (Err ReadFault) ended old new waiting unused reader out packs progress =
      ReceivesAllMessage old new waiting unused reader out packs progress
  ReceivesMessage (Err ReadLimit) ended old new waiting unused reader out packs progress =
      ReceivesAllMessage old new waiting unused reader out packs progress
  ReceivesMessage (Err WriteFault) ended old new waiting unused reader out packs progress =
      ReceivesBrokenMessage ended old new waiting unused reader out packs progress
  ReceivesMessage (Err (Refused fault)) ended old new waiting unused reader out packs progress =
      ReceivesFaultyMessage fault ended old new waiting unused reader out packs progress
