-- What a client makes of a chunk whose lines of the transcript are gathered in a buffer.
use Rattle.std.specs.Prelude.{◌≡◌, ◌⊎◌, ℕ, ◌≤◌, ◌<◌, true, false, List, length, take, Option, Some, None}
use Rattle.git_pkt.specs.Streams.{Flow, flow}
use Rattle.git_pkt.specs.Machine.PacketReader.{ShownByFeed}
use Rattle.git_pkt.specs.declared.fault.Fault.{Fault}
use Rattle.git_client.specs.Machine.Client.{can_ask, fault_of, wants_input}
use Rattle.git_client.specs.Machine.RunSteps.{ReceivesBytes}
use Rattle.git_client.specs.declared.client.Client.{Client}
use Rattle.git_client.specs.declared.receiving.Counts.{Counts}

-- these lines are gathered before and after
abbrev pub gathered : List ℕ → List ℕ → Flow
gathered before after = flow (Some before) (Some after)

-- the bytes of the pack and of the progress go nowhere
abbrev pub dropped : Flow
dropped = flow None None

module _ {A : Type 0} where
  -- These first bytes of a chunk were received, and their lines were gathered. If more of it was not used, the client can ask, or so many lines
  -- are gathered that the next one might not fit.
  pub record GathersUpTo (old new : Client A) (counts counts_after : Counts) (chunk : List ℕ) (used most : ℕ) (before after : List ℕ) : Type 0 where
    pub arrives : ReceivesBytes false old new counts counts_after (take used chunk) (gathered before after) dropped dropped
    pub within : used ≤ length chunk
    pub all : wants_input new ≡ true → (used ≡ length chunk) ⊎ (most < length after)
    pub sound : fault_of new ≡ None
    pub whole : wants_input new ≡ false → can_ask new ≡ true
    pub moves : 0 < length chunk → length before ≤ most → 0 < used

  -- there was an error in the chunk
  pub record GathersToFault (fault : Fault) (old new : Client A) (counts counts_after : Counts) (chunk : List ℕ) (used : ℕ) (before after : List ℕ)
      : Type 0 where
    pub arrives : ReceivesBytes false old new counts counts_after (take used chunk) (gathered before after) dropped dropped
    pub within : used ≤ length chunk
    pub announced : fault_of new ≡ Some fault
    pub shown : ShownByFeed fault used chunk

  -- how a chunk was gathered
  abbrev pub GathersChunk : Option Fault → (old new : Client A) (counts counts_after : Counts) (chunk : List ℕ) (used most : ℕ) (before after : List ℕ)
      → Type 0
  GathersChunk None old new counts counts_after chunk used most before after = GathersUpTo old new counts counts_after chunk used most before after
  GathersChunk (Some fault) old new counts counts_after chunk used most before after =
      GathersToFault fault old new counts counts_after chunk used before after
