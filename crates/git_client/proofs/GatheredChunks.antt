-- What a chunk results in whose lines are gathered.
use Rattle.std.proofs.Common.{◌≡◌, inl, ℕ, ◌+◌, ◌≤◌, true, false, List, length, take, Some, None, refl}
use Rattle.git_pkt.specs.declared.fault.Fault.{Fault}
use Rattle.git_pkt.proofs.EngineLemmas.{written_nothing}
use Rattle.git_client.specs.Machine.Client.{Feeds, wants_input}
use Rattle.git_client.specs.Machine.Gathered.{GathersToFault, GathersUpTo, dropped, gathered}
use Rattle.git_client.specs.Machine.RunSteps.{ReceivesBytes, ReceivesInChunk}
use Rattle.git_client.specs.declared.client.Client.{Client}
use Rattle.git_client.specs.declared.events.Received.{Received}
use Rattle.git_client.specs.declared.events.ReceivedGot.TheVariants.{Failed}
use Rattle.git_client.specs.declared.receiving.Counts.{Counts}
use Rattle.git_client.proofs.ReceivingSteps.{announces_by, left, received_failed_then, shown_where_failed, used_within}

module _ {A : Type 0} {old : Client A} {counts : Counts} {before : List ℕ} where
  -- all of it was used, and more is expected
  pub gathered_all : {new : Client A} {now : Counts} {chunk lines : List ℕ} {most : ℕ}
      → ReceivesInChunk old new counts now chunk (length chunk) (gathered before lines) dropped dropped
      → GathersUpTo old new counts now chunk (length chunk) most before lines
  gathered_all r = record {
    arrives = r.arrives;
    within = r.within;
    all = λ waits. inl refl;
    sound = r.sound;
    whole = r.whole;
    moves = λ some few. some;
  }

  -- or an error occurred
  pub gathered_failed : {mid new : Client A} {now : Counts} {lines : List ℕ} (chunk : List ℕ) (done : ℕ) {arrived : Received}
      → wants_input mid ≡ true → done ≤ length chunk
      → ReceivesBytes false old mid counts now (take done chunk) (gathered before lines) dropped dropped → Feeds mid (left chunk done) arrived new
      → (fault : Fault) → arrived.got ≡ Failed fault → arrived.used ≤ length (left chunk done)
      → GathersToFault fault old new counts now chunk (done + arrived.used) before lines
  gathered_failed {lines = lines} chunk done waits within so_far feeds fault is few = record {
    arrives = received_failed_then chunk done waits within so_far feeds false fault (Some lines) None None is (written_nothing (Some lines)) tt tt;
    within = used_within chunk done waits within so_far feeds few;
    announced = announces_by chunk done waits within so_far feeds (Failed fault) is;
    shown = shown_where_failed chunk done waits within so_far feeds fault is;
  }
