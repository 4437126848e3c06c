-- Where the bytes lie that C is shown of an event.
use Rattle.std.proofs.Common.{arith, ◌≡◌, ◌+◌, ◌++◌, ℕ, List, ap, drop, length}
use Rattle.std.specs.Global.{Global}
use Rattle.git_client.specs.Machine.Client.{Feeds}
use Rattle.git_client.specs.declared.client.Client.{Client}
use Rattle.git_client.specs.declared.events.Event.TheVariants as Event
use Rattle.git_client.specs.declared.events.ReceivedGot.{ReceivedGot}
use Rattle.git_client.specs.declared.events.ReceivedGot.TheVariants as Got
use Rattle.gitwire.specs.ClientAnswers.{LieInChunk}
use Rattle.gitwire.specs.Buffers.{put_before}

-- bytes of the pack and of the progress are bytes of the chunk
pub lies : (old new : Client Global) (chunk : List ℕ) (used : ℕ) (got : ReceivedGot) → Feeds old chunk (record { used = used; got = got }) new
    → LieInChunk got used chunk
lies old new chunk used (Got.Event (Event.Pack bytes)) feeds = (feeds.announces.1.front, feeds.announces.1.lies)
lies old new chunk used (Got.Event (Event.Progress bytes)) feeds = (feeds.announces.1.front, feeds.announces.1.lies)
lies old new chunk used got feeds = tt

-- bytes that are written at the place 0 of a buffer are at its front
pub placed_first : (bytes buffer : List ℕ) → bytes ++ drop (0 + length bytes) buffer ≡ put_before bytes buffer
placed_first bytes buffer =
    let same : 0 + length bytes ≡ length bytes = omega arith in
    ap (λ (n : ℕ). bytes ++ drop n buffer) same
