-- A run of a client over its streams that can go on: its history so far, and what was read and written.
use Rattle.std.specs.Prelude.{◌≡◌, ◌⊎◌, ℕ, ◌+◌, ◌≤◌, All, Bool, true, false, List, [], ◌++◌, length, drop, map}
use Rattle.std.specs.Io.KnownBytes.{Consumes}
use Rattle.git_pkt.specs.Streams.{Flow, WrittenAs}
use Rattle.git_msg.specs.Advertisement.{noted_of}
use Rattle.git_msg.specs.Asked.{Asked}
use Rattle.git_msg.specs.Checks.{Passes}
use Rattle.git_msg.specs.Machine.HeldRequest.{asked_of}
use Rattle.git_msg.specs.declared.offers.Caps.{Caps}
use Rattle.git_msg.specs.declared.requests.Request.{Request}
use Rattle.git_client.specs.Parts.{Terms, advertisement_of, nearest}
use Rattle.git_client.specs.Events.{EventValue, pack_bytes, progress_bytes, turns_of}
use Rattle.git_client.specs.Conversation.{IsConversation}
use Rattle.git_client.specs.Transcript.{next_asked, transcript_from, transcript_of}
use Rattle.git_client.specs.Machine.Client.{History, Converses, ask_checks, can_ask}
use Rattle.git_client.specs.declared.client.Client.{Client}
use Rattle.git_client.specs.declared.receiving.Counts.{Counts}

-- Whatever follows, the transcript begins with these lines. If the client can ask, the next request's line follows them; if not, the response goes on
-- after the counted bytes of the pack and of the progress.
abbrev pub IsAnnounced : Bool → History → List ℕ → Counts → Type 0
IsAnnounced true h lines counts = (later : List Asked) (more : List EventValue)
    → transcript_of (h.asked ++ later) (h.events ++ more) ≡ lines ++ next_asked later ++ transcript_from (drop 1 later) 0 0 more
IsAnnounced false h lines counts = (later : List Asked) (more : List EventValue)
    → transcript_of (h.asked ++ later) (h.events ++ more) ≡ lines ++ transcript_from later counts.pack counts.progress more

module _ {A : Type 0} (t : Terms) where
  -- the request is allowed by these advertised capabilities
  abbrev pub MayAsk : Caps → Request A → Type 0
  MayAsk caps request = Passes (ask_checks t.format caps request)

  -- These bytes begin with a whole conversation, and its advertisement allows each of the requests.
  pub record MayBeAsked (asked : List Asked) (used : List ℕ) (front : List (Request A)) : Type 0 where
    pub first : List Asked
    pub begun : List ℕ
    pub events : List EventValue
    pub whole : IsConversation t first begun events
    pub more : List Asked
    pub later : List ℕ
    pub asked_is : asked ≡ first ++ more
    pub used_is : used ≡ begun ++ later
    pub passes : All (MayAsk (noted_of (advertisement_of (nearest whole.given [])))) front

  -- exactly these requests were asked: at most one for the advertisement, and one for each whole response
  pub record AskedInTurn (asked : List Asked) (used : List ℕ) (events : List EventValue) (front : List (Request A)) : Type 0 where
    pub are : asked ≡ map asked_of front
    pub in_turn : length asked ≤ turns_of events
    pub may_be : (front ≡ []) ⊎ MayBeAsked asked used front

module _ {A : Type 0} where
  -- a client with these terms and this history, its lines of the transcript and its bytes of the pack
  pub record Along (t : Terms) (h : History) (client : Client A) (lines packed : List ℕ) (counts : Counts) : Type 0 where
    pub stands : Converses t h client
    pub announced : IsAnnounced (can_ask client) h lines counts
    pub pack_is : packed ≡ pack_bytes h.events
    pub within : counts.pack + counts.progress ≤ length h.events

  -- A run with this history that can go on: it asked these first requests, read the used and the unused bytes, and wrote to each stream what belongs
  -- there.
  pub record Running (broken : Bool) (t : Terms) (h : History) (front : List (Request A)) (client : Client A) (counts : Counts) (unused : List ℕ)
      (reader writer out pack progress : Flow) : Type 0 where
    pub lines : List ℕ
    pub packed : List ℕ
    pub along : Along t h client lines packed counts
    pub stays : h.left ≡ false
    pub in_turn : AskedInTurn t h.asked h.used h.events front
    pub read : Consumes reader.before reader.after (h.used ++ unused)
    pub content : WrittenAs broken writer h.given
    pub announced : WrittenAs broken out lines
    pub sent : WrittenAs broken pack packed
    pub reported : WrittenAs broken progress (progress_bytes h.events)
