-- Calls of a client, one after the other, and the promises after any of them.
use Rattle.std.specs.Prelude.{◌≡◌, ◌≢◌, ◌↔◌, ℕ, suc, ◌+◌, ◌*◌, ◌≤◌, Bool, true, false, List, [], ◌∷◌, ◌++◌, length, take, sum_by, Some, None}
use Rattle.git_pkt.specs.Machine.Credit.{Pays, credit_of}
use Rattle.git_pkt.specs.Machine.PacketReader.{bytes_held as held_in_packet}
use Rattle.git_pkt.specs.Splits.{Given, Splits}
use Rattle.git_pkt.specs.declared.fault.Fault.{Fault}
use Rattle.git_pkt.specs.declared.fault.Kind.TheVariants.{Truncated, StreamTooLong}
use Rattle.git_msg.specs.Machine.HeldRequest.{asked_of}
use Rattle.git_msg.specs.declared.requests.Request.{Request}
use Rattle.git_client.specs.Parts.{Terms}
use Rattle.git_client.specs.Events.{pack_bytes, turns_of}
use Rattle.git_client.specs.Packs.{HasPack}
use Rattle.git_client.specs.Conversation.{HasEvents, HasNoted, FirstMalformed, GoesOn, GoesWell, IsConversation}
use Rattle.git_client.specs.Machine.Client.{History, Converses, ReceivesOn, Asks, RefusesToAsk, Leaves, Pulls, Feeds, given_by, events_of}
use Rattle.git_client.specs.Machine.Client.{bytes_held, format_of, stored_in, kept_by, limit_of, reader_of, request_of, caps_of, fault_of, can_ask, wants_input}
use Rattle.git_client.specs.Machine.Client.{left_to_send, sent_of, spelled}
use Rattle.git_client.specs.declared.client.Client.{Client}
use Rattle.git_client.specs.declared.events.Received.{Received}
use Rattle.git_client.specs.declared.events.Sent.{Sent}

-- a call that may change a client: its arguments and its result
pub data Call (A : Type 0) : Type 0 where
  ask : Request A → Call A
  ask_refused : (request handed_back : Request A) (fault : Fault) → Call A
  leave : Call A
  pull : Sent → Call A
  feed : (chunk : List ℕ) (answer : Received) → Call A
  close : Fault → Call A

module _ {A : Type 0} where
  -- the effect of a call of `close`, which is made when input is wanted
  pub record Closes (old : Client A) (fault : Fault) (new : Client A) : Type 0 where
    pub waits : wants_input old ≡ true
    pub carries : ReceivesOn old [] [] new
    pub refused : fault_of new ≡ Some fault
    pub kind : fault.kind ≡ Truncated
    pub offset : (t : Terms) (h : History) (given : List Given) (rest : List ℕ) → Converses t h old → Splits 0 h.used given rest
        → fault.offset + length rest ≡ length h.used
    pub credit : credit_of (reader_of new) ≤ credit_of (reader_of old)

  -- each call changed the client as the contract of its method states; only `feed` has the counter, and the other calls leave it unchanged
  abbrev pub Makes : Call A → ℕ → Client A → ℕ → Client A → Type 0
  Makes (ask request) before old after new = Asks old request new × (after ≡ before)
  Makes (ask_refused request handed_back fault) before old after new = RefusesToAsk old request handed_back fault new × (after ≡ before)
  Makes leave before old after new = Leaves old new × (after ≡ before)
  Makes (pull sent) before old after new = Pulls old sent new × (after ≡ before)
  Makes (feed chunk answer) before old after new =
      Feeds old chunk answer new × (answer.used ≤ length chunk)
      × Pays answer.used before after (credit_of (reader_of old)) (credit_of (reader_of new))
  Makes (close fault) before old after new = Closes old fault new × (after ≡ before)

  -- the effect of a call on the history
  abbrev pub after_call : History → Call A → History
  after_call h (ask request) = record h { asked = h.asked ++ asked_of request ∷ [] }
  after_call h (ask_refused request handed_back fault) = h
  after_call h leave = record h { left = true }
  after_call h (pull sent) = record h { given = h.given ++ given_by sent }
  after_call h (feed chunk answer) = record h { used = h.used ++ take answer.used chunk; events = h.events ++ events_of answer.got }
  after_call h (close fault) = h

  -- the effect of calls on the history, one after the other
  abbrev pub history_after : History → List (Call A) → History
  history_after h [] = h
  history_after h (call ∷ calls) = history_after (after_call h call) calls

  -- whether one of the calls is `close`
  abbrev pub closes : List (Call A) → Bool
  closes [] = false
  closes (close fault ∷ calls) = true
  closes (call ∷ calls) = closes calls

  abbrev pub feeds_by : Call A → ℕ
  feeds_by (feed chunk answer) = 1
  feeds_by call = 0

  -- the number of calls of `feed` among them
  abbrev pub feeds_in : List (Call A) → ℕ
  feeds_in calls = sum_by feeds_by calls

  -- the client has failed because its input ended
  abbrev pub IsTruncated : Client A → Type 0
  IsTruncated client = (fault : Fault) × (fault_of client ≡ Some fault) × (fault.kind ≡ Truncated)

  -- The promises about a client after any calls: the calls resulted in this history, `feeds` of them were of `feed`, and the counter of steps
  -- went from `before` to `after`.
  pub record Headline (t : Terms) (h : History) (feeds before after : ℕ) (client : Client A) : Type 0 where
    -- the format of the conversation is the client's
    pub format : format_of client ≡ t.format
    -- the client has no more bytes than the longest packet and the limit of the request that it asks
    pub held : bytes_held client ≤ 65520 + limit_of client
    -- it has no more bytes of packets than the longest packet, whatever was received
    pub hold : held_in_packet (reader_of client) ≤ 65520
    -- it stores no more bytes of the request than the argument lines have, and these have no more than the limit
    pub stored : stored_in (request_of client) ≤ kept_by client
    pub kept : kept_by client ≤ limit_of client
    -- all calls together took at most 64 steps for each byte used and for each call of `feed`, and none set the counter back
    pub rises : before ≤ after
    pub steps : after ≤ before + 64 * (length h.used + feeds)
    -- the events are those of the bytes used, up to the first packet that is refused and with the received bytes of an open one; the
    -- noted capabilities are those of the same bytes
    pub events : HasEvents t h.asked h.used h.events
    pub noted : HasNoted t h.asked h.used (caps_of client)
    -- if no packet is left to send, exactly the written form of the requests was sent, and the flush if the client has left
    pub given : left_to_send client ≡ [] → h.given ≡ spelled (sent_of t (caps_of client) h.asked h.left)
    -- the pack bytes among the events are the pack of the bytes used: at any time, and after a refusal too
    pub pack : HasPack t h.asked h.used (pack_bytes h.events)
    -- if the client can ask, each response is whole
    pub whole : can_ask client ≡ true → IsConversation t h.asked h.used h.events
    -- it can ask if and only if it has neither failed nor left, and has received the advertisement and a whole response to each request
    pub turn : (can_ask client ≡ true) ↔ ((fault_of client ≡ None) × (h.left ≡ false) × (turns_of h.events ≡ suc (length h.asked)))
    -- it waits for input only if more is expected after the bytes used, and the whole written form of the requests was sent
    pub expected : wants_input client ≡ true → GoesOn t h.asked h.used h.events
    pub waits : wants_input client ≡ true → h.given ≡ spelled (sent_of t (caps_of client) h.asked h.left)
    -- if it neither can ask nor waits for input, it has a packet to send, unless it has failed or left
    pub has_unsent : fault_of client ≡ None → h.left ≡ false → can_ask client ≡ false → wants_input client ≡ false → left_to_send client ≢ []
    -- a client that has refused something did so at the first malformed packet, and any other client has received none
    pub refused : (fault : Fault) → fault_of client ≡ Some fault → FirstMalformed t h.asked h.used fault
    pub unrefused : fault_of client ≡ None → GoesWell t h.asked h.used h.events
    -- the bytes have no other first malformed packet; `Truncated` and `StreamTooLong` have one offset each
    pub one_refusal : (fault other : Fault) → fault_of client ≡ Some fault → FirstMalformed t h.asked h.used other
        → fault.kind ≢ Truncated → fault.kind ≢ StreamTooLong → fault ≡ other
    pub one_by_name : (fault other : Fault) → fault_of client ≡ Some fault → FirstMalformed t h.asked h.used other
        → fault.kind ≡ other.kind → fault ≡ other
