-- What is reported to C for a client's calls.
use Rattle.std.specs.Prelude.{◌≡◌, ◌⊎◌, ℕ, ◌+◌, ◌<◌, ◌≤◌, Bool, true, false, List, [], ◌∷◌, ◌++◌, length, take, Option, Some, None, MatchOption, IsSomeAnd}
use Rattle.std.specs.Prelude.{is_none, unwrap_or}
use Rattle.std.specs.Global.{Global}
use Rattle.git_names.specs.declared.object_format.Format.{Format}
use Rattle.git_names.specs.declared.object_format.Format.TheVariants.{Sha1, Sha256}
use Rattle.git_pkt.specs.Packets.{longest_payload}
use Rattle.git_pkt.specs.Splits.{Given, Splits}
use Rattle.git_pkt.specs.declared.fault.Fault.{Fault}
use Rattle.git_pkt.specs.declared.fault.Kind.TheVariants.{Truncated}
use Rattle.git_msg.specs.declared.requests.Request.{Request}
use Rattle.git_client.specs.Machine.Client.{Asks, Converses, EndsWithMessage, EndsWithoutMessage, Feeds, ReceivesOn, History, Leaves, Pulls, RefusesToAsk}
use Rattle.git_client.specs.Machine.Client.{can_ask, caps_of, fault_of, given_by, is_of_any_format, nothing_yet, wants_input}
use Rattle.git_client.specs.Machine.Choosing.{ChoosesFormat}
use Rattle.git_client.specs.Conversation.{HasNoted}
use Rattle.git_msg.specs.declared.agent.Agent.{Agent}
use Rattle.git_client.specs.Parts.{Terms, terms_by}
use Rattle.git_client.specs.declared.client.Client.{Client}
use Rattle.git_client.specs.declared.events.Ending.{Ending}
use Rattle.git_client.specs.declared.events.Ending.TheVariants.{FlushOnly, ResponseEnd}
use Rattle.git_client.specs.declared.events.Event.TheVariants as Event
use Rattle.git_client.specs.declared.events.Received.{Received}
use Rattle.git_client.specs.declared.events.ReceivedGot.{ReceivedGot}
use Rattle.git_client.specs.declared.events.ReceivedGot.TheVariants as Got
use Rattle.git_client.specs.declared.events.Sent.{Sent}
use Rattle.gitwire.specs.EventAnswers.{answering_refusal, copied_of, shown_at, announcing_none}
use Rattle.gitwire.specs.Numbers.{format_number}
use Rattle.gitwire.specs.Offers.{MeansAgent, MeansNoAgent, features_shown, is_noted}
use Rattle.gitwire.specs.Buffers.{put_before}
use Rattle.gitwire.specs.Answers.{more_of, answering, answering_fault, answering_packet, what_number}
use Rattle.gitwire.specs.declared.event.GitwireEvent.{GitwireEvent}
use Rattle.gitwire.specs.declared.answer.GitwireAnswer.{GitwireAnswer}
use Rattle.gitwire.specs.declared.answer.What.TheVariants as What

-- the endings by their numbers: the first has 1
abbrev pub endings : List Ending
endings = FlushOnly ∷ ResponseEnd ∷ []

-- the choices of a client's format by their numbers: after the formats comes any format
abbrev pub choices : List (Option Format)
choices = Some Sha1 ∷ Some Sha256 ∷ None ∷ []

-- a client by this choice that names this agent, before the first byte; one of any format has SHA-1 until it chooses
pub record IsNew (choice : Option Format) (ending : Ending) (agent : Agent) (client : Client Global) : Type 0 where
  pub converses : Converses (terms_by agent (unwrap_or choice Sha1) ending) nothing_yet client
  pub waits : wants_input client ≡ true
  pub any : is_of_any_format client ≡ is_none choice

-- a new client by this choice, or none if memory ran out
abbrev pub Begins : Option Format → Ending → Agent → ℕ → Option (Client Global) → Type 0
Begins choice ending agent answer new =
    MatchOption new (answer ≡ what_number What.OutOfMemory) (λ client. (answer ≡ what_number What.Done) × IsNew choice ending agent client)

-- the client that two numbers and the name of an agent mean; nothing changes if one of them means nothing
abbrev pub BeginsBy : Option (Option Format) → Option Ending → List ℕ → Option (Client Global) → ℕ → Option (Client Global) → Type 0
BeginsBy (Some choice) (Some ending) name old answer new =
    (MeansNoAgent name × (answer ≡ what_number What.BadValue) × (new ≡ old))
    ⊎ ((agent : Agent) × MeansAgent name agent × Begins choice ending agent answer new)
BeginsBy choice ending name old answer new = (answer ≡ what_number What.BadValue) × (new ≡ old)

-- the number of the conversation's format; 0 if it is not known
abbrev pub format_shown : Option Format → ℕ
format_shown None = 0
format_shown (Some format) = format_number format

-- a client of any format chooses it, and then the client receives more
pub record FeedsOn (old : Client Global) (chunk : List ℕ) (arrived : Received) (new : Client Global) : Type 0 where
  pub chosen : Client Global
  pub chooses : ChoosesFormat old chosen
  pub feeds : Feeds chosen chunk arrived new

-- what is reported to C for what was received, by whether bytes were expected
abbrev pub answer_of : Bool → ℕ → ReceivedGot → GitwireEvent
answer_of expected used Got.More = announcing_none used (more_of expected)
answer_of expected used (Got.Event event) = shown_at event used 0
answer_of expected used (Got.Failed fault) = answering_refusal used fault

-- the buffer: the texts of an event are at its front, except for those that stay in the chunk
abbrev pub filled_by : ReceivedGot → List ℕ → List ℕ
filled_by Got.More buffer = buffer
filled_by (Got.Event event) buffer = put_before (copied_of event) buffer
filled_by (Got.Failed fault) buffer = buffer

-- bytes of the pack or of the progress are the last of those used of the chunk
abbrev pub LieInChunk : ReceivedGot → ℕ → List ℕ → Type 0
LieInChunk (Got.Event (Event.Pack bytes)) used chunk = (front : List ℕ) × (take used chunk ≡ front ++ bytes.now)
LieInChunk (Got.Event (Event.Progress bytes)) used chunk = (front : List ℕ) × (take used chunk ≡ front ++ bytes.now)
LieInChunk got used chunk = Unit {0}

-- the client receives more, and what came is reported to C; its texts have at most as many bytes as a payload, and it determines the buffer
pub record FeedsAnswers (old : Client Global) (chunk buffer : List ℕ) (answer : GitwireEvent) (filled : List ℕ) (new : Client Global) : Type 0 where
  pub arrived : Received
  pub feeds : FeedsOn old chunk arrived new
  pub within : arrived.used ≤ length chunk
  pub fits : answer.id_length + answer.name_length + answer.text_length + answer.peeled_length ≤ longest_payload
  pub answer_is : answer ≡ answer_of (wants_input old) arrived.used arrived.got
  pub buffer_is : filled ≡ filled_by arrived.got buffer
  pub lies : LieInChunk arrived.got arrived.used chunk

-- nothing happens if the buffer is too small for the parts of some event
pub record FeedsInBuffer (old : Client Global) (chunk buffer : List ℕ) (answer : GitwireEvent) (filled : List ℕ) (new : Client Global) : Type 0 where
  pub small : length buffer < longest_payload → (answer ≡ announcing_none 0 What.BufferTooSmall) × (filled ≡ buffer) × (new ≡ old)
  pub large : longest_payload ≤ length buffer → FeedsAnswers old chunk buffer answer filled new

-- the handle has nothing: that is reported, and the buffer is unchanged
abbrev pub ReceivesNone : List ℕ → GitwireEvent → List ℕ → Type 0
ReceivesNone buffer answer filled = (answer ≡ announcing_none 0 What.NoRequest) × (filled ≡ buffer)

-- what is reported to C about what to do next
abbrev pub answer_of_sent : Sent → GitwireAnswer
answer_of_sent (Sent.Packet bytes) = answering_packet 0 0 (length bytes.now) What.Packet
answer_of_sent Sent.NeedInput = answering What.NeedInput
answer_of_sent Sent.CanAsk = answering What.CanAsk
answer_of_sent Sent.Finished = answering What.Finished
answer_of_sent (Sent.Failed fault) = answering_fault 0 fault

-- the buffer: a packet is at its front
abbrev pub filled_by_sent : Sent → List ℕ → List ℕ
filled_by_sent (Sent.Packet bytes) buffer = put_before bytes.now buffer
filled_by_sent sent buffer = buffer

-- the client returns what to do next, and that is reported to C; a packet to be sent has at most the bytes of the longest packet
pub record PullsAnswers (old : Client Global) (buffer : List ℕ) (answer : GitwireAnswer) (filled : List ℕ) (new : Client Global) : Type 0 where
  pub sent : Sent
  pub pulls : Pulls old sent new
  pub fits : length (given_by sent) ≤ 65520
  pub answer_is : answer ≡ answer_of_sent sent
  pub buffer_is : filled ≡ filled_by_sent sent buffer

-- nothing happens if the buffer is too small for the longest packet
pub record PullsInBuffer (old : Client Global) (buffer : List ℕ) (answer : GitwireAnswer) (filled : List ℕ) (new : Client Global) : Type 0 where
  pub small : length buffer < 65520 → (answer ≡ answering What.BufferTooSmall) × (filled ≡ buffer) × (new ≡ old)
  pub large : 65520 ≤ length buffer → PullsAnswers old buffer answer filled new

-- a request that the client takes
pub record TakesRequest (old : Client Global) (request : Request Global) (new : Client Global) : Type 0 where
  pub ready : can_ask old ≡ true
  pub asks : Asks old request new

-- the client refuses the request
pub record RefusesNow (old : Client Global) (request : Request Global) (answer : GitwireAnswer) (new : Client Global) : Type 0 where
  pub fault : Fault
  pub refuses : RefusesToAsk old request request fault new
  pub answer_is : answer ≡ answering_fault 0 fault

-- a request that is not taken, now or ever: it is unchanged, and so is the client
pub record LeavesRequest (old : Client Global) (request : Request Global) (answer : GitwireAnswer) (new : Client Global) (kept : Request Global) : Type 0 where
  pub not_now : can_ask old ≡ false → (answer ≡ answering What.NotNow) × (new ≡ old)
  pub refused : can_ask old ≡ true → RefusesNow old request answer new
  pub stays : kept ≡ request

-- it is reported to C whether the request was taken: if it was, its handle has none
abbrev pub AsksAnswers : Client Global → Request Global → GitwireAnswer → Client Global → Option (Request Global) → Type 0
AsksAnswers old request answer new None = (answer ≡ answering What.Done) × TakesRequest old request new
AsksAnswers old request answer new (Some kept) = LeavesRequest old request answer new kept

-- a client's handle is asked to take what a request's handle has
abbrev pub AsksIn : Option (Client Global) → Option (Request Global) → GitwireAnswer → Option (Client Global) → Option (Request Global) → Type 0
AsksIn None request answer new kept = (answer ≡ answering What.NoRequest) × (new ≡ None) × (kept ≡ request)
AsksIn (Some old) None answer new kept = (answer ≡ answering What.NoRequest) × (new ≡ Some old) × (kept ≡ None)
AsksIn (Some old) (Some request) answer new kept = IsSomeAnd new (λ client. AsksAnswers old request answer client kept)

-- it is reported to C whether the client leaves
pub record LeavesAnswers (old : Client Global) (answer : ℕ) (new : Client Global) : Type 0 where
  pub not_now : can_ask old ≡ false → (answer ≡ what_number What.NotNow) × (new ≡ old)
  pub leaves : can_ask old ≡ true → (answer ≡ what_number What.Done) × Leaves old new

-- the input ends when more was expected: at the end of the last whole packet
pub record CutsShort (old : Client Global) (answer : GitwireAnswer) (new : Client Global) : Type 0 where
  pub fault : Fault
  pub carries : ReceivesOn old [] [] new
  pub stays : fault_of new ≡ Some fault
  pub kind : fault.kind ≡ Truncated
  pub offset : (t : Terms) (h : History) (given : List Given) (rest : List ℕ) → Converses t h old → Splits 0 h.used given rest
      → fault.offset + length rest ≡ length h.used
  pub answer_is : answer ≡ answering_fault 0 fault

-- the result of the end of the input is reported to C
pub record ClosesAnswers (old : Client Global) (answer : GitwireAnswer) (new : Client Global) : Type 0 where
  pub not_now : wants_input old ≡ false → (answer ≡ answering What.NotNow) × (new ≡ old)
  pub cut : wants_input old ≡ true → CutsShort old answer new

-- a message, if there is one, is written to the buffer, if that is large enough
pub record PutsMessage (message buffer : List ℕ) (answer : GitwireAnswer) (filled : List ℕ) : Type 0 where
  pub small : length buffer < length message → (answer ≡ answering What.BufferTooSmall) × (filled ≡ buffer)
  pub large : length message ≤ length buffer → (answer ≡ answering_packet 0 0 (length message) What.Done) × (filled ≡ put_before message buffer)

abbrev pub PutsMaybe : Option (List ℕ) → List ℕ → GitwireAnswer → List ℕ → Type 0
PutsMaybe None buffer answer filled = (answer ≡ answering What.Nothing) × (filled ≡ buffer)
PutsMaybe (Some message) buffer answer filled = PutsMessage message buffer answer filled

-- the server's message about the error that ended the conversation
pub record MessageAnswers (client : Client Global) (buffer : List ℕ) (answer : GitwireAnswer) (filled : List ℕ) : Type 0 where
  pub message : Option (List ℕ)
  pub ends : (t : Terms) (h : History) → Converses t h client
      → MatchOption message (EndsWithoutMessage client) (λ content. EndsWithMessage t h.asked h.used content)
  pub puts : PutsMaybe message buffer answer filled

-- what was noted of the advertisement so far
pub record Noted (client : Client Global) : Type 0 where
  pub noted : (t : Terms) (h : History) → Converses t h client → HasNoted t h.asked h.used (caps_of client)

-- the features that were noted
pub record FeaturesAnswer (client : Client Global) (answer : ℕ) : Type 0 where
  pub answer_is : answer ≡ features_shown (caps_of client)
  pub noted : Noted client

-- whether the key of this number was noted
pub record AdvertisesAnswer (key : ℕ) (client : Client Global) (answer : Bool) : Type 0 where
  pub answer_is : answer ≡ is_noted key (caps_of client)
  pub noted : Noted client
