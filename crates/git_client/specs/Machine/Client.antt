-- The history that a client represents: the requests that it was asked to send, the bytes that it used, the events that it returned and the
-- bytes that it sent.
use Rattle.std.specs.Prelude.{◌≡◌, ◌≢◌, ◌⊎◌, ℕ, suc, ◌+◌, ◌-◌, ◌<◌, ◌≤◌, Bool, true, false, List, [], ◌∷◌, ◌++◌, length, map, take, drop, flat_map, Option}
use Rattle.std.specs.Prelude.{Some, None, Result, Ok, Err}
use Rattle.git_names.specs.declared.object_format.Format.{Format}
use Rattle.git_pkt.specs.Packets.{Pkt, flush, payload, Spells, spelling_of, text_of, flushes, longest_payload}
use Rattle.git_pkt.specs.Splits.{Given, Splits}
use Rattle.git_pkt.specs.Machine.Credit.{credit_of}
use Rattle.git_pkt.specs.Faults.{StopsBy, last_position}
use Rattle.git_pkt.specs.Passed.{on}
use Rattle.git_pkt.specs.Machine.PacketReader.{Reads, bytes_held as held_in_packet, position_of, ShownByFeed, is_open, held_of, fault_of as reader_fault_of}
use Rattle.git_pkt.specs.declared.band.Band.TheVariants.{Fatal}
use Rattle.git_pkt.specs.declared.fault.Fault.{Fault}
use Rattle.git_pkt.specs.declared.fault.Kind.{Kind}
use Rattle.git_pkt.specs.declared.fault.Kind.TheVariants.{RemoteError, RemoteFatal, NotAdvertised, WrongFormat, Truncated}
use Rattle.git_pkt.specs.declared.reader.PacketReader.{PacketReader}
use Rattle.git_msg.specs.Advertisement.{noted_of, noted_offer, offers_command}
use Rattle.git_msg.specs.Asked.{Asked, command_asked, AreOffered}
use Rattle.git_msg.specs.Checks.{Check, check, Refuses as RefusesBy, Passes}
use Rattle.git_msg.specs.Machine.HeldRequest.{asked_of, format_of as request_format, kept_of, limit_of as request_limit, stored_of}
use Rattle.git_msg.specs.Lines.{end_checks}
use Rattle.git_msg.specs.Texts.{IsErrorOf}
use Rattle.git_msg.specs.WrittenRequest.{lines_written}
use Rattle.git_msg.specs.Agents.{named_if}
use Rattle.git_msg.specs.declared.agent.Agent.{Agent}
use Rattle.git_msg.specs.Machine.RequestWriter.{written_of}
use Rattle.git_msg.specs.declared.offers.Caps.{Caps}
use Rattle.git_msg.specs.declared.requests.Request.{Request}
use Rattle.git_client.specs.Parts.{Terms, Part, opening, advertisement, listing, sections, informing, closing}
use Rattle.git_client.specs.Parts.{nearest, advertisement_of, message_of, is_end_expected, part_of}
use Rattle.git_client.specs.Sections.{is_empty, is_header_expected, section_of, lines_of, allowed_after, acks_in}
use Rattle.git_client.specs.Events.{EventValue, all_parts_length}
use Rattle.git_client.specs.Places.{place_after}
use Rattle.git_client.specs.Opened.{events_on, opened_in}
use Rattle.git_client.specs.Conversation.{GiveAll, RefusesAt, HasExpected}
use Rattle.git_client.specs.Machine.Turns.{takes_packets, fault_in, is_ready, has_left_in, left_in, phase_in, question_in, values_of, events_at, Fits}
use Rattle.git_client.specs.Machine.Turns.{after_acknowledgments}
use Rattle.git_client.specs.declared.sections.Section.{Section}
use Rattle.git_client.specs.declared.sections.Section.TheVariants.{Acknowledgments as AcknowledgmentsSection, ShallowInfo as ShallowInfoSection}
use Rattle.git_client.specs.declared.sections.Section.TheVariants.{WantedRefs as WantedRefsSection, Packfile as PackfileSection}
use Rattle.git_client.specs.declared.phase.Phase.{Phase}
use Rattle.git_client.specs.declared.phase.Phase.TheVariants.{Receiving, Asking, Failed as FailedPhase}
use Rattle.git_client.specs.declared.phase.Expected.{Expected}
use Rattle.git_client.specs.declared.phase.Expected.TheVariants.{Version, Capabilities, References, Header, Acknowledgments, ShallowInfo, WantedRefs}
use Rattle.git_client.specs.declared.phase.Expected.TheVariants.{Packfile, SizeLine, Sizes, ResponseEnd}
use Rattle.git_client.specs.declared.phase.LineContent.{LineContent}
use Rattle.git_client.specs.declared.phase.LineContent.TheVariants.{Nothing, Offered as OfferedContent, Ended as EndedContent}
use Rattle.git_client.specs.declared.phase.Turn.{Turn}
use Rattle.git_client.specs.declared.client.Advance.{Advance}
use Rattle.git_client.specs.declared.client.Client.{Client}
use Rattle.git_client.specs.declared.client.Outcome.{Outcome}
use Rattle.git_client.specs.declared.client.Outcome.TheVariants.{More as NothingYet, Event as EventNow, Passed as PassedNow, Failed as FailedNow}
use Rattle.git_client.specs.declared.events.Ending.{Ending}
use Rattle.git_client.specs.declared.events.Event.{Event}
use Rattle.git_client.specs.declared.events.Event.TheVariants.{Offered, Ended, Pack as PackEvent, Progress as ProgressEvent}
use Rattle.git_client.specs.declared.events.Received.{Received}
use Rattle.git_client.specs.declared.events.ReceivedGot.{ReceivedGot}
use Rattle.git_client.specs.declared.events.ReceivedGot.TheVariants.{More, Event as EventGot, Failed}
use Rattle.git_client.specs.declared.events.Sent.{Sent}
use Rattle.git_client.specs.declared.events.Sent.TheVariants.{Packet, NeedInput, CanAsk, Finished, Failed as FailedSent}

-- everything that went in and out of a client
pub record History : Type 0 where
  pub asked : List Asked
  pub left : Bool
  pub used : List ℕ
  pub events : List EventValue
  pub given : List ℕ

abbrev pub nothing_yet : History
nothing_yet = record { asked = []; left = false; used = []; events = []; given = [] }

-- the bytes of packets as they are written
abbrev pub spelled : List Pkt → List ℕ
spelled = flat_map spelling_of

-- the written form of each request, if this was advertised
abbrev pub questions_of : Terms → Caps → List Asked → List Pkt
questions_of t caps = flat_map (lines_written (named_if caps.agent t.agent) caps.object_format t.format)

-- the written form of leaving: the flush of a request for nothing
abbrev pub farewell : Bool → List Pkt
farewell true = flush ∷ []
farewell false = []

-- all that a client sends
abbrev pub sent_of : Terms → Caps → List Asked → Bool → List Pkt
sent_of t caps asked left = questions_of t caps asked ++ farewell left

-- 1 if a response end is expected, since its flush is counted already; otherwise 0
abbrev pub awaits_end : Expected → ℕ
awaits_end ResponseEnd = 1
awaits_end expected = 0

-- the packets so far end inside this section
pub record IsInside (section : Section) (message : List Pkt) : Type 0 where
  pub inside : is_header_expected message ≡ false
  pub begun : section_of message ≡ Some section

-- after these packets of a message, which belong to this part, this is expected
abbrev pub IsExpectedIn : Part → List Pkt → Expected → Type 0
IsExpectedIn opening message Version = Unit {0}
IsExpectedIn advertisement message Capabilities = Unit {0}
IsExpectedIn listing message References = Unit {0}
IsExpectedIn (sections done) message (Header allowed) = (is_header_expected message ≡ true) × (allowed ≡ allowed_after done message)
IsExpectedIn (sections done) message (Acknowledgments announced) =
    IsInside AcknowledgmentsSection message × (announced ≡ acks_in (lines_of message)) × (allowed_after done message ≡ after_acknowledgments)
IsExpectedIn (sections done) message (ShallowInfo allowed) = IsInside ShallowInfoSection message × (allowed ≡ allowed_after done message)
IsExpectedIn (sections done) message (WantedRefs allowed) = IsInside WantedRefsSection message × (allowed ≡ allowed_after done message)
IsExpectedIn (sections done) message Packfile = IsInside PackfileSection message
IsExpectedIn informing message SizeLine = is_empty message ≡ true
IsExpectedIn informing message Sizes = is_empty message ≡ false
IsExpectedIn closing message ResponseEnd = Unit {0}
IsExpectedIn part message expected = ⊥

-- this is expected after these packets, which have as many whole messages as there are requests
pub record IsExpected (t : Terms) (asked : List Asked) (before : List Pkt) (expected : Expected) : Type 0 where
  pub part : Part
  pub is_part : part_of t asked before ≡ Some part
  pub counts : flushes before ≡ length asked + awaits_end expected
  pub same_lines : flushes before ≡ 0 → message_of before ≡ advertisement_of before
  pub is_expected : IsExpectedIn part (message_of before) expected

-- the packets are a whole advertisement and a whole response to each request
pub record AreWhole (t : Terms) (asked : List Asked) (before : List Pkt) : Type 0 where
  pub all_flushes : flushes before ≡ suc (length asked)
  pub no_end_expected : is_end_expected t.ending before ≡ false
  pub no_message : message_of before ≡ []

-- the last request is being asked after the responses to all before it
pub record IsAsked (t : Terms) (asked : List Asked) (before : List Pkt) (question : Option Asked) : Type 0 where
  pub earlier : List Asked
  pub last : Asked
  pub asked_is : asked ≡ earlier ++ last ∷ []
  pub question_is : question ≡ Some last
  pub whole : AreWhole t earlier before

module _ {A : Type 0} where
  -- the number of bytes stored of a request that is being asked
  abbrev pub stored_in : Option (Request A) → ℕ
  stored_in None = 0
  stored_in (Some request) = stored_of request

  -- the number of bytes in its argument lines
  abbrev pub kept_in : Option (Request A) → ℕ
  kept_in None = 0
  kept_in (Some request) = kept_of request

  -- the maximum number of bytes in them
  abbrev pub limit_in : Option (Request A) → ℕ
  limit_in None = 0
  limit_in (Some request) = request_limit request

  -- the error that ended the conversation
  abbrev pub fault_of : Client A → Option Fault
  fault_of client = fault_in client.phase

  -- the advertisement and the response to each request are whole, and the client has not left
  abbrev pub can_ask : Client A → Bool
  can_ask client = is_ready client.phase

  -- bytes of the server are expected
  abbrev pub wants_input : Client A → Bool
  wants_input client = takes_packets client.phase

  -- the client has left the conversation
  abbrev pub has_left : Client A → Bool
  has_left client = has_left_in client.phase

  -- the object format that the client speaks
  abbrev pub format_of : Client A → Format
  format_of client = client.format

  -- it takes the object format that the server advertises
  abbrev pub is_of_any_format : Client A → Bool
  is_of_any_format client = client.of_any_format

  -- how each response ends
  abbrev pub ending_of : Client A → Ending
  ending_of client = client.ending

  -- the agent that it names
  abbrev pub agent_of : Client A → Agent
  agent_of client = client.agent

  -- the number of bytes used
  abbrev pub bytes_used : Client A → ℕ
  bytes_used client = position_of client.reader

  -- the capabilities noted from the advertisement
  abbrev pub caps_of : Client A → Caps
  caps_of client = client.caps

  -- the reader of the client's packets
  abbrev pub reader_of : Client A → PacketReader
  reader_of client = client.reader

  abbrev pub phase_of : Client A → Phase
  phase_of client = client.phase

  -- the contents of the last packet, as the judge found them
  abbrev pub content_last : Client A → LineContent
  content_last client = client.content

  -- the request that is being asked
  abbrev pub request_of : Client A → Option (Request A)
  request_of client = client.request

  -- the packets that still have to be pulled
  abbrev pub left_to_send : Client A → List Pkt
  left_to_send client = left_in client.phase client.request

  -- the number of bytes that the client has: those in the buffer of its packet reader, and those stored of the request that it asks
  abbrev pub bytes_held : Client A → ℕ
  bytes_held client = held_in_packet client.reader + stored_in client.request

  -- the same with each field named, so that no field can be added without being counted
  abbrev pub bytes_held_by_fields : Client A → ℕ
  bytes_held_by_fields client =
      let record {
        reader = reader;
        format = format;
        of_any_format = of_any_format;
        ending = ending;
        agent = agent;
        phase = phase;
        caps = caps;
        request = request;
        content = content;
        sound = sound;
        shut = shut;
        gathers = gathers;
        passes = passes;
        has_unsent = has_unsent;
        freed = freed;
        formats = formats;
        covered = covered;
        within = within;
      } = client in
      held_in_packet reader + stored_in request

  -- the number of bytes in the argument lines of that request, or 0 if there is none
  abbrev pub kept_by : Client A → ℕ
  kept_by client = kept_in client.request

  -- the limit of that request, or 0 if there is none
  abbrev pub limit_of : Client A → ℕ
  limit_of client = limit_in client.request

-- the packets that come before this phase, the nearest first
abbrev pub Behind : Terms → List Asked → List Pkt → Option Asked → Phase → Type 0
Behind t asked before question (Receiving expected) = IsExpected t asked before expected
Behind t asked before question (Asking writer) = IsAsked t asked before question
Behind t asked before question (FailedPhase fault) = ⊥
Behind t asked before question phase = AreWhole t asked before

-- the packet after the clean ones is refused; nothing was used after it, and it is in the buffer
pub record RefusedPacket (t : Terms) (asked : List Asked) (clean given : List Given) (rest : List ℕ) (fault : Fault) (reader : PacketReader) : Type 0 where
  pub bad : Given
  pub cut : given ≡ clean ++ bad ∷ []
  pub nothing : rest ≡ []
  pub refused : RefusesAt t asked (nearest clean []) bad.packet fault.kind
  pub at : fault.offset ≡ bad.offset
  pub held : Spells bad.packet (held_of reader)

-- no packet is refused, but the bytes after the packets are no packet and cannot become one, or the input ended in one
pub record RefusedBytes (t : Terms) (asked : List Asked) (clean given : List Given) (rest : List ℕ) (end : ℕ) (fault : Fault) : Type 0 where
  pub cut : given ≡ clean
  pub expected : HasExpected t asked (nearest clean [])
  pub by : StopsBy (end - length rest) rest end fault.kind fault.offset

-- the input ended after a whole packet, although more was expected
pub record EndedEarly (t : Terms) (asked : List Asked) (clean given : List Given) (rest : List ℕ) (end : ℕ) (fault : Fault) : Type 0 where
  pub cut : given ≡ clean
  pub nothing : rest ≡ []
  pub expected : HasExpected t asked (nearest clean [])
  pub kind : fault.kind ≡ Truncated
  pub at : fault.offset ≡ end

-- no packet so far has an error, and neither have the bytes after them; there are no such bytes if no input is wanted
pub record Goes (t : Terms) (asked : List Asked) (clean given : List Given) (rest : List ℕ)
    (question : Option Asked) (phase : Phase) (reader : PacketReader) : Type 0 where
  pub cut : given ≡ clean
  pub sound : reader_fault_of reader ≡ None
  pub behind : Behind t asked (nearest clean []) question phase
  pub shut : takes_packets phase ≡ false → rest ≡ []

-- the conditions on the conversation in this phase
abbrev pub StandsIn : Phase → Terms → List Asked → List Given → List Given → List ℕ → ℕ → Option Asked → PacketReader → Type 0
StandsIn (FailedPhase fault) t asked clean given rest end question reader =
    RefusedPacket t asked clean given rest fault reader
    ⊎ (RefusedBytes t asked clean given rest end fault ⊎ EndedEarly t asked clean given rest end fault)
StandsIn phase t asked clean given rest end question reader = Goes t asked clean given rest question phase reader

-- the events of a result of `feed`
abbrev pub events_of : ReceivedGot → List EventValue
events_of More = []
events_of (EventGot event) = values_of event
events_of (Failed fault) = []

-- the bytes of a result of `pull`
abbrev pub given_by : Sent → List ℕ
given_by (Packet bytes) = bytes.now
given_by sent = []

-- the phase after a packet that was judged
abbrev pub phase_judged : ℕ → Result Turn Kind → Phase
phase_judged offset (Ok turn) = phase_in turn
phase_judged offset (Err kind) = FailedPhase (record { kind = kind; offset = offset })

abbrev pub outcome_sent : LineContent → Outcome
outcome_sent Nothing = NothingYet
outcome_sent content = EventNow

abbrev pub outcome_judged : ℕ → LineContent → Result Turn Kind → Outcome
outcome_judged offset content (Ok turn) = outcome_sent content
outcome_judged offset content (Err kind) = FailedNow (record { kind = kind; offset = offset })

module _ {A : Type 0} where
  -- the conditions on a client with these terms after this history
  pub record Converses (t : Terms) (h : History) (client : Client A) : Type 0 where
    pub given : List Given
    pub rest : List ℕ
    pub clean : List Given
    pub format_is : format_of client ≡ t.format
    pub ending_is : ending_of client ≡ t.ending
    pub agent_is : agent_of client ≡ t.agent
    pub reads : Reads (reader_of client) 0 h.used given rest
    pub whole : List EventValue
    pub gives : GiveAll t h.asked [] clean whole
    pub events_are : h.events ≡ whole ++ opened_in (place_after t h.asked (nearest clean [])) rest
    pub notes : caps_of client ≡ noted_of (advertisement_of (nearest clean []))
    pub stands : StandsIn (phase_of client) t h.asked clean given rest (length h.used) (question_in (request_of client)) (reader_of client)
    pub left : h.left ≡ has_left client
    pub spoken : h.given ++ spelled (left_to_send client) ≡ spelled (sent_of t (caps_of client) h.asked h.left)

  -- whatever the history was, it continues with a request
  abbrev pub AsksOn : Client A → Asked → Client A → Type 0
  AsksOn old question new =
      (t : Terms) (h : History) → Converses t h old → Converses t (record h { asked = h.asked ++ question ∷ [] }) new

  -- it continues with leaving
  abbrev pub LeavesOn : Client A → Client A → Type 0
  LeavesOn old new = (t : Terms) (h : History) → Converses t h old → Converses t (record h { left = true }) new

  -- it continues with the bytes used and the events returned
  abbrev pub ReceivesOn : Client A → List ℕ → List EventValue → Client A → Type 0
  ReceivesOn old used more new =
      (t : Terms) (h : History) → Converses t h old → Converses t (record h { used = h.used ++ used; events = h.events ++ more }) new

  -- it continues with the bytes sent
  abbrev pub SendsOn : Client A → List ℕ → Client A → Type 0
  SendsOn old more new = (t : Terms) (h : History) → Converses t h old → Converses t (record h { given = h.given ++ more }) new

  -- the reasons to refuse a request: its format, then its command and its arguments if they are not advertised, and then the checks
  -- at a request's end
  abbrev pub ask_checks : Format → Caps → Request A → List Check
  ask_checks format caps request =
      check (request_format request ≡ format) (request_format request ≢ format) WrongFormat
      ∷ check (offers_command caps (command_asked (asked_of request)) ≡ true) (offers_command caps (command_asked (asked_of request)) ≡ false) NotAdvertised
      ∷ check (AreOffered (noted_offer caps format) (asked_of request)) (¬ AreOffered (noted_offer caps format) (asked_of request)) NotAdvertised
      ∷ end_checks (asked_of request)

  -- a request that was accepted: all of it has to be sent
  pub record Asks (old : Client A) (request : Request A) (new : Client A) : Type 0 where
    pub passes : Passes (ask_checks (format_of old) (caps_of old) request)
    pub asks : AsksOn old (asked_of request) new
    pub has_unsent : left_to_send new ≡ written_of request (caps_of old) (agent_of old)
    pub no_more : can_ask new ≡ false
    pub credit : credit_of (reader_of new) ≤ credit_of (reader_of old)

  -- a request that was refused: it is returned, and the client stays unchanged
  pub record RefusesToAsk (old : Client A) (request handed_back : Request A) (fault : Fault) (new : Client A) : Type 0 where
    pub refused : RefusesBy (ask_checks (format_of old) (caps_of old) request) fault.kind
    pub at : fault.offset ≡ bytes_used old
    pub back : handed_back ≡ request
    pub stays : new ≡ old

  -- the effect of a call of `leave`
  pub record Leaves (old new : Client A) : Type 0 where
    pub leaves : LeavesOn old new
    pub has_unsent : left_to_send new ≡ flush ∷ []
    pub no_more : has_left new ≡ true
    pub credit : credit_of (reader_of new) ≤ credit_of (reader_of old)

  -- the state that an event leaves the client in
  abbrev pub LeavesAfter : Event → Client A → Type 0
  LeavesAfter Offered new = can_ask new ≡ true
  LeavesAfter Ended new = can_ask new ≡ true
  LeavesAfter event new = wants_input new ≡ true

  -- bytes that passed: they are the last ones of those used, and all bytes of their packet from there on that the chunk, or the stream, has
  pub record IsPassed (bytes : List ℕ) (used : ℕ) (chunk : List ℕ) (new : Client A) : Type 0 where
    pub front : List ℕ
    pub lies : take used chunk ≡ front ++ bytes
    pub all : is_open (reader_of new) ≡ true → (used ≡ length chunk) ⊎ (bytes_used new ≡ last_position)

  -- after an event no packet is open, but after bytes of the pack or of the progress more of their packet may come
  abbrev pub EndsAt : Event → ℕ → List ℕ → Client A → Type 0
  EndsAt (PackEvent bytes) used chunk new = IsPassed bytes.now used chunk new
  EndsAt (ProgressEvent bytes) used chunk new = IsPassed bytes.now used chunk new
  EndsAt event used chunk new = is_open (reader_of new) ≡ false

  -- the meaning of each result of `feed`; no event is empty
  abbrev pub Announces : ReceivedGot → ℕ → List ℕ → Client A → Client A → Type 0
  Announces More used chunk old new = wants_input old ≡ true → (used ≡ length chunk) × (wants_input new ≡ true)
  Announces (EventGot event) used chunk old new =
      (0 < used) × EndsAt event used chunk new × (values_of event ≢ []) × LeavesAfter event new
  Announces (Failed fault) used chunk old new = fault_of new ≡ Some fault

  -- a client that had no error reports only an error that the chunk shows
  abbrev pub IsNews : Client A → List ℕ → Received → Type 0
  IsNews old chunk arrived = (f : Fault) → fault_of old ≡ None → arrived.got ≡ Failed f → ShownByFeed f arrived.used chunk

  -- a client with this error uses nothing and returns the error again
  abbrev pub Repeats : Client A → Received → Client A → Type 0
  Repeats old arrived new = (f : Fault) → fault_of old ≡ Some f → (arrived.used ≡ 0) × (arrived.got ≡ Failed f) × (new ≡ old)

  -- a client that waits for no input uses nothing
  abbrev pub Waits : Client A → Received → Client A → Type 0
  Waits old arrived new =
      wants_input old ≡ false → fault_of old ≡ None → (arrived.used ≡ 0) × (arrived.got ≡ More) × (new ≡ old)

  -- the effect of a call of `feed`
  pub record Feeds (old : Client A) (chunk : List ℕ) (arrived : Received) (new : Client A) : Type 0 where
    pub arrives : ReceivesOn old (take arrived.used chunk) (events_of arrived.got) new
    pub announces : Announces arrived.got arrived.used chunk old new
    pub news : IsNews old chunk arrived
    pub stays : Repeats old arrived new
    pub waits : Waits old arrived new
    pub any : is_of_any_format new ≡ is_of_any_format old

  -- one of the packets that had to be sent was sent; after the last one of a request the client receives, and after the flush it has left
  pub record GivesOne (old new : Client A) (bytes : List ℕ) : Type 0 where
    pub packet : Pkt
    pub first : left_to_send old ≡ packet ∷ left_to_send new
    pub written : bytes ≡ spelling_of packet
    pub same_leaving : has_left new ≡ has_left old
    pub sound : fault_of new ≡ None
    pub not_ready : can_ask new ≡ false

  -- the meaning of each result of `pull`
  abbrev pub AnnouncesSent : Sent → Client A → Client A → Type 0
  AnnouncesSent (Packet bytes) old new = GivesOne old new bytes.now
  AnnouncesSent NeedInput old new = (wants_input old ≡ true) × (new ≡ old)
  AnnouncesSent CanAsk old new = (can_ask old ≡ true) × (new ≡ old)
  AnnouncesSent Finished old new = (has_left old ≡ true) × (left_to_send old ≡ []) × (new ≡ old)
  AnnouncesSent (FailedSent fault) old new = (fault_of old ≡ Some fault) × (new ≡ old)

  -- the effect of a call of `pull`
  pub record Pulls (old : Client A) (sent : Sent) (new : Client A) : Type 0 where
    pub conveys : SendsOn old (given_by sent) new
    pub announces : AnnouncesSent sent old new
    pub credit : credit_of (reader_of new) ≤ credit_of (reader_of old)

  -- a client that has a packet to send has put it into its buffer
  pub record Puts (old new : Client A) : Type 0 where
    pub conveys : SendsOn old (held_of (reader_of new)) new
    pub gives : GivesOne old new (held_of (reader_of new))
    pub credit : credit_of (reader_of new) ≡ 0

-- the server's message in a payload that is refused with this error
abbrev pub IsMessage : Kind → List ℕ → List ℕ → Type 0
IsMessage RemoteError line message = IsErrorOf (text_of line) message
IsMessage RemoteFatal line message = line ≡ 3 ∷ message
IsMessage kind line message = ⊥

-- the bytes end with a packet in which the server reports an error, with this message
pub record EndsWithMessage (t : Terms) (asked : List Asked) (bytes message : List ℕ) : Type 0 where
  pub clean : List Given
  pub bad : Given
  pub rest : List ℕ
  pub line : List ℕ
  pub kind : Kind
  pub splits : Splits 0 bytes (clean ++ bad ∷ []) rest
  pub refused : RefusesAt t asked (nearest clean []) bad.packet kind
  pub packet : bad.packet ≡ payload line
  pub conveys : IsMessage kind line message

-- the names of the errors that the server reports itself
abbrev pub is_announced : Kind → Bool
is_announced RemoteError = true
is_announced RemoteFatal = true
is_announced kind = false

module _ {A : Type 0} where
  -- the conversation was not ended by an error that the server reported
  abbrev pub EndsWithoutMessage : Client A → Type 0
  EndsWithoutMessage client = (f : Fault) → fault_of client ≡ Some f → is_announced f.kind ≡ false

  -- the events of an outcome; their bytes are in the buffer, or are the last of those used
  abbrev pub Comes : Outcome → List EventValue → ℕ → List ℕ → Client A → Type 0
  Comes NothingYet events used chunk new = events ≡ []
  Comes (PassedNow passed) events used chunk new =
      (bytes : List ℕ) × (length bytes ≡ passed.count) × (0 < passed.count) × (passed.band ≢ Fatal) × IsPassed bytes used chunk new
      × (events ≡ events_on (map (on passed.band) bytes))
  Comes EventNow events used chunk new =
      (events ≡ events_at (content_last new) (drop 4 (held_of (reader_of new)))) × (content_last new ≢ Nothing)
      × Fits (content_last new) (drop 4 (held_of (reader_of new)))
  Comes (FailedNow fault) events used chunk new = events ≡ []

  -- a packet that was judged is settled; the reader stays unchanged
  pub record Settles (old : Client A) (judged : Result Turn Kind) (offset : ℕ) (outcome : Outcome) (new : Client A) : Type 0 where
    pub reader : reader_of new ≡ reader_of old
    pub format : format_of new ≡ format_of old
    pub any : is_of_any_format new ≡ is_of_any_format old
    pub ending : ending_of new ≡ ending_of old
    pub agent : agent_of new ≡ agent_of old
    pub request : request_of new ≡ request_of old
    pub phase : phase_of new ≡ phase_judged offset judged
    pub caps : caps_of new ≡ caps_of old
    pub content : content_last new ≡ content_last old
    pub announces : outcome ≡ outcome_judged offset (content_last old) judged

  -- whether the client can ask or receives more, after a packet with these contents
  abbrev pub StandsAfter : LineContent → Client A → Type 0
  StandsAfter OfferedContent new = can_ask new ≡ true
  StandsAfter EndedContent new = can_ask new ≡ true
  StandsAfter content new = wants_input new ≡ true

  -- the state that a step leaves the client in
  abbrev pub LeavesStep : Outcome → ℕ → List ℕ → Client A → Type 0
  LeavesStep NothingYet used chunk new = (wants_input new ≡ true) × (0 < length chunk → 0 < used)
  LeavesStep EventNow used chunk new = (0 < used) × (is_open (reader_of new) ≡ false) × StandsAfter (content_last new) new
  LeavesStep (PassedNow passed) used chunk new = (0 < used) × (wants_input new ≡ true)
  LeavesStep (FailedNow fault) used chunk new = (fault_of new ≡ Some fault) × ShownByFeed fault used chunk

  -- a client that waits for input has used some bytes of the chunk
  pub record Takes (old : Client A) (chunk : List ℕ) (step : Advance) (new : Client A) : Type 0 where
    pub events : List EventValue
    pub comes : Comes step.outcome events step.used chunk new
    pub arrives : ReceivesOn old (take step.used chunk) events new
    pub leaves : LeavesStep step.outcome step.used chunk new
    pub any : is_of_any_format new ≡ is_of_any_format old
    pub fits : all_parts_length events ≤ longest_payload
