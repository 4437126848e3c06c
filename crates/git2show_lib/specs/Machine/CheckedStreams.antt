-- What a check of two recorded streams results in: what the requests ask, what the responses to them contain, and how it ended.
use Rattle.std.specs.Prelude.{◌≡◌, ◌≢◌, ◌⊎◌, ℕ, ◌+◌, ◌-◌, ◌<◌, ◌≤◌, min, All, Bool, true, false, List, [], ◌∷◌, ◌++◌, length}
use Rattle.std.specs.Prelude.{Option, Some, None, Result, Ok, Err}
use Rattle.git_names.specs.declared.object_format.Format.{Format}
use Rattle.git_pkt.specs.Packets.{Pkt, spelling_of}
use Rattle.git_pkt.specs.Splits.{Given, Splits}
use Rattle.git_pkt.specs.Faults.{IsOpen}
use Rattle.git_pkt.specs.Streams.{IsTimely}
use Rattle.git_pkt.specs.declared.fault.Fault.{Fault}
use Rattle.git_pkt.specs.declared.fault.RunFault.{RunFault}
use Rattle.git_pkt.specs.declared.fault.RunFault.TheVariants.{ReadFault as RunReadFault, WriteFault as RunWriteFault, ReadLimit as RunReadLimit, Refused}
use Rattle.git_pkt.specs.declared.fault.Kind.TheVariants.{Truncated, UnexpectedPacket}
use Rattle.git_msg.specs.Advertisement.{noted_offer, offers_command}
use Rattle.git_msg.specs.Asked.{Asked, command_asked}
use Rattle.git_msg.specs.Machine.HeldRequest.{asked_of, format_of}
use Rattle.git_msg.specs.Requests.{IsStop}
use Rattle.git_msg.specs.declared.offers.Caps.{Caps}
use Rattle.git_msg.specs.declared.offers.Offer.{Offer}
use Rattle.git_msg.specs.declared.requests.Request.{Request}
use Rattle.git_client.specs.Machine.Client.{History, spelled}
use Rattle.git_client.specs.Conversation.{FirstMalformed, GoesOn, HasEvents, HasNoted, IsConversation}
use Rattle.git_client.specs.Events.{EventValue, turns_of}
use Rattle.git_client.specs.Parts.{Terms}
use Rattle.git_client.specs.Machine.Runs.{IsMalformed, IsRefusedRequest}
use Rattle.git_client.specs.Machine.RunSteps.{IsOneTurn}
use Rattle.git_client.specs.Transcript.{asked_line, transcript_from}
use Rattle.git2show_lib.specs.Others.{Advertised, BreakOff, HasLines, IsAnswerBegun, IsOtherAnswer, judged_of}
use Rattle.git2show_lib.specs.OtherLines.{Noted, Question, known, other, form_asked}
use Rattle.git2show_lib.specs.Sieve.{ArePassed, sieved, sieved_packet, spot_after}
use Rattle.git2show_lib.specs.declared.sieve.Form.{Form}
use Rattle.git2show_lib.specs.declared.sieve.Spot.TheVariants.{Header}
use Rattle.git2show_lib.specs.Machine.CheckFaults.{Standing}
use Rattle.git2show_lib.specs.Machine.JudgedRequests.{AreAskedBy, IsBegun, IsRefused}
use Rattle.git2show_lib.specs.Machine.Noting.{IsLost}
use Rattle.git2show_lib.specs.declared.checking.CheckFault.{CheckFault}
use Rattle.git2show_lib.specs.declared.checking.CheckFault.TheVariants.{Requests, Responses, ReadFault, WriteFault, ReadLimit}

-- a fault that was met in receiving or asking, as the check reports it
abbrev pub of_responses : RunFault → CheckFault
of_responses RunReadFault = ReadFault
of_responses RunWriteFault = WriteFault
of_responses RunReadLimit = ReadLimit
of_responses (Refused fault) = Responses fault

-- a fault of bytes that come after so many others, at its offset or the largest number
abbrev pub moved : ℕ → Fault → Fault
moved before fault = record { kind = fault.kind; offset = min (fault.offset + before) 18446744073709551615 }

-- ---- what was found in the streams

-- the requests: the bytes that were used and those read after them, what they ask, or that it is nothing that is known, and what comes
-- after the last whole request
pub record Found : Type 0 where
  pub used : List ℕ
  pub unused : List ℕ
  pub asked : List Question
  pub left : List Given
  pub rest : List ℕ

-- a request, and what came for it: these bytes, those that a client received of them, and their events
pub record Turn : Type 0 where
  pub question : Question
  pub bytes : List ℕ
  pub received : List ℕ
  pub events : List EventValue

-- what a client was asked
abbrev pub known_of : Question → List Asked
known_of (known q noted) = q ∷ []
known_of (other lines) = []

abbrev pub questions_in : List Turn → List Question
questions_in [] = []
questions_in (turn ∷ turns) = turn.question ∷ questions_in turns

abbrev pub asked_in : List Turn → List Asked
asked_in [] = []
asked_in (turn ∷ turns) = known_of turn.question ++ asked_in turns

abbrev pub bytes_in : List Turn → List ℕ
bytes_in [] = []
bytes_in (turn ∷ turns) = turn.bytes ++ bytes_in turns

abbrev pub received_in : List Turn → List ℕ
received_in [] = []
received_in (turn ∷ turns) = turn.received ++ received_in turns

abbrev pub events_in : List Turn → List EventValue
events_in [] = []
events_in (turn ∷ turns) = turn.events ++ events_in turns

-- how many bytes the client did not receive
abbrev pub passed_in : List Turn → ℕ
passed_in [] = 0
passed_in (turn ∷ turns) = (length turn.bytes - length turn.received) + passed_in turns

-- the form in which the response to a request comes, if it asked for one that the client does not know
abbrev pub form_of : Format → Question → Option Form
form_of format (known q noted) = form_asked format noted.asks
form_of format (other lines) = None

abbrev pub last_form : Format → List Turn → Option Form
last_form format [] = None
last_form format (turn ∷ []) = form_of format turn.question
last_form format (turn ∷ turns) = last_form format turns

-- of the packets of a response in such a form, and perhaps one that is refused, the client received these bytes, and not all of the last
pub record IsSieved (form : Form) (bytes received : List ℕ) : Type 0 where
  pub given : List Given
  pub bad : List Given
  pub rest : List ℕ
  pub beyond : List ℕ
  pub splits : Splits 0 bytes (given ++ bad) rest
  pub passed : ArePassed form Header given
  pub cut : spelled (sieved form given) ≡ received ++ beyond

-- the client received these bytes of a response: all, or what is left for it
abbrev pub Receives : Option Form → (bytes received : List ℕ) → Type 0
Receives None bytes received = received ≡ bytes
Receives (Some form) bytes received = IsSieved form bytes received

-- and nothing is left of it
abbrev pub ReceivesAll : Option Form → (bytes received : List ℕ) → Type 0
ReceivesAll None bytes received = received ≡ bytes
ReceivesAll (Some form) bytes received =
    (given : List Given) × Splits 0 bytes given [] × ArePassed form Header given × (spelled (sieved form given) ≡ received)

-- what comes for a request: the bytes of its response and the events of that, as far as it came; or a whole answer that passes, where the
-- command is not known
abbrev pub Comes : Terms → Question → (bytes received : List ℕ) → List EventValue → Type 0
Comes t (known q noted) bytes received events =
    Receives (form_asked t.format noted.asks) bytes received × ((whole : Bool) × IsOneTurn events whole)
Comes t (other lines) bytes received events = IsOtherAnswer t.ending bytes × (received ≡ []) × (events ≡ [])

-- all of the response came
abbrev pub HasEnded : Terms → Question → (bytes received : List ℕ) → List EventValue → Type 0
HasEnded t (known q noted) bytes received events = ReceivesAll (form_asked t.format noted.asks) bytes received × IsOneTurn events true
HasEnded t (other lines) bytes received events = Unit {0}

-- and so of each turn
abbrev pub AllEnded : Terms → List Turn → Type 0
AllEnded t turns = All (λ turn. HasEnded t turn.question turn.bytes turn.received turn.events) turns

-- after the advertisement and earlier turns, in which all that was asked was answered, a turn comes
pub record MayCome (t : Terms) (opening : List ℕ) (greeting : List EventValue) (earlier : List Turn) (turn : Turn) : Type 0 where
  pub answered : IsConversation t (asked_in earlier) (opening ++ received_in earlier) (greeting ++ events_in earlier)
  pub greeted : IsOneTurn greeting true
  pub ended : AllEnded t earlier
  pub comes : Comes t turn.question turn.bytes turn.received turn.events

abbrev pub ComeInTurn : Terms → List ℕ → List EventValue → (earlier turns : List Turn) → Type 0
ComeInTurn t opening greeting earlier [] = Unit {0}
ComeInTurn t opening greeting earlier (turn ∷ turns) =
    MayCome t opening greeting earlier turn × ComeInTurn t opening greeting (earlier ++ turn ∷ []) turns

-- a request for a command that is not known, by its line, and what came of the answer, which is not whole
pub record Begun : Type 0 where
  pub lines : List ℕ
  pub bytes : List ℕ

abbrev pub bytes_begun : Option Begun → List ℕ
bytes_begun None = []
bytes_begun (Some begun) = begun.bytes

abbrev pub lines_begun : Option Begun → List ℕ
lines_begun None = []
lines_begun (Some begun) = begun.lines

-- the responses: the advertisement and its events, what came for each request, and such an answer
pub record Received : Type 0 where
  pub opening : List ℕ
  pub greeting : List EventValue
  pub turns : List Turn
  pub begun : Option Begun

-- where what comes after these turns begins: after what the client received and what it did not
abbrev pub place_after : (opening : List ℕ) → List Turn → ℕ
place_after opening turns = length (opening ++ received_in turns) + passed_in turns

-- all of their bytes before that answer
abbrev pub whole_of : Received → List ℕ
whole_of r = r.opening ++ bytes_in r.turns

-- of the responses a client that was asked this received these bytes, which have these events
pub record AreReceived (t : Terms) (asked : List Asked) (used : List ℕ) (events : List EventValue) (r : Received) : Type 0 where
  pub asked_is : asked ≡ asked_in r.turns
  pub used_is : used ≡ r.opening ++ received_in r.turns
  pub events_are : events ≡ r.greeting ++ events_in r.turns
  pub one_turn : (whole : Bool) × IsOneTurn r.greeting whole
  pub in_turn : ComeInTurn t r.opening r.greeting [] r.turns

-- ---- the transcript

-- the lines of a request: its command's, and then those of what it has that is not known, in the order in which that came
abbrev pub question_shown : Question → List ℕ
question_shown (known q noted) = asked_line (command_asked q) ++ noted.lines
question_shown (other lines) = lines

-- the lines of the advertisement, or of a response
abbrev pub events_shown : List EventValue → List ℕ
events_shown events = transcript_from [] 0 0 events

-- the lines of a turn
abbrev pub turn_shown : Turn → List ℕ
turn_shown turn = question_shown turn.question ++ events_shown turn.events

abbrev pub turns_shown : List Turn → List ℕ
turns_shown [] = []
turns_shown (turn ∷ turns) = turn_shown turn ++ turns_shown turns

-- all lines
abbrev pub received_shown : Received → List ℕ
received_shown r = (events_shown r.greeting ++ turns_shown r.turns) ++ lines_begun r.begun

-- a whole advertisement is at the head of the bytes, and this is offered by it, and advertised beside what is known
pub record IsOffered (t : Terms) (bytes : List ℕ) (by : Advertised) : Type 0 where
  pub advertised : List ℕ
  pub more : List ℕ
  pub events : List EventValue
  pub caps : Caps
  pub cut : bytes ≡ advertised ++ more
  pub whole : IsConversation t [] advertised events
  pub noted : HasNoted t [] advertised caps
  pub offers : by.offer ≡ noted_offer caps t.format
  pub lines : HasLines advertised by.text

-- nothing was read of the requests
pub record AreUnread (found : Found) : Type 0 where
  pub nothing_used : found.used ≡ []
  pub nothing_waits : found.unused ≡ []

-- just the requests that were read came in turn, and no further one is begun
pub record AreAllAsked (r : Received) (found : Found) : Type 0 where
  pub asked : found.asked ≡ questions_in r.turns
  pub nothing_left : found.left ≡ []
  pub no_rest : found.rest ≡ []
  pub nothing_begun : r.begun ≡ None

-- the requests that were read came in turn, and what came for each is whole
pub record AreAnswered (t : Terms) (h : History) (r : Received) (found : Found) : Type 0 where
  pub asked : found.asked ≡ questions_in r.turns
  pub ended : AllEnded t r.turns
  pub nothing_begun : r.begun ≡ None
  pub whole : IsConversation t h.asked h.used h.events

-- so did those before the last one, whose command is not known
pub record IsOtherExpected (t : Terms) (h : History) (r : Received) (begun : Begun) (found : Found) : Type 0 where
  pub asked : found.asked ≡ questions_in r.turns ++ other begun.lines ∷ []
  pub is_begun : r.begun ≡ Some begun
  pub nothing_left : found.left ≡ []
  pub no_rest : found.rest ≡ []
  pub whole : IsConversation t h.asked h.used h.events

-- no request comes any more: a flush comes instead of one, or they ended after a whole one
abbrev pub AreOver : List ℕ → Bool → Found → Type 0
AreOver text ended found =
    (found.rest ≡ []) × (IsStop (judged_of text found.left) ⊎ ((found.left ≡ []) × (found.unused ≡ []) × (ended ≡ true)))

-- ---- how a check ended

-- each request was asked and answered, and nothing is left of the responses
pub record IsWhole (t : Terms) (by : Advertised) (requests responses : Standing) (unused : List ℕ) (h : History) (r : Received) (found : Found) : Type 0 where
  pub answered : AreAnswered t h r found
  pub over : AreOver by.text requests.ended found
  pub nothing_left : unused ≡ []
  pub ended : responses.ended ≡ true

-- what comes instead of a request is refused, where each before it was answered: truncated only where the requests have
-- ended, and too long only where one more byte of them was read
pub record IsBadRequest (t : Terms) (by : Advertised) (limit : ℕ) (requests responses : Standing) (h : History) (r : Received) (found : Found)
    (fault : Fault) : Type 0 where
  pub answered : AreAnswered t h r found
  pub refused : IsRefused by limit found.left found.rest (length found.used) fault
  pub timely : IsTimely fault.kind requests.ended found.unused
  pub more_can_come : responses.ended ≡ false

-- the responses are refused for their first fault, before the next request is read
pub record IsBadResponse (t : Terms) (responses : Standing) (unused : List ℕ) (h : History) (r : Received) (found : Found) (fault : Fault) : Type 0 where
  pub all_asked : AreAllAsked r found
  pub plain : last_form t.format r.turns ≡ None
  pub malformed : IsMalformed t responses.ended unused h fault

-- the bytes of a sieved response break off after its packets
pub record SieveBreaksOff (t : Terms) (h : History) (ended : Bool) (unused bytes : List ℕ) {form : Form} {received : List ℕ}
    (s : IsSieved form bytes received) (fault : Fault) : Type 0 where
  pub none_bad : s.bad ≡ []
  pub all : s.beyond ≡ []
  pub goes_on : GoesOn t h.asked h.used h.events
  pub breaks : BreakOff s.rest (length bytes) fault
  pub timely : IsTimely fault.kind ended unused

-- its last packet is refused, and the client received nothing of it
pub record SieveRefuses (t : Terms) (h : History) {form : Form} {bytes received : List ℕ} (s : IsSieved form bytes received) (fault : Fault) : Type 0 where
  pub packet : Given
  pub bad_is : s.bad ≡ packet ∷ []
  pub no_rest : s.rest ≡ []
  pub all : s.beyond ≡ []
  pub goes_on : GoesOn t h.asked h.used h.events
  pub refused : sieved_packet form (spot_after form Header s.given) packet.packet ≡ Err fault.kind
  pub at : fault.offset ≡ packet.offset

-- or the client refuses what it received for the last packet
pub record SieveRefusesLater (t : Terms) (h : History) {form : Form} {bytes received : List ℕ} (s : IsSieved form bytes received) (fault : Fault) : Type 0 where
  pub front : List Given
  pub packet : Given
  pub given_is : s.given ≡ front ++ packet ∷ []
  pub none_bad : s.bad ≡ []
  pub no_rest : s.rest ≡ []
  pub passed_as : Pkt
  pub passed_is : sieved_packet form (spot_after form Header front) packet.packet ≡ Ok (Some passed_as)
  pub part : List ℕ
  pub received_is : received ≡ spelled (sieved form front) ++ part
  pub part_is : spelling_of passed_as ≡ part ++ s.beyond
  pub own : Fault
  pub first : FirstMalformed t h.asked h.used own
  pub kind_is : own.kind ≡ fault.kind
  pub not_the_end : own.kind ≢ Truncated
  pub at : fault.offset ≡ packet.offset

-- the last response, which is sieved, is refused for its first fault
pub record IsBadSieved (t : Terms) (responses : Standing) (unused : List ℕ) (h : History) (r : Received) (found : Found) (earlier : List Turn) (fault : Fault)
    : Type 0 where
  pub all_asked : AreAllAsked r found
  pub last : Turn
  pub turns_are : r.turns ≡ earlier ++ last ∷ []
  pub form : Form
  pub form_is : form_of t.format last.question ≡ Some form
  pub s : IsSieved form last.bytes last.received
  pub why : SieveBreaksOff t h responses.ended unused last.bytes s fault ⊎ (SieveRefuses t h s fault ⊎ SieveRefusesLater t h s fault)

-- the last request that was read, of the object format that is offered, can't be asked
pub record IsBadQuestion (A : Type 0) (t : Terms) (offer : Offer) (h : History) (r : Received) (found : Found) (fault : Fault) : Type 0 where
  pub request : Request A
  pub noted : Noted
  pub format : format_of request ≡ offer.format
  pub asked : found.asked ≡ questions_in r.turns ++ known (asked_of request) noted ∷ []
  pub nothing_left : found.left ≡ []
  pub no_rest : found.rest ≡ []
  pub nothing_begun : r.begun ≡ None
  pub refused : IsRefusedRequest t (request ∷ []) h fault

-- the advertisement is whole, and a line of it was not kept: for the limit, or for want of memory
pub record IsUnnoted (t : Terms) (h : History) (r : Received) (found : Found) (fault : Fault) : Type 0 where
  pub answered : AreAnswered t h r found
  pub none_asked : r.turns ≡ []
  pub why : IsLost fault.kind
  pub at : fault.offset ≡ length h.used

-- more of the responses was read than was asked for
pub record IsLeftOver (t : Terms) (by : Advertised) (requests : Standing) (unused : List ℕ) (h : History) (r : Received) (found : Found)
    (fault : Fault) : Type 0 where
  pub answered : AreAnswered t h r found
  pub over : AreOver by.text requests.ended found
  pub more : 0 < length unused
  pub fault_is : fault ≡ record { kind = UnexpectedPacket; offset = length h.used }

-- the answer to a command that is not known breaks off
pub record IsBadAnswer (t : Terms) (responses : Standing) (unused : List ℕ) (h : History) (r : Received) (found : Found) (fault : Fault) : Type 0 where
  pub begun : Begun
  pub expected : IsOtherExpected t h r begun found
  pub rest : List ℕ
  pub begins : IsAnswerBegun t.ending begun.bytes rest
  pub breaks : BreakOff rest (length begun.bytes) fault
  pub timely : IsTimely fault.kind responses.ended unused

-- the line of a request for a command that is not known is written
pub record IsBeingShown (t : Terms) (h : History) (r : Received) (found : Found) : Type 0 where
  pub begun : Begun
  pub expected : IsOtherExpected t h r begun found
  pub none_came : begun.bytes ≡ []

-- the last response, which is sieved, goes on, and so does what the client received of it
pub record IsSievedSoFar (t : Terms) (r : Received) (form : Form) : Type 0 where
  pub earlier : List Turn
  pub last : Turn
  pub turns_are : r.turns ≡ earlier ++ last ∷ []
  pub form_is : form_of t.format last.question ≡ Some form
  pub s : IsSieved form last.bytes last.received
  pub none_bad : s.bad ≡ []
  pub all : s.beyond ≡ []
  pub still_open : IsOpen s.rest

abbrev pub IsSoFar : Terms → Received → Option Form → Type 0
IsSoFar t r None = Unit {0}
IsSoFar t r (Some form) = IsSievedSoFar t r form

-- more is expected of the advertisement or of a response
pub record IsWithinResponse (t : Terms) (unused : List ℕ) (h : History) (r : Received) (found : Found) : Type 0 where
  pub all_asked : AreAllAsked r found
  pub so_far : IsSoFar t r (last_form t.format r.turns)
  pub all_used : unused ≡ []
  pub goes_on : GoesOn t h.asked h.used h.events

-- or of the answer to a command that is not known
pub record IsWithinAnswer (t : Terms) (unused : List ℕ) (h : History) (r : Received) (found : Found) : Type 0 where
  pub begun : Begun
  pub expected : IsOtherExpected t h r begun found
  pub all_used : unused ≡ []
  pub rest : List ℕ
  pub begins : IsAnswerBegun t.ending begun.bytes rest
  pub still_open : IsOpen rest

-- a request is begun, or can come
pub record IsWithinRequest (t : Terms) (by : Advertised) (limit : ℕ) (requests responses : Standing) (h : History) (r : Received) (found : Found) : Type 0 where
  pub answered : AreAnswered t h r found
  pub begun : IsBegun by limit found.left
  pub still_open : IsOpen found.rest
  pub all_used : found.unused ≡ []
  pub can_come : requests.ended ≡ false
  pub more_can_come : responses.ended ≡ false

-- whether a byte is left over was not seen
pub record IsAtTheEnd (t : Terms) (by : Advertised) (requests : Standing) (unused : List ℕ) (h : History) (r : Received) (found : Found) : Type 0 where
  pub answered : AreAnswered t h r found
  pub over : AreOver by.text requests.ended found
  pub nothing_left : unused ≡ []

-- nothing is wrong so far, and a read is next: of the responses, of the requests, or of what is left over
abbrev pub IsCutOff : Terms → Advertised → ℕ → (of_requests of_responses : Type 0) → Standing → Standing → List ℕ → History → Received → Found → Type 0
IsCutOff t by limit of_requests of_responses requests responses unused h r found =
    ((IsWithinResponse t unused h r found ⊎ IsWithinAnswer t unused h r found) × of_responses)
    ⊎ ((IsWithinRequest t by limit requests responses h r found × of_requests) ⊎ (IsAtTheEnd t by requests unused h r found × of_responses))

-- what is wrong with what a client received, or may not ask
abbrev pub IsBad : (A : Type 0) → Terms → Advertised → Standing → Standing → List ℕ → History → Received → Found → Fault → Type 0
IsBad A t by requests responses unused h r found fault =
    IsBadResponse t responses unused h r found fault
    ⊎ (IsUnnoted t h r found fault ⊎ (IsBadQuestion A t by.offer h r found fault ⊎ IsLeftOver t by requests unused h r found fault))

-- a fault that was met, and how it is reported: after all that passed by the client, or of an answer that passes after all before it
pub record IsReported (met : Fault → Type 0) (before : ℕ) (fault : Fault) : Type 0 where
  pub own : Fault
  pub is : met own
  pub reported : fault ≡ moved before own

-- how a check ended
abbrev pub EndsAs : (A : Type 0) → Terms → Advertised → ℕ → Result (Unit {0}) CheckFault → Standing → Standing → List ℕ → History → Received → Found → Type 0
EndsAs A t by limit (Ok done) requests responses unused h r found = IsWhole t by requests responses unused h r found
EndsAs A t by limit (Err (Requests fault)) requests responses unused h r found = IsBadRequest t by limit requests responses h r found fault
EndsAs A t by limit (Err (Responses fault)) requests responses unused h r found =
    IsReported (IsBad A t by requests responses unused h r found) (passed_in r.turns) fault
    ⊎ (IsReported (IsBadAnswer t responses unused h r found) (place_after r.opening r.turns) fault
    ⊎ ((earlier : List Turn) × IsReported (IsBadSieved t responses unused h r found earlier) (place_after r.opening earlier) fault))
EndsAs A t by limit (Err ReadFault) requests responses unused h r found =
    IsCutOff t by limit (requests.failed ≡ true) (responses.failed ≡ true) requests responses unused h r found
EndsAs A t by limit (Err WriteFault) requests responses unused h r found = AreAllAsked r found ⊎ IsBeingShown t h r found
EndsAs A t by limit (Err ReadLimit) requests responses unused h r found =
    IsCutOff t by limit (Unit {0}) (responses.ended ≡ false) requests responses unused h r found

-- what a check has to do with the bytes of its streams: the requests are read against what the advertisement offers, and not before
-- it is whole; what is advertised beside what is known is taken as it comes, and what comes for a command that is not known passes; each
-- that counts as asked has a command that is advertised, and there are no more of them than one for the advertisement and one for each
-- whole response; what is written is the transcript, turn by turn: what was asked, what of it is not known, and what was received for it
pub record Checked (A : Type 0) (t : Terms) (limit : ℕ) (result : Result (Unit {0}) CheckFault) (requests responses : Standing)
    (read given : List (List ℕ)) : Type 0 where
  pub h : History
  pub unused : List ℕ
  pub found : Found
  pub by : Advertised
  pub r : Received
  pub were_read : read ≡ (found.used ++ found.unused) ∷ ((whole_of r ++ bytes_begun r.begun) ++ unused) ∷ []
  pub announced : given ≡ received_shown r ∷ []
  pub received : AreReceived t h.asked h.used h.events r
  pub arrived : HasEvents t h.asked h.used h.events
  pub may_be : (caps : Caps) → HasNoted t h.asked h.used caps → All (λ q. offers_command caps (command_asked q) ≡ true) h.asked
  pub in_turn : length h.asked ≤ turns_of h.events
  pub offered : IsOffered t h.used by ⊎ AreUnread found
  pub asks : AreAskedBy by limit found.used found.asked found.left found.rest
  pub ends : EndsAs A t by limit result requests responses unused h r found
