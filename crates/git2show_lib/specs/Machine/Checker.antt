-- A machine that judges a conversation, and what it represents: the bytes of each stream that it used, and the lines that it has lent.
use Rattle.std.specs.Prelude.{◌≡◌, ◌≢◌, ◌⊎◌, ℕ, ◌+◌, ◌≤◌, Bool, true, false, List, [], ◌∷◌, ◌++◌, length, drop, Option, Some, None, Result, Ok}
use Rattle.git_pkt.specs.Packets.{Pkt, body_of, longest_payload, spelling_of}
use Rattle.git_pkt.specs.Splits.{Given}
use Rattle.git_pkt.specs.Machine.PacketReader.{Reads, fault_of as reader_fault_of, passes_of}
use Rattle.git_pkt.specs.declared.reader.PacketReader.{PacketReader}
use Rattle.git_msg.specs.Machine.HeldRequest.{format_of}
use Rattle.git_client.specs.Parts.{Terms, terms_of}
use Rattle.git_client.specs.Machine.Client.{Converses, bytes_used, nothing_yet, spelled, wants_input}
use Rattle.git_client.specs.Machine.Gathered.{dropped, gathered}
use Rattle.git_client.specs.Machine.RunSteps.{AsksNext, ReceivesBytes, no_counts}
use Rattle.git_client.specs.declared.client.Client.{Client}
use Rattle.git_client.specs.declared.receiving.Counts.{Counts}
use Rattle.git2show_lib.specs.OtherLines.{form_asked, other}
use Rattle.git2show_lib.specs.Sieve.{sieved, sieved_packet, spot_after}
use Rattle.git2show_lib.specs.Machine.CheckFaults.{Standing}
use Rattle.git2show_lib.specs.Machine.CheckSteps.{Asking, HasReadWhole, ReadsNoMore}
use Rattle.git2show_lib.specs.Machine.CheckedStreams.{Checked, IsSieved, question_shown}
use Rattle.git2show_lib.specs.Machine.CheckerTurns.{uses_no_more}
use Rattle.git2show_lib.specs.Machine.Checking.{Checking}
use Rattle.git2show_lib.specs.Machine.JudgedRequests.{IsReady, offer_of, question_of}
use Rattle.git2show_lib.specs.Machine.KeptLines.{noted_in}
use Rattle.git2show_lib.specs.Machine.Noting.{Gathers, HasNotedLines}
use Rattle.git2show_lib.specs.Machine.OtherAnswers.{Passes}
use Rattle.git2show_lib.specs.declared.checker.Checker.{Checker}
use Rattle.git2show_lib.specs.declared.checker.Needed.{Needed}
use Rattle.git2show_lib.specs.declared.checker.Needed.TheVariants.{Lines, Input, Nothing}
use Rattle.git2show_lib.specs.declared.checker.Stream.{Stream}
use Rattle.git2show_lib.specs.declared.checker.Stream.TheVariants.{Requests as OfRequests, Responses as OfResponses}
use Rattle.git2show_lib.specs.declared.checker.Turn.{Turn}
use Rattle.git2show_lib.specs.declared.checker.Turn.TheVariants.{Opening, Request, Response, Sieved, Passing, End, Over}
use Rattle.git2show_lib.specs.declared.checking.CheckFault.{CheckFault}
use Rattle.git2show_lib.specs.declared.judged_requests.Judged.{Judged}
use Rattle.git2show_lib.specs.declared.judged_requests.JudgedRequests.{JudgedRequests}
use Rattle.git2show_lib.specs.declared.noting.Noting.{Noting}
use Rattle.git2show_lib.specs.declared.sieve.Form.{Form}
use Rattle.git2show_lib.specs.declared.sieve.Sieve.{Sieve}
use Rattle.git2show_lib.specs.declared.sieve.Spot.TheVariants.{Header}

-- what was used of a stream, and whether its end was
pub record Fed : Type 0 where
  pub bytes : List ℕ
  pub closed : Bool

abbrev pub nothing_fed : Fed
nothing_fed = record { bytes = []; closed = false }

abbrev pub fed_with : Fed → List ℕ → Fed
fed_with fed bytes = record { bytes = fed.bytes ++ bytes; closed = fed.closed }

abbrev pub fed_closed : Fed → Fed
fed_closed fed = record { bytes = fed.bytes; closed = true }

-- how a stream was left where no read failed
abbrev pub unfailed : Bool → Standing
unfailed ended = record { ended = ended; failed = false }

-- these bytes may come after those that were used: none of a stream that has ended, and none of the requests before the advertisement is whole
pub record MayFollow (opened requests_ended responses_ended : Bool) (requests responses : List ℕ) : Type 0 where
  pub unopened : opened ≡ false → requests ≡ []
  pub requests_end : requests_ended ≡ true → requests ≡ []
  pub responses_end : responses_ended ≡ true → responses ≡ []

-- the packets are no longer than a packet may be
abbrev pub AreFitting : List Pkt → Type 0
AreFitting [] = Unit {0}
AreFitting (packet ∷ packets) = (length (body_of packet) ≤ longest_payload) × AreFitting packets

-- of what a packet at this offset was passed on as, which is the last that was passed on, the client has received a part, and these bytes are left
pub record IsPartOfLast (form : Form) (given : List Given) (rest received left : List ℕ) (offset : ℕ) : Type 0 where
  pub front : List Given
  pub packet : Given
  pub given_is : given ≡ front ++ packet ∷ []
  pub at : packet.offset ≡ offset
  pub passed_as : Pkt
  pub passed_is : sieved_packet form (spot_after form Header front) packet.packet ≡ Ok (Some passed_as)
  pub no_rest : rest ≡ []
  pub part : List ℕ
  pub received_is : received ≡ spelled (sieved form front) ++ part
  pub part_is : spelling_of passed_as ≡ part ++ left

module _ {A : Type 0} (t : Terms) (limit : ℕ) where
  -- the advertisement is received
  pub record IsOpening (responses lines : List ℕ) (client : Client A) (counts : Counts) (notes : Noting A) : Type 0 where
    pub first : Client A
    pub anew : Converses t nothing_yet first
    pub first_waits : wants_input first ≡ true
    pub bytes : ReceivesBytes false first client no_counts counts responses (gathered [] lines) dropped dropped
    pub waits : wants_input client ≡ true
    pub noted : HasNotedLines responses notes
    pub gathers : Gathers notes

  -- the next request is expected, or a part of it was read
  pub record IsReading (requests responses lines : List ℕ) (client : Client A) (stream : JudgedRequests A) (passed : ℕ) : Type 0 where
    pub checking : Checking t limit client stream passed [] requests responses lines
    pub ready : IsReady stream

  -- a request was read and asked, which brought these lines; since then these last bytes of the responses were used
  pub record IsAsked (requests responses lines used : List ℕ) (client : Client A) (stream : JudgedRequests A) (passed : ℕ) : Type 0 where
    pub old : Client A
    pub judged : Judged A
    pub before : List ℕ
    pub held : List ℕ
    pub checking : Checking t limit old stream passed (question_of judged ∷ []) requests before held
    pub read : HasReadWhole stream
    pub responses_are : responses ≡ before ++ used
    pub asks : AsksNext false old client judged.request dropped dropped
    pub lines_are : lines ≡ held ++ question_shown (question_of judged)
    pub expected : wants_input client ≡ true

  -- the form of the response that it asked for
  abbrev pub form_of : {requests responses lines used : List ℕ} {client : Client A} {stream : JudgedRequests A} {passed : ℕ}
      → IsAsked requests responses lines used client stream passed → Option Form
  form_of asked = form_asked t.format (noted_in asked.judged.others).asks

  -- the response is received as it comes
  pub record IsReceiving (requests responses lines : List ℕ) (client : Client A) (counts : Counts) (stream : JudgedRequests A) (passed : ℕ) : Type 0 where
    pub middle : Client A
    pub used : List ℕ
    pub before : List ℕ
    pub asked : IsAsked requests responses before used middle stream passed
    pub plain : form_of asked ≡ None
    pub bytes : ReceivesBytes false middle client no_counts counts used (gathered before lines) dropped dropped
    pub waits : wants_input client ≡ true

  -- or by a sieve: the client has yet to receive these bytes of the packet that was passed on to it last
  pub record IsSieving (requests responses lines left : List ℕ) (client : Client A) (counts : Counts) (stream : JudgedRequests A) (passed start : ℕ)
      (sieve : Sieve) (packets : PacketReader) (offset : ℕ) : Type 0 where
    pub middle : Client A
    pub used : List ℕ
    pub before : List ℕ
    pub asked : IsAsked requests responses before used middle stream passed
    pub form_is : form_of asked ≡ Some sieve.form
    pub received : List ℕ
    pub sieves : IsSieved sieve.form used received
    pub bytes : ReceivesBytes false middle client no_counts counts received (gathered before lines) dropped dropped
    pub none_bad : sieves.bad ≡ []
    pub left_is : sieves.beyond ≡ left
    pub last : (left ≡ []) ⊎ IsPartOfLast sieve.form sieves.given sieves.rest received left offset
    pub fits : AreFitting (sieved sieve.form sieves.given)
    pub spot_is : sieve.spot ≡ spot_after sieve.form Header sieves.given
    pub reads : Reads packets 0 used sieves.given sieves.rest
    pub sound : reader_fault_of packets ≡ None
    pub gathers : passes_of packets ≡ false
    pub waits : wants_input client ≡ true
    pub start_is : start ≡ bytes_used middle

  -- the answer to a command that is not known passes
  pub record IsPassing (requests responses lines : List ℕ) (client : Client A) (stream : JudgedRequests A) (passed : ℕ) (packets : PacketReader)
      : Type 0 where
    pub before : List ℕ
    pub held : List ℕ
    pub used : List ℕ
    pub named : List ℕ
    pub checking : Checking t limit client stream passed (other named ∷ []) requests before held
    pub read : HasReadWhole stream
    pub responses_are : responses ≡ before ++ used
    pub shown : lines ≡ held ++ named
    pub passes : Passes t.ending used packets
    pub sound : reader_fault_of packets ≡ None
    pub gathers : passes_of packets ≡ false

  -- no further request comes, and whether anything is left of the responses is yet to be seen
  pub record IsEnding (requests_ended : Bool) (requests responses lines : List ℕ) (client : Client A) (stream : JudgedRequests A) (passed : ℕ)
      : Type 0 where
    pub checking : Checking t limit client stream passed [] requests responses lines
    pub over : ReadsNoMore requests_ended stream

-- the check has ended so, whatever comes after the bytes that were used
abbrev pub IsOver : (A : Type 0) → Terms → ℕ → Result (Unit {0}) CheckFault → (opened requests_ended responses_ended : Bool)
    → (requests responses lines : List ℕ) → Type 0
IsOver A t limit result opened requests_ended responses_ended requests responses lines =
    (more_requests more_responses : List ℕ) → MayFollow opened requests_ended responses_ended more_requests more_responses
    → Checked A t limit result (unfailed requests_ended) (unfailed responses_ended)
    ((requests ++ more_requests) ∷ (responses ++ more_responses) ∷ []) (lines ∷ [])

-- ---- the machine

-- the lines that are lent: those that are gathered, or else those of a request that are not known
abbrev pub first_of : (lines others : List ℕ) → List ℕ
first_of [] others = others
first_of lines others = lines

-- what is needed in a turn
abbrev pub needed_in : Turn → Needed
needed_in Request = Input OfRequests
needed_in (Over result) = Nothing
needed_in turn = Input OfResponses

-- bytes of this stream are needed, or its end
abbrev pub is_needed : Stream → Needed → Bool
is_needed OfRequests (Input OfRequests) = true
is_needed OfResponses (Input OfResponses) = true
is_needed stream needed = false

-- the verdict
abbrev pub verdict_in : Turn → Option (Result (Unit {0}) CheckFault)
verdict_in (Over result) = Some result
verdict_in turn = None

-- what was used of the requests after a step of one stream, and of the responses: of the other stream nothing was
abbrev pub requests_after : Stream → (Fed → Fed) → Fed → Fed
requests_after OfRequests step requests = step requests
requests_after OfResponses step requests = requests

abbrev pub responses_after : Stream → (Fed → Fed) → Fed → Fed
responses_after OfRequests step responses = responses
responses_after OfResponses step responses = step responses

-- how often what is left of a packet brings lines at most: once for each byte, where a response is sieved
abbrev pub lines_from : Turn → (left : ℕ) → ℕ
lines_from (Sieved start) left = left
lines_from turn left = 0

-- how often lines that wait are lent
abbrev pub lends_once : List ℕ → ℕ
lends_once [] = 0
lends_once (byte ∷ lines) = 1

module _ {A : Type 0} where
  -- the lines that wait
  abbrev pub waiting_in : Checker A → List ℕ
  waiting_in c = c.lines ++ (noted_in c.others).lines

  -- what is left of the packet that the client receives
  abbrev pub left_in : Checker A → List ℕ
  left_in c = drop c.received c.hold.items

  -- what it represents in a turn
  abbrev pub StandsIn : Turn → Terms → ℕ → (requests responses lines : List ℕ) → Checker A → Type 0
  StandsIn Opening t limit requests responses lines c =
      (requests ≡ []) × (c.passed ≡ 0) × (c.opened ≡ false) × IsOpening t limit responses lines c.client c.counts c.noting
  StandsIn Request t limit requests responses lines c =
      IsReading t limit requests responses lines c.client c.requests c.passed
      × (waiting_in c ≢ [] → Asking c.requests (λ used left rest. (left ≡ []) × (rest ≡ [])))
  StandsIn Response t limit requests responses lines c = IsReceiving t limit requests responses lines c.client c.counts c.requests c.passed
  StandsIn (Sieved start) t limit requests responses lines c =
      IsSieving t limit requests responses lines (left_in c) c.client c.counts c.requests c.passed start c.sieve c.packets
      c.offset
      × (waiting_in c ≡ [] → left_in c ≡ [])
  StandsIn Passing t limit requests responses lines c =
      IsPassing t limit requests responses lines c.client c.requests c.passed c.packets
  StandsIn End t limit requests responses lines c =
      IsEnding t limit c.requests_ended requests responses lines c.client c.requests c.passed
  StandsIn (Over result) t limit requests responses lines c =
      IsOver A t limit result c.opened c.requests_ended c.responses_ended requests responses lines

  -- It used this of the requests and this of the responses, and has lent these lines.
  pub record Checks (t : Terms) (limit : ℕ) (requests responses : Fed) (lent : List ℕ) (c : Checker A) : Type 0 where
    pub terms : t ≡ terms_of c.format c.ending
    pub limit_is : limit ≡ c.limits.args
    pub requests_closed : c.requests_ended ≡ requests.closed
    pub responses_closed : c.responses_ended ≡ responses.closed
    pub stands : StandsIn c.turn t limit requests.bytes responses.bytes (lent ++ waiting_in c) c

  -- of what conversation it is a check, and which streams of that have ended
  abbrev pub IsCheckOf : Terms → ℕ → (requests responses : Fed) → Checker A → Type 0
  IsCheckOf t limit requests responses c =
      (t ≡ terms_of c.format c.ending) × (limit ≡ c.limits.args) × (c.requests_ended ≡ requests.closed) × (c.responses_ended ≡ responses.closed)

  -- the lines that it lends
  abbrev pub lent_by : Checker A → List ℕ
  lent_by c = first_of c.lines (noted_in c.others).lines

  -- what it needs next
  abbrev pub needed_by : Checker A → List ℕ → Needed
  needed_by c [] = needed_in c.turn
  needed_by c lines = Lines

  abbrev pub needed_of : Checker A → Needed
  needed_of c = needed_by c (lent_by c)

  -- at most how often lines will be taken before it needs something else
  abbrev pub lines_left : Checker A → ℕ
  lines_left c = lines_from c.turn (length (left_in c)) + lends_once c.lines + lends_once (noted_in c.others).lines

  -- the advertisement is whole, which stays so
  abbrev pub is_opened : Checker A → Bool
  is_opened c = c.opened

  abbrev pub StaysOpened : (old new : Checker A) → Type 0
  StaysOpened old new = is_opened old ≡ true → is_opened new ≡ true

  -- it uses no more bytes of this stream, which stays so
  abbrev pub is_done_with : Stream → Checker A → Bool
  is_done_with stream c = uses_no_more stream c.turn

  abbrev pub StaysDone : (old new : Checker A) → Type 0
  StaysDone old new = (stream : Stream) → is_done_with stream old ≡ true → is_done_with stream new ≡ true

  -- how it judged
  abbrev pub verdict_of : Checker A → Option (Result (Unit {0}) CheckFault)
  verdict_of c = verdict_in c.turn

  -- it has judged what it used of both streams, whatever comes after that, and has lent all lines
  abbrev pub HasJudged : Terms → ℕ → Result (Unit {0}) CheckFault → (requests responses : Fed) → (lent : List ℕ) → Checker A → Type 0
  HasJudged t limit result requests responses lent c =
      IsOver A t limit result (is_opened c) requests.closed responses.closed requests.bytes responses.bytes lent

  -- of this stream alone more was used, as this step has it
  abbrev pub Leads : Stream → (step : Fed → Fed) → (old new : Checker A) → Type 0
  Leads from step old new =
      (t : Terms) (limit : ℕ) (requests responses : Fed) (lent : List ℕ) → Checks t limit requests responses lent old
      → Checks t limit (requests_after from step requests) (responses_after from step responses) lent new

  -- bytes of this stream were used, or its end
  abbrev pub Carries : Stream → (bytes : List ℕ) → (old new : Checker A) → Type 0
  Carries from bytes old new = Leads from (λ (fed : Fed). fed_with fed bytes) old new

  abbrev pub CarriesEnd : Stream → (old new : Checker A) → Type 0
  CarriesEnd from old new = Leads from fed_closed old new

  -- the lines that it lent were taken
  abbrev pub CarriesLines : (old new : Checker A) → Type 0
  CarriesLines old new =
      (t : Terms) (limit : ℕ) (requests responses : Fed) (lent : List ℕ) → Checks t limit requests responses lent old
      → Checks t limit requests responses (lent ++ lent_by old) new

  -- no line waits, and the client receives what is left for it of a packet
  abbrev pub PassesOn : (start : ℕ) → (old new : Checker A) → Type 0
  PassesOn start old new =
      (t : Terms) (limit : ℕ) (requests responses : Fed) (lent : List ℕ) → IsCheckOf t limit requests responses old
      → IsSieving t limit requests.bytes responses.bytes (lent ++ waiting_in old) (left_in old) old.client old.counts old.requests old.passed start
      old.sieve old.packets old.offset → Checks t limit requests responses lent new

  -- a request was read, and was asked or refused
  abbrev pub AsksOn : Judged A → (old new : Checker A) → Type 0
  AsksOn judged old new =
      (t : Terms) (limit : ℕ) (requests responses : Fed) (lines : List ℕ) → IsCheckOf t limit requests responses old
      → Checking t limit old.client old.requests old.passed (question_of judged ∷ []) requests.bytes responses.bytes lines
      → HasReadWhole old.requests → format_of judged.request ≡ (offer_of old.requests).format → Checks t limit requests responses lines new
