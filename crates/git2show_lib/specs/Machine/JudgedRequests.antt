-- Requests of another client in a stream of bytes, read against all that its server advertised, and what a reader of them represents.
use Rattle.std.specs.Prelude.{◌≡◌, ◌⊎◌, ℕ, ◌<◌, ◌≤◌, Bool, true, false, List, [], ◌∷◌, ◌++◌, length, take, Option, Some, None, Result, Ok, Err}
use Rattle.git_pkt.specs.Packets.{Pkt, flush}
use Rattle.git_pkt.specs.Splits.{Given, Splits}
use Rattle.git_pkt.specs.Machine.PacketReader.{Reads, ReadsOn, ShownByFeed, fault_of as packet_fault, is_open, passes_of, position_of}
use Rattle.git_pkt.specs.declared.fault.Fault.{Fault}
use Rattle.git_pkt.specs.declared.reader.PacketReader.{PacketReader}
use Rattle.git_pkt.specs.declared.fault.Kind.{Kind}
use Rattle.git_pkt.specs.declared.fault.Kind.TheVariants.{OutOfMemory, Truncated}
use Rattle.git_msg.specs.Machine.HeldRequest.{asked_of, format_of}
use Rattle.git_msg.specs.Machine.RequestReader.{Takes, fault_of as reader_fault, limit_in, offer_of as offer_in}
use Rattle.git_msg.specs.Machine.RequestStreams.{IsLeftIn, IsOne, IsRefusedAs}
use Rattle.git_msg.specs.Machine.StreamStages.{HasTaken}
use Rattle.git_msg.specs.Requests.{AreBegun}
use Rattle.git_msg.specs.declared.offers.Offer.{Offer}
use Rattle.git_msg.specs.declared.reader.ReadGot.{ReadGot}
use Rattle.git_msg.specs.declared.reader.ReadGot.TheVariants as OfReader
use Rattle.git_msg.specs.declared.streams.Stage.TheVariants as OfRequests
use Rattle.git2show_lib.specs.Others.{Advertised, BeginWithOther, BreakOff, IsOtherBegun, IsOtherRequest, NoneNames, counted_of, first_place}
use Rattle.git2show_lib.specs.Others.{judged_of, place_after}
use Rattle.git2show_lib.specs.OtherLines.{Noted, Question, known, other, asks_nothing, named_by, nothing_noted, noted_of, shown_at}
use Rattle.git2show_lib.specs.Machine.KeptLines.{IsNotKept, noted_in}
use Rattle.git2show_lib.specs.declared.other_lines.OtherLines.{OtherLines}
use Rattle.git2show_lib.specs.declared.others.Place.{Place}
use Rattle.git2show_lib.specs.declared.judged_requests.JudgedGot.{JudgedGot}
use Rattle.git2show_lib.specs.declared.judged_requests.JudgedGot.TheVariants.{More, Request as RequestGot, Other as OtherGot}
use Rattle.git2show_lib.specs.declared.judged_requests.JudgedGot.TheVariants.{Stop as StopGot, Failed as FailedGot}
use Rattle.git2show_lib.specs.declared.judged_requests.Judged.{Judged}
use Rattle.git2show_lib.specs.declared.judged_requests.JudgedRead.{JudgedRead}
use Rattle.git2show_lib.specs.declared.judged_requests.JudgedRequests.{JudgedRequests}
use Rattle.git2show_lib.specs.declared.judged_requests.RequestJudge.{RequestJudge}
use Rattle.git2show_lib.specs.declared.judged_requests.Stage.{Stage}
use Rattle.git2show_lib.specs.declared.judged_requests.Stage.TheVariants.{Between, Within, Passing, Stopped, Failed}

-- the packets are a whole request: one that asks for this, if each packet is read as what was advertised has it, and no more of it
-- counts as kept than the limit; or one for a command that is not known. All of it that is not known is noted.
abbrev pub IsQuestion : Advertised → ℕ → List Given → Question → Type 0
IsQuestion by limit packets (known q noted) =
    IsOne by.offer limit (judged_of by.text packets) q × (counted_of by.text packets ≤ limit) × (noted ≡ noted_of by.text packets)
IsQuestion by limit packets (other lines) = IsOtherRequest by limit packets × (lines ≡ named_by by.text packets)

-- the packets are whole requests, one after another, and then what is left
abbrev pub AreQuestions : Advertised → ℕ → List Given → List Question → List Given → Type 0
AreQuestions by limit packets [] left = packets ≡ left
AreQuestions by limit packets (q ∷ qs) left =
    (front : List Given) × (more : List Given) × (packets ≡ front ++ more) × IsQuestion by limit front q × AreQuestions by limit more qs left

-- the bytes are whole requests, further packets, and a rest that no packet begins
pub record AreAskedBy (by : Advertised) (limit : ℕ) (bytes : List ℕ) (asked : List Question) (left : List Given) (rest : List ℕ) : Type 0 where
  pub packets : List Given
  pub splits : Splits 0 bytes packets rest
  pub requests : AreQuestions by limit packets asked left

-- what is left after the whole requests begins one
abbrev pub IsBegun : Advertised → ℕ → List Given → Type 0
IsBegun by limit left = AreBegun by.offer limit (judged_of by.text left) ⊎ IsOtherBegun by limit left

-- the last packet is the first that can't be kept: with it more counts as kept than the limit, or there was no memory for its line. It is
-- not refused otherwise, nor are those before it.
pub record IsUnkept (by : Advertised) (limit : ℕ) (left : List Given) (rest : List ℕ) (fault : Fault) : Type 0 where
  pub front : List Given
  pub last : Given
  pub parts : left ≡ front ++ last ∷ []
  pub begun : AreBegun by.offer limit (judged_of by.text front)
  pub kept : counted_of by.text front ≤ limit
  pub why : IsNotKept fault.kind (counted_of by.text left) limit (shown_at by.text (place_after first_place front) last.packet)
  pub no_rest : rest ≡ []
  pub at : fault.offset ≡ last.offset

-- the last packet names a command that is not known, and there was no memory for its line
pub record IsUnnamed (by : Advertised) (limit : ℕ) (left : List Given) (rest : List ℕ) (fault : Fault) : Type 0 where
  pub begins : BeginWithOther by limit left
  pub at_name : begins.more ≡ []
  pub no_rest : rest ≡ []
  pub fault_is : fault ≡ record { kind = OutOfMemory; offset = begins.named.offset }

-- what is left after the whole requests is refused: none of it names a command that passes, and it is refused as it is read; or a request for
-- such a command breaks off; or the line of the last packet is not kept
abbrev pub IsRefused : Advertised → ℕ → List Given → List ℕ → ℕ → Fault → Type 0
IsRefused by limit left rest end fault =
    (NoneNames by.text first_place left × IsRefusedAs by.offer limit (judged_of by.text left) rest end fault)
    ⊎ ((IsOtherBegun by limit left × BreakOff rest end fault) ⊎ (IsUnkept by limit left rest fault ⊎ IsUnnamed by limit left rest fault))

-- ---- the stage of a reader

-- what is left in a stage
abbrev pub IsLeft : Stage → Advertised → ℕ → List Given → List ℕ → ℕ → Type 0
IsLeft Between by limit left rest end = left ≡ []
IsLeft Within by limit left rest end =
    NoneNames by.text first_place left × IsLeftIn OfRequests.Within by.offer limit (judged_of by.text left) rest end
IsLeft Passing by limit left rest end = IsOtherBegun by limit left
IsLeft Stopped by limit left rest end = IsLeftIn OfRequests.Stopped by.offer limit (judged_of by.text left) rest end
IsLeft (Failed fault) by limit left rest end = IsRefused by limit left rest end fault

-- where the packet is that comes after what is left
abbrev pub place_for : Stage → List Given → Place
place_for Passing left = first_place
place_for stage left = place_after first_place left

-- what of that a reader of requests has taken
abbrev pub taken_in : Stage → List ℕ → List Given → List Given
taken_in Passing text left = []
taken_in stage text left = judged_of text left

-- how many bytes count as kept of it
abbrev pub counted_for : Stage → List ℕ → List Given → ℕ
counted_for Passing text left = 0
counted_for stage text left = counted_of text left

-- and what is noted of it
abbrev pub noted_for : Stage → List ℕ → List Given → Noted
noted_for Passing text left = record { lines = named_by text left; asks = asks_nothing }
noted_for stage text left = noted_of text left

-- the fault of a stage
abbrev pub fault_in : Stage → Option Fault
fault_in (Failed fault) = Some fault
fault_in stage = None

-- bytes are read on
abbrev pub takes_bytes : Stage → Bool
takes_bytes Between = true
takes_bytes Within = true
takes_bytes Passing = true
takes_bytes stage = false

-- no request is begun
abbrev pub stage_is_between : Stage → Bool
stage_is_between Between = true
stage_is_between stage = false

-- the stage after a packet of a request that passes
abbrev pub stage_passed : Pkt → Stage
stage_passed flush = Between
stage_passed packet = Passing

-- what is noted after it
abbrev pub noted_passed : Pkt → Noted → Noted
noted_passed flush noted = nothing_noted
noted_passed packet noted = noted

-- a reader of packets used these bytes, at the end of this packet
pub record EndsPacket (before : PacketReader) (bytes : List ℕ) (g : Given) (after : PacketReader) : Type 0 where
  pub reads : ReadsOn before bytes (g ∷ []) after
  pub gathers : passes_of after ≡ false
  pub sound : packet_fault after ≡ None
  pub shut : is_open after ≡ false

module _ {A : Type 0} where
  -- and what it brought
  abbrev pub got_passed : Pkt → OtherLines A → JudgedGot A
  got_passed flush lines = OtherGot lines
  got_passed packet lines = More

  -- the stage after a packet that brought this to a reader of requests
  abbrev pub stage_brought : ReadGot A → Stage
  stage_brought OfReader.More = Within
  stage_brought (OfReader.Request request) = Between
  stage_brought OfReader.Stop = Stopped
  stage_brought (OfReader.Failed fault) = Failed fault

  -- what was brought by a packet that can't be kept for this reason
  abbrev pub limited_got : Option Kind → ℕ → ReadGot A → ReadGot A
  limited_got (Some kind) offset OfReader.More = OfReader.Failed (record { kind = kind; offset = offset })
  limited_got (Some kind) offset (OfReader.Request request) = OfReader.Failed (record { kind = kind; offset = offset })
  limited_got refused offset got = got

  -- how many bytes count as kept after it
  abbrev pub kept_brought : ReadGot A → ℕ → ℕ
  kept_brought (OfReader.Request request) next = 0
  kept_brought got next = next

  -- where the next packet is
  abbrev pub place_brought : ReadGot A → Place → Place
  place_brought (OfReader.Request request) next = first_place
  place_brought got next = next

  -- what is noted after it
  abbrev pub noted_brought : ReadGot A → Noted → Noted
  noted_brought (OfReader.Request request) noted = nothing_noted
  noted_brought got noted = noted

  -- and what is handed on, with these lines of the request
  abbrev pub got_as : ReadGot A → OtherLines A → JudgedGot A
  got_as OfReader.More others = More
  got_as (OfReader.Request request) others = RequestGot (record { request = request; others = others })
  got_as OfReader.Stop others = StopGot
  got_as (OfReader.Failed fault) others = FailedGot fault

  -- ---- a reader

  -- what the requests are read against
  abbrev pub offer_of : JudgedRequests A → Offer
  offer_of s = offer_in s.judge.requests

  abbrev pub text_of : JudgedRequests A → List ℕ
  text_of s = s.judge.advertised.items

  abbrev pub advertised_by : JudgedRequests A → Advertised
  advertised_by s = record { offer = offer_of s; text = text_of s }

  -- how many bytes a request's argument texts may have
  abbrev pub limit_of : JudgedRequests A → ℕ
  limit_of s = limit_in s.judge.requests

  -- the fault that ended the reading
  abbrev pub fault_of : JudgedRequests A → Option Fault
  fault_of s = fault_in s.judge.stage

  -- bytes are read on: no fault came, and no flush instead of a request
  abbrev pub wants_input : JudgedRequests A → Bool
  wants_input s = takes_bytes s.judge.stage

  -- no request is begun
  abbrev pub is_between : JudgedRequests A → Bool
  is_between s = stage_is_between s.judge.stage

  -- a packet has begun that is not whole
  abbrev pub is_within_packet : JudgedRequests A → Bool
  is_within_packet s = is_open s.packets

  -- how many bytes were used
  abbrev pub bytes_used : JudgedRequests A → ℕ
  bytes_used s = position_of s.packets

  -- packets are taken on, and the reader of requests inside is ready for them
  pub record IsJudging (j : RequestJudge A) : Type 0 where
    pub wants : takes_bytes j.stage ≡ true
    pub open_ended : reader_fault j.requests ≡ None
    pub taken : ∥ HasTaken j.requests ∥₁
    pub same_offer : j.offer ≡ offer_in j.requests
    pub same_limit : j.limits.args ≡ limit_in j.requests
    pub within : j.kept ≤ j.limits.args
    pub fits : j.limits.args ≤ 4294967295

  -- bytes are read on, and what is inside is ready for them
  pub record IsReady (s : JudgedRequests A) : Type 0 where
    pub judging : IsJudging s.judge
    pub gathers : passes_of s.packets ≡ false
    pub sound : packet_fault s.packets ≡ None

  -- the reader has used these bytes, and handed out these requests
  pub record HasRead (used : List ℕ) (asked : List Question) (s : JudgedRequests A) : Type 0 where
    pub packets : List Given
    pub left : List Given
    pub rest : List ℕ
    pub reads : Reads s.packets 0 used packets rest
    pub requests : AreQuestions (advertised_by s) (limit_of s) packets asked left
    pub left_is : IsLeft s.judge.stage (advertised_by s) (limit_of s) left rest (length used)
    pub place_is : wants_input s ≡ true → s.judge.place ≡ place_for s.judge.stage left
    pub kept_is : wants_input s ≡ true → s.judge.kept ≡ counted_for s.judge.stage (text_of s) left
    pub noted_is : wants_input s ≡ true → noted_in s.judge.others ≡ noted_for s.judge.stage (text_of s) left
    pub onward : wants_input s ≡ true → Takes (taken_in s.judge.stage (text_of s) left) s.judge.requests

  -- what a request asks, with what it has beside that
  abbrev pub question_of : Judged A → Question
  question_of judged = known (asked_of judged.request) (noted_in judged.others)

  -- what was asked by an answer
  abbrev pub asked_by : JudgedGot A → List Question
  asked_by (RequestGot judged) = question_of judged ∷ []
  asked_by (OtherGot others) = other (noted_in others).lines ∷ []
  asked_by got = []

  -- how the reader is left after a whole request
  pub record IsOnward (used : ℕ) (new : JudgedRequests A) : Type 0 where
    pub some : 0 < used
    pub onward : IsReady new
    pub between : is_between new ≡ true
    pub shut : is_within_packet new ≡ false

  -- or after a flush instead of one, or a fault
  abbrev pub LeavesAt : JudgedGot A → ℕ → JudgedRequests A → Type 0
  LeavesAt More used new = Unit {0}
  LeavesAt (RequestGot judged) used new = IsOnward used new × (format_of judged.request ≡ (offer_of new).format)
  LeavesAt (OtherGot others) used new = IsOnward used new
  LeavesAt StopGot used new = (0 < used) × (wants_input new ≡ false) × (fault_of new ≡ None)
  LeavesAt (FailedGot fault) used new = fault_of new ≡ Some fault

  -- how it is left after each answer of `feed`
  abbrev pub Leaves : JudgedGot A → ℕ → List ℕ → JudgedRequests A → Type 0
  Leaves More used chunk new = (used ≡ length chunk) × IsReady new
  Leaves got used chunk new = LeavesAt got used new

  -- and after the bytes up to the end of a packet, or all of them
  abbrev pub StepLeaves : JudgedGot A → ℕ → JudgedRequests A → Type 0
  StepLeaves More used new = (0 < used) × IsReady new
  StepLeaves got used new = LeavesAt got used new

  -- a fault is none of the input's end, and that the stream is too long is reported only where the chunk has a further byte
  abbrev pub IsNews : List ℕ → JudgedRead A → Type 0
  IsNews chunk read = (fault : Fault) → read.got ≡ FailedGot fault → ShownByFeed fault read.used chunk

  -- what a reader does with the bytes that it uses, whatever was read before, by how it is left
  pub record ReadsBy (Left : JudgedGot A → ℕ → JudgedRequests A → Type 0) (old : JudgedRequests A) (chunk : List ℕ) (read : JudgedRead A)
      (new : JudgedRequests A) : Type 0 where
    pub reads : (used : List ℕ) (asked : List Question) → HasRead used asked old
        → HasRead (used ++ take read.used chunk) (asked ++ asked_by read.got) new
    pub leaves : Left read.got read.used new
    pub news : IsNews chunk read
    pub by : advertised_by new ≡ advertised_by old
    pub limit : limit_of new ≡ limit_of old

  -- what a call of `feed` does
  abbrev pub Feeds : JudgedRequests A → List ℕ → JudgedRead A → JudgedRequests A → Type 0
  Feeds old chunk read new = ReadsBy (λ got used s. Leaves got used chunk s) old chunk read new

  -- what the bytes up to the end of a packet do, or all of them
  abbrev pub Steps : JudgedRequests A → List ℕ → JudgedRead A → JudgedRequests A → Type 0
  Steps old chunk read new = ReadsBy StepLeaves old chunk read new

  -- what a packet does: with any reader of packets that comes to its end, this is such a step
  abbrev pub TakesPacket : RequestJudge A → Given → JudgedGot A → RequestJudge A → Type 0
  TakesPacket old g got new =
      (before after : PacketReader) (chunk : List ℕ) (used : ℕ) → 0 < used → EndsPacket before (take used chunk) g after
      → Steps (record { packets = before; judge = old }) chunk (record { used = used; got = got }) (record { packets = after; judge = new })

  -- what a call of `close` means: all was whole requests, or the last was cut off
  abbrev pub Closes : Result (Unit {0}) Fault → JudgedRequests A → JudgedRequests A → Type 0
  Closes (Ok done) old new =
      (new ≡ old) × ((used : List ℕ) (asked : List Question) → HasRead used asked old → AreAskedBy (advertised_by old) (limit_of old) used asked [] [])
  Closes (Err fault) old new =
      (fault.kind ≡ Truncated) × (fault_of new ≡ Some fault) × (advertised_by new ≡ advertised_by old) × (limit_of new ≡ limit_of old)
      × ((used : List ℕ) (asked : List Question) → HasRead used asked old → HasRead used asked new)
