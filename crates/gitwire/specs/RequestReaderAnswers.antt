-- What is reported to C for a request reader's calls.
use Rattle.std.specs.Prelude.{◌≡◌, ◌⊎◌, ℕ, ◌<◌, ◌≤◌, Bool, true, false, List, [], length, Option, Some, None, IsSomeAnd, Result, Ok, Err}
use Rattle.std.specs.Global.{Global}
use Rattle.git_names.specs.declared.object_format.Format.TheVariants as Format
use Rattle.git_pkt.specs.declared.fault.Fault.{Fault}
use Rattle.git_msg.specs.Arguments.{most_limit}
use Rattle.git_msg.specs.Machine.HeldRequest.{IsEmpty}
use Rattle.git_msg.specs.Machine.RequestStreams.{Closes, Feeds, HasRead, limit_of, offer_of, wants_input}
use Rattle.git_msg.specs.declared.arguments.Command.TheVariants as Command
use Rattle.git_msg.specs.declared.requests.Request.{Request}
use Rattle.git_msg.specs.declared.reader.ReadGot.{ReadGot}
use Rattle.git_msg.specs.declared.reader.ReadGot.TheVariants.{More, Request as RequestGot, Stop, Failed}
use Rattle.git_msg.specs.declared.streams.ReadRequest.{ReadRequest}
use Rattle.git_msg.specs.declared.streams.RequestStream.{RequestStream}
use Rattle.gitwire.specs.Offers.{offer_meant}
use Rattle.gitwire.specs.RequestAnswers.{HasOrNone}
use Rattle.gitwire.specs.Answers.{more_of, answering, answering_fault, answering_used, what_number}
use Rattle.gitwire.specs.declared.answer.GitwireAnswer.{GitwireAnswer}
use Rattle.gitwire.specs.declared.answer.What.TheVariants as What

-- the number means no format or a bit no feature, or the limit is above the maximum
abbrev pub MeanNoReader : ℕ → ℕ → ℕ → Type 0
MeanNoReader format features limit = (offer_meant format features ≡ None) ⊎ (most_limit < limit)

-- the reader is one before the first byte, with the offer and the limit that these values mean
pub record MeanReader (format features limit : ℕ) (reader : RequestStream Global) : Type 0 where
  pub offer_is : offer_meant format features ≡ Some (offer_of reader)
  pub in_range : limit ≤ most_limit
  pub limit_is : limit_of reader ≡ limit
  pub reads : HasRead [] [] reader
  pub waits : wants_input reader ≡ true

-- a reader is made, or nothing changes
abbrev pub MakesReader : ℕ → ℕ → ℕ → Option (RequestStream Global) → ℕ → Option (RequestStream Global) → Type 0
MakesReader format features limit old answer new =
    (MeanNoReader format features limit × (answer ≡ what_number What.BadValue) × (new ≡ old))
    ⊎ ((reader : RequestStream Global) × MeanReader format features limit reader × HasOrNone answer reader new)

-- what is reported to C for an answer, by whether input was expected
abbrev pub announcing_read : Bool → ℕ → ReadGot Global → GitwireAnswer
announcing_read expected used More = answering_used used (more_of expected)
announcing_read expected used (RequestGot request) = answering_used used What.Request
announcing_read expected used Stop = answering_used used What.Stop
announcing_read expected used (Failed fault) = answering_fault used fault

-- the request of a handle after an answer: a new one replaces the old one
abbrev pub request_after : ReadGot Global → Request Global → Request Global
request_after More held = held
request_after (RequestGot request) held = request
request_after Stop held = held
request_after (Failed fault) held = held

-- the reader reads, and it is reported to C what came
pub record FeedsAnswers (old : RequestStream Global) (chunk : List ℕ) (held : Request Global) (answer : GitwireAnswer)
    (new : RequestStream Global) (kept : Request Global) : Type 0 where
  pub read : ReadRequest Global
  pub within : read.used ≤ length chunk
  pub feeds : Feeds old chunk read new
  pub answer_is : answer ≡ announcing_read (wants_input old) read.used read.got
  pub request : kept ≡ request_after read.got held

-- what a handle for requests has when a reader is fed: its own request, or an empty one if it has none
abbrev pub Holds : Option (Request Global) → Request Global → Type 0
Holds None held = IsEmpty Command.LsRefs Format.Sha1 0 held
Holds (Some request) held = held ≡ request

-- a reader and a handle for its requests; if there is no memory for the first request of that handle, nothing is read
abbrev pub FeedsHandle : RequestStream Global → List ℕ → Option (Request Global) → GitwireAnswer
    → Option (RequestStream Global) → Option (Request Global) → Type 0
FeedsHandle old chunk request answer new kept =
    ((request ≡ None) × (answer ≡ answering What.OutOfMemory) × (new ≡ Some old) × (kept ≡ None))
    ⊎ ((held : Request Global) × Holds request held
    × IsSomeAnd new (λ reader. IsSomeAnd kept (λ next. FeedsAnswers old chunk held answer reader next)))

-- a handle that is fed
abbrev pub FeedsIn : Option (RequestStream Global) → List ℕ → Option (Request Global) → GitwireAnswer
    → Option (RequestStream Global) → Option (Request Global) → Type 0
FeedsIn None chunk request answer new kept = (answer ≡ answering What.NoRequest) × (new ≡ None) × (kept ≡ request)
FeedsIn (Some old) chunk request answer new kept = FeedsHandle old chunk request answer new kept

-- done, or refused at an offset
abbrev pub announcing_end : Result (Unit {0}) Fault → GitwireAnswer
announcing_end (Ok done) = answering What.Done
announcing_end (Err fault) = answering_fault 0 fault

-- the input ends, and it is reported to C how
pub record AnnouncesClose (old : RequestStream Global) (answer : GitwireAnswer) (new : RequestStream Global) : Type 0 where
  pub ended : Result (Unit {0}) Fault
  pub closes : Closes ended old new
  pub answer_is : answer ≡ announcing_end ended

-- the input may end only if more could come
pub record ClosesAnswers (old : RequestStream Global) (answer : GitwireAnswer) (new : RequestStream Global) : Type 0 where
  pub now : wants_input old ≡ true → AnnouncesClose old answer new
  pub not_now : wants_input old ≡ false → (answer ≡ answering What.NotNow) × (new ≡ old)
