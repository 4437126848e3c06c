-- What is reported to C for a checker's calls.
use Rattle.std.specs.Prelude.{◌≡◌, ◌⊎◌, ℕ, ◌<◌, ◌≤◌, Bool, true, false, List, [], ◌∷◌, ◌++◌, drop, length, min, take, Option, Some, None, Result, Ok, Err}
use Rattle.std.specs.Prelude.{IsSome, MatchOption}
use Rattle.git_names.specs.declared.object_format.Format.{Format}
use Rattle.git_pkt.specs.declared.fault.Kind.{Kind}
use Rattle.git_pkt.specs.declared.fault.Kind.TheVariants.{ReadFault, WriteFault, ReadLimit}
use Rattle.git_msg.specs.Arguments.{most_limit}
use Rattle.git_client.specs.Parts.{Terms, terms_of}
use Rattle.git_client.specs.declared.events.Ending.{Ending}
use Rattle.git2show_lib.specs.Machine.Checker.{Checks, Fed, StaysOpened, fed_closed, fed_with, is_needed, lent_by, needed_of}
use Rattle.git2show_lib.specs.Machine.Checker.{nothing_fed, requests_after, responses_after, verdict_of}
use Rattle.git2show_lib.specs.declared.checker.Needed.{Needed}
use Rattle.git2show_lib.specs.declared.checker.Needed.TheVariants.{Lines, Input, Nothing}
use Rattle.git2show_lib.specs.declared.checker.Stream.{Stream}
use Rattle.git2show_lib.specs.declared.checker.Stream.TheVariants.{Requests, Responses}
use Rattle.git2show_lib.specs.declared.checking.CheckFault.{CheckFault}
use Rattle.git2show_lib.specs.declared.checking.CheckFault.TheVariants as Check
use Rattle.gitwire.specs.Answers.{answering, answering_fault, answering_fault_in, answering_packet, answering_used, what_number}
use Rattle.gitwire.specs.Buffers.{put_before}
use Rattle.gitwire.specs.declared.answer.GitwireAnswer.{GitwireAnswer}
use Rattle.gitwire.specs.declared.answer.What.TheVariants as What
use Rattle.gitwire.specs.declared.judge.Judge.{Judge}

-- the streams by their numbers: the first has 1
abbrev pub streams : List Stream
streams = Requests ∷ Responses ∷ []

-- it used this of each stream, and C has these lines, the last of them perhaps in part
pub record HasChecked (t : Terms) (limit : ℕ) (requests responses : Fed) (given : List ℕ) (judge : Judge) : Type 0 where
  pub taken : List ℕ
  pub given_is : given ≡ taken ++ take judge.copied (lent_by judge.checker)
  pub checks : Checks t limit requests responses taken judge.checker

-- of this stream alone more was used, as this step has it
abbrev pub UsesBy : Stream → (step : Fed → Fed) → (old new : Judge) → Type 0
UsesBy stream step old new =
    (t : Terms) (limit : ℕ) (requests responses : Fed) (given : List ℕ) → HasChecked t limit requests responses given old
    → HasChecked t limit (requests_after stream step requests) (responses_after stream step responses) given new

-- it used bytes of this stream, or its end
abbrev pub Uses : Stream → (bytes : List ℕ) → (old new : Judge) → Type 0
Uses stream bytes old new = UsesBy stream (λ (fed : Fed). fed_with fed bytes) old new

abbrev pub UsesEnd : Stream → (old new : Judge) → Type 0
UsesEnd stream old new = UsesBy stream fed_closed old new

-- it gave these bytes of lines to C
abbrev pub Gives : (lines : List ℕ) → (old new : Judge) → Type 0
Gives lines old new =
    (t : Terms) (limit : ℕ) (requests responses : Fed) (given : List ℕ) → HasChecked t limit requests responses given old
    → HasChecked t limit requests responses (given ++ lines) new

-- a checker before the first byte, or none if memory ran out
abbrev pub Begins : Terms → ℕ → ℕ → Option Judge → Type 0
Begins t limit answer new =
    MatchOption new (answer ≡ what_number What.OutOfMemory) (λ judge. (answer ≡ what_number What.Done) × HasChecked t limit nothing_fed nothing_fed [] judge)

-- nothing changes if the limit is above the maximum
pub record BeginsWithin (t : Terms) (limit : ℕ) (old : Option Judge) (answer : ℕ) (new : Option Judge) : Type 0 where
  pub too_much : most_limit < limit → (answer ≡ what_number What.BadValue) × (new ≡ old)
  pub in_range : limit ≤ most_limit → Begins t limit answer new

-- the checker that two numbers mean; nothing changes if one of them means nothing
abbrev pub BeginsBy : Option Format → Option Ending → ℕ → Option Judge → ℕ → Option Judge → Type 0
BeginsBy (Some format) (Some ending) limit old answer new = BeginsWithin (terms_of format ending) limit old answer new
BeginsBy format ending limit old answer new = (answer ≡ what_number What.BadValue) × (new ≡ old)

-- it uses bytes of the stream, and some of them, or it has a verdict
pub record FeedsNeeded (stream : Stream) (old : Judge) (chunk : List ℕ) (answer : GitwireAnswer) (new : Judge) : Type 0 where
  pub used : ℕ
  pub answer_is : answer ≡ answering_used used What.More
  pub within : used ≤ length chunk
  pub uses : Uses stream (take used chunk) old new
  pub stays_opened : StaysOpened old.checker new.checker
  pub moves : 0 < length chunk → (0 < used) ⊎ IsSome (verdict_of new.checker)

-- if bytes of the stream are needed; else nothing changes
abbrev pub FeedsIf : Bool → Stream → Judge → List ℕ → GitwireAnswer → Judge → Type 0
FeedsIf true stream old chunk answer new = FeedsNeeded stream old chunk answer new
FeedsIf false stream old chunk answer new = (answer ≡ answering What.NotNow) × (new ≡ old)

-- nothing changes if the number means no stream
abbrev pub FeedsStream : Option Stream → Judge → List ℕ → GitwireAnswer → Judge → Type 0
FeedsStream None old chunk answer new = (answer ≡ answering What.BadValue) × (new ≡ old)
FeedsStream (Some stream) old chunk answer new = FeedsIf (is_needed stream (needed_of old.checker)) stream old chunk answer new

-- the stream ends, and no more of it is needed
pub record ClosesNeeded (stream : Stream) (old : Judge) (answer : ℕ) (new : Judge) : Type 0 where
  pub answer_is : answer ≡ what_number What.Done
  pub uses : UsesEnd stream old new
  pub stays_opened : StaysOpened old.checker new.checker
  pub ended : is_needed stream (needed_of new.checker) ≡ false

-- if bytes of the stream are needed; else nothing changes
abbrev pub ClosesIf : Bool → Stream → Judge → ℕ → Judge → Type 0
ClosesIf true stream old answer new = ClosesNeeded stream old answer new
ClosesIf false stream old answer new = (answer ≡ what_number What.NotNow) × (new ≡ old)

-- nothing changes if the number means no stream
abbrev pub ClosesStream : Option Stream → Judge → ℕ → Judge → Type 0
ClosesStream None old answer new = (answer ≡ what_number What.BadValue) × (new ≡ old)
ClosesStream (Some stream) old answer new = ClosesIf (is_needed stream (needed_of old.checker)) stream old answer new

-- the bytes of the lines that it lends which C does not have yet
abbrev pub rest_of : Judge → List ℕ
rest_of judge = drop judge.copied (lent_by judge.checker)

-- as many of them as fit, and some, are at the front of the buffer
pub record CopiesLines (old : Judge) (buffer : List ℕ) (count : ℕ) (filled : List ℕ) (new : Judge) : Type 0 where
  pub count_is : count ≡ min (length (rest_of old)) (length buffer)
  pub some : 0 < count
  pub buffer_is : filled ≡ put_before (take count (rest_of old)) buffer
  pub gives : Gives (take count (rest_of old)) old new
  pub stays_opened : StaysOpened old.checker new.checker

-- a fault of reading or writing, which no machine meets
abbrev pub unread : Kind → GitwireAnswer
unread kind = answering_fault 0 (record { kind = kind; offset = 0 })

-- what is reported of a verdict
abbrev pub answer_of : Option (Result (Unit {0}) CheckFault) → GitwireAnswer
answer_of None = answering What.NotNow
answer_of (Some (Ok done)) = answering What.Checked
answer_of (Some (Err (Check.Requests fault))) = answering_fault_in What.FailedRequests fault
answer_of (Some (Err (Check.Responses fault))) = answering_fault_in What.FailedResponses fault
answer_of (Some (Err Check.ReadFault)) = unread ReadFault
answer_of (Some (Err Check.WriteFault)) = unread WriteFault
answer_of (Some (Err Check.ReadLimit)) = unread ReadLimit

-- what is reported to C of what is needed; lines are copied
abbrev pub PullsAnswers : Needed → Judge → List ℕ → GitwireAnswer → List ℕ → Judge → Type 0
PullsAnswers Lines old buffer answer filled new =
    (count : ℕ) × (answer ≡ answering_packet 0 0 count What.Lines) × CopiesLines old buffer count filled new
PullsAnswers (Input Requests) old buffer answer filled new = (answer ≡ answering What.NeedRequests) × (filled ≡ buffer) × (new ≡ old)
PullsAnswers (Input Responses) old buffer answer filled new = (answer ≡ answering What.NeedResponses) × (filled ≡ buffer) × (new ≡ old)
PullsAnswers Nothing old buffer answer filled new = (answer ≡ answer_of (verdict_of old.checker)) × (filled ≡ buffer) × (new ≡ old)

-- nothing happens if the buffer has no byte
pub record PullsInBuffer (old : Judge) (buffer : List ℕ) (answer : GitwireAnswer) (filled : List ℕ) (new : Judge) : Type 0 where
  pub small : length buffer ≡ 0 → (answer ≡ answering What.BufferTooSmall) × (filled ≡ buffer) × (new ≡ old)
  pub large : 0 < length buffer → PullsAnswers (needed_of old.checker) old buffer answer filled new
