-- What each turn of a machine that judges a conversation needs of its parts.
use Rattle.std.specs.Prelude.{◌≡◌, ℕ, zero, suc, ◌+◌, ◌≤◌, Bool, true, false, List, length, None, Result, Ok, Err}
use Rattle.std.proofs.Props.{props}
use Rattle.git_pkt.specs.Machine.PacketReader.{fault_of, passes_of}
use Rattle.git_pkt.specs.declared.reader.PacketReader.{PacketReader}
use Rattle.git_pkt.specs.declared.fault.Kind.{Kind}
use Rattle.git_pkt.specs.declared.fault.Kind.TheVariants.{StreamTooLong}
use Rattle.git_client.specs.Machine.Client.{can_ask, wants_input}
use Rattle.git_client.specs.declared.client.Client.{Client}
use Rattle.git2show_lib.specs.Machine.JudgedRequests.{IsReady}
use Rattle.git2show_lib.specs.Machine.Noting.{Gathers}
use Rattle.git2show_lib.specs.declared.checker.Stream.{Stream}
use Rattle.git2show_lib.specs.declared.checker.Stream.TheVariants.{Requests as OfRequests, Responses as OfResponses}
use Rattle.git2show_lib.specs.declared.checker.Turn.{Turn}
use Rattle.git2show_lib.specs.declared.checker.Turn.TheVariants.{Opening, Request, Response, Sieved, Passing, End, Over}
use Rattle.git2show_lib.specs.declared.checking.CheckFault.{CheckFault}
use Rattle.git2show_lib.specs.declared.checking.CheckFault.TheVariants.{Requests, Responses, ReadFault, WriteFault, ReadLimit}
use Rattle.git2show_lib.specs.declared.judged_requests.JudgedRequests.{JudgedRequests}
use Rattle.git2show_lib.specs.declared.noting.Noting.{Noting}

-- a reader of packets can take the next bytes
abbrev pub TakesBytes : PacketReader → Type 0
TakesBytes packets = (fault_of packets ≡ None) × (passes_of packets ≡ false)

-- a conversation was judged so: all is well, or one of its streams is refused
abbrev pub IsVerdict : Result (Unit {0}) CheckFault → Type 0
IsVerdict (Ok done) = Unit {0}
IsVerdict (Err (Requests fault)) = Unit {0}
IsVerdict (Err (Responses fault)) = Unit {0}
IsVerdict (Err fault) = ⊥

IsVerdict-prop : (result : Result (Unit {0}) CheckFault) → IsProp (IsVerdict result)
IsVerdict-prop (Ok done) = hlevel props
IsVerdict-prop (Err (Requests fault)) = hlevel props
IsVerdict-prop (Err (Responses fault)) = hlevel props
IsVerdict-prop (Err ReadFault) = hlevel props
IsVerdict-prop (Err WriteFault) = hlevel props
IsVerdict-prop (Err ReadLimit) = hlevel props

-- Whether the advertisement is whole in a turn, and which streams have not ended: the requests may have ended only where no further one comes, and
-- the responses only where all is over.
abbrev pub FitsTurn : Turn → (opened requests_ended responses_ended : Bool) → Type 0
FitsTurn Opening opened requests_ended responses_ended = (opened ≡ false) × (requests_ended ≡ false) × (responses_ended ≡ false)
FitsTurn End opened requests_ended responses_ended = (opened ≡ true) × (responses_ended ≡ false)
FitsTurn (Over result) opened requests_ended responses_ended = IsVerdict result
FitsTurn turn opened requests_ended responses_ended = (opened ≡ true) × (requests_ended ≡ false) × (responses_ended ≡ false)

pub FitsTurn-prop : (turn : Turn) (opened requests_ended responses_ended : Bool) → IsProp (FitsTurn turn opened requests_ended responses_ended)
FitsTurn-prop Opening opened requests_ended responses_ended = hlevel props
FitsTurn-prop Request opened requests_ended responses_ended = hlevel props
FitsTurn-prop Response opened requests_ended responses_ended = hlevel props
FitsTurn-prop (Sieved start) opened requests_ended responses_ended = hlevel props
FitsTurn-prop Passing opened requests_ended responses_ended = hlevel props
FitsTurn-prop End opened requests_ended responses_ended = hlevel props
FitsTurn-prop (Over result) opened requests_ended responses_ended = IsVerdict-prop result

-- the number of a stream among the inputs of a run
abbrev pub number_of : Stream → ℕ
number_of OfRequests = 0
number_of OfResponses = 1

-- the stream of a number
abbrev pub stream_at : ℕ → Stream
stream_at zero = OfRequests
stream_at (suc k) = OfResponses

-- how many bytes show a fault of this kind that was met after so many: a byte that is one too many is used, too
abbrev pub bytes_shown : Kind → ℕ → ℕ
bytes_shown StreamTooLong used = used + 1
bytes_shown kind used = used

-- no more bytes of this stream are used from this turn on
abbrev pub uses_no_more : Stream → Turn → Bool
uses_no_more OfRequests End = true
uses_no_more OfRequests (Over result) = true
uses_no_more OfResponses (Over result) = true
uses_no_more stream turn = false

module _ {A : Type 0} where
  abbrev pub IsSound : Turn → Client A → Noting A → JudgedRequests A → PacketReader → (received : ℕ) → (hold : List ℕ) → Type 0
  IsSound Opening client noting requests packets received hold = (wants_input client ≡ true) × Gathers noting
  IsSound Request client noting requests packets received hold = (can_ask client ≡ true) × IsReady requests
  IsSound Response client noting requests packets received hold = (wants_input client ≡ true) × IsReady requests
  IsSound (Sieved start) client noting requests packets received hold =
      (wants_input client ≡ true) × IsReady requests × TakesBytes packets × (received ≤ length hold)
  IsSound Passing client noting requests packets received hold = (can_ask client ≡ true) × IsReady requests × TakesBytes packets
  IsSound End client noting requests packets received hold = Unit {0}
  IsSound (Over result) client noting requests packets received hold = Unit {0}

  pub one_sound : (turn : Turn) (client : Client A) (noting : Noting A) (requests : JudgedRequests A) (packets : PacketReader) (received : ℕ)
      (hold : List ℕ) → IsProp (IsSound turn client noting requests packets received hold)
  one_sound Opening client noting requests packets received hold = hlevel props
  one_sound Request client noting requests packets received hold = hlevel props
  one_sound Response client noting requests packets received hold = hlevel props
  one_sound (Sieved start) client noting requests packets received hold = hlevel props
  one_sound Passing client noting requests packets received hold = hlevel props
  one_sound End client noting requests packets received hold = hlevel props
  one_sound (Over result) client noting requests packets received hold = hlevel props
