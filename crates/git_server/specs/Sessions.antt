-- Sessions: the bytes that a server sends for the bytes that it used. No machine is named here.
use Rattle.std.specs.Prelude.{◌≡◌, ◌≢◌, ◌⊎◌, ℕ, ◌+◌, ◌-◌, Bool, true, false, if◌then◌else◌, List, [], ◌∷◌, ◌++◌, length}
use Rattle.git_pkt.specs.Packets.{Pkt}
use Rattle.git_pkt.specs.Splits.{Given, Splits}
use Rattle.git_pkt.specs.Faults.{IsOpen, StopsBy}
use Rattle.git_pkt.specs.declared.fault.Fault.{Fault}
use Rattle.git_pkt.specs.declared.fault.Kind.{Kind}
use Rattle.git_pkt.specs.declared.fault.Kind.TheVariants.{OutOfMemory, PackSource, Truncated}
use Rattle.git_msg.specs.declared.offers.Offer.{Offer}
use Rattle.git_msg.specs.Admission.{AreAdmitted, IsAnnouncedFor}
use Rattle.git_msg.specs.Asked.{Asked}
use Rattle.git_msg.specs.Lines.{Line}
use Rattle.git_msg.specs.Requests.{AreLines, Asks, IsStop}
use Rattle.git_msg.specs.WholeRequests.{AreRequests}
use Rattle.git_server.specs.Repository.{Repository}
use Rattle.git_server.specs.Admission.{barred, HasAsked}
use Rattle.git_server.specs.Packs.{Manner, whole, broken}
use Rattle.git_server.specs.Answers.{AllFit, spelled, advertisement_of, refusal_by, IsAnswer, IsAnswerAs}
use Rattle.git_server.specs.declared.outcome.Outcome.{Outcome}
use Rattle.git_server.specs.declared.outcome.Outcome.TheVariants.{Flush, Closed, Refused}

-- the setting of a session: the offer, the maximum number of bytes of arguments in a request, whether the advertisement is
-- sent first, the repository, and how many of its reads had failed before
pub record Setting : Type 0 where
  pub offer : Offer
  pub limit : ℕ
  pub advertise : Bool
  pub repo : Repository
  pub failures : ℕ

-- the packets sent before the first answer
abbrev pub advertised : Setting → List Pkt
advertised s = if s.advertise then advertisement_of s.offer else []

-- the packets are one whole request with these contents, and the repository has all that a fetch wants
abbrev pub IsRequest : Setting → List Given → Asked → Type 0
IsRequest s packets q = (kept : ℕ) × Asks s.offer s.limit packets q kept × HasAsked s.repo q

-- the packets are an answer to each request, in their order
abbrev pub AreAnswers : Repository → List Asked → List Pkt → Type 0
AreAnswers repo [] packets = packets ≡ []
AreAnswers repo (q ∷ qs) packets =
    (answer : List Pkt) × (more : List Pkt) × (packets ≡ answer ++ more) × IsAnswer repo q answer × AreAnswers repo qs more

-- the bytes are whole requests, further packets, and a rest that does not begin with a packet
pub record Stream (s : Setting) (used : List ℕ) (asked : List Asked) (left : List Given) (rest : List ℕ) : Type 0 where
  pub packets : List Given
  pub splits : Splits 0 used packets rest
  pub requests : AreRequests (IsRequest s) packets asked left

-- the packets begin a request, and none of them is refused
pub record Begins (s : Setting) (left : List Given) : Type 0 where
  pub lines : List Line
  pub taken : AreLines s.offer s.limit [] left lines
  pub admitted : AreAdmitted (barred s.repo) lines

-- one of the packets is refused, or memory ran out while its argument was stored; no packet before the last is
-- refused, and no byte comes after the last
pub record IsRefusedAtPacket (s : Setting) (left : List Given) (rest : List ℕ) (fault : Fault) : Type 0 where
  pub front : List Given
  pub last : Given
  pub whole : left ≡ front ++ last ∷ []
  pub begins : Begins s front
  pub announced : IsAnnouncedFor s.offer s.limit (barred s.repo) left fault
  pub no_rest : rest ≡ []

-- none of the packets is refused, the input goes on, and reading stops at the bytes after them: they begin no packet, or the stream is too long
pub record IsRefusedAtByte (s : Setting) (over : Bool) (left : List Given) (rest : List ℕ) (end : ℕ) (fault : Fault) : Type 0 where
  pub goes_on : over ≡ false
  pub begins : Begins s left
  pub stops : StopsBy (end - length rest) rest end fault.kind fault.offset
  pub not_the_end : fault.kind ≢ Truncated

-- the input ended inside a request that was not refused so far; reported at the end of the last whole packet
pub record IsCutShort (s : Setting) (over : Bool) (left : List Given) (rest : List ℕ) (end : ℕ) (fault : Fault) : Type 0 where
  pub ended : over ≡ true
  pub begins : Begins s left
  pub unrefused : IsOpen rest
  pub inside : (left ≢ []) ⊎ (rest ≢ [])
  pub name : fault.kind ≡ Truncated
  pub at : fault.offset + length rest ≡ end

-- the last of the packets is at this offset
abbrev pub IsLastAt : ℕ → List Given → Type 0
IsLastAt offset packets = (front : List Given) × (last : Given) × (packets ≡ front ++ last ∷ []) × (last.offset ≡ offset)

-- the packets are a whole request, and the source of its pack failed; reported at the request's flush
pub record IsWithoutPack (s : Setting) (over : Bool) (left : List Given) (rest : List ℕ) (fault : Fault) : Type 0 where
  pub goes_on : over ≡ false
  pub asked : Asked
  pub is_request : IsRequest s left asked
  pub name : fault.kind ≡ PackSource
  pub at : IsLastAt fault.offset left
  pub no_rest : rest ≡ []

-- the bytes read are refused, at a packet, at a byte or at the end
abbrev pub IsRefusedAsRead : Setting → Bool → List Given → List ℕ → ℕ → Fault → Type 0
IsRefusedAsRead s over left rest end fault =
    IsRefusedAtPacket s left rest fault ⊎ (IsRefusedAtByte s over left rest end fault ⊎ IsCutShort s over left rest end fault)

-- the bytes read are refused, or the pack that they ask for is lost
abbrev pub IsRefused : Setting → Bool → List Given → List ℕ → ℕ → Fault → Type 0
IsRefused s over left rest end fault = IsRefusedAsRead s over left rest end fault ⊎ IsWithoutPack s over left rest fault

-- a session ends so, if these packets and bytes are left after the whole requests and `end` bytes were used
abbrev pub EndsBy : Setting → Bool → List Given → List ℕ → ℕ → Outcome → Type 0
EndsBy s over left rest end Flush = IsStop left × (rest ≡ [])
EndsBy s over left rest end Closed = (over ≡ true) × (left ≡ []) × (rest ≡ [])
EndsBy s over left rest end (Refused fault) = IsRefused s over left rest end fault

-- memory ran out
abbrev pub WantsMemory : Outcome → Type 0
WantsMemory Flush = ⊥
WantsMemory Closed = ⊥
WantsMemory (Refused fault) = fault.kind ≡ OutOfMemory

-- the source of a pack failed
abbrev pub WantsPack : Outcome → Type 0
WantsPack Flush = ⊥
WantsPack Closed = ⊥
WantsPack (Refused fault) = fault.kind ≡ PackSource

-- the bytes alone decide the outcome
pub record IsOfTheBytes (outcome : Outcome) : Type 0 where
  -- it is no want of memory, and no source of a pack failed
  pub by_memory : ¬ WantsMemory outcome
  pub by_pack : ¬ WantsPack outcome

-- the first malformed packet of the bytes: after the whole requests a packet is refused, or bytes that begin none, or the stream is too long, or
-- the input ended inside a request
pub record FirstMalformed (s : Setting) (used : List ℕ) (over : Bool) (fault : Fault) : Type 0 where
  pub asked : List Asked
  pub left : List Given
  pub rest : List ℕ
  pub stream : Stream s used asked left rest
  pub refused : IsRefusedAsRead s over left rest (length used) fault
  pub of_the_bytes : IsOfTheBytes (Refused fault)

-- the packets are the beginning of an answer, which broke off, to the request that is left
pub record IsBrokenOff (s : Setting) (left : List Given) (tail : List Pkt) : Type 0 where
  pub asked : Asked
  pub is_request : IsRequest s left asked
  pub breaks : IsAnswerAs broken s.repo asked tail

abbrev pub IsTailBy : Kind → Setting → List Given → Fault → List Pkt → Type 0
IsTailBy PackSource s left fault tail = IsBrokenOff s left tail
IsTailBy kind s left fault tail = refusal_by kind fault ≡ tail

-- the packets at the end of a session, after the answers to the whole requests before the packets that are left
abbrev pub IsTail : Setting → List Given → Outcome → List Pkt → Type 0
IsTail s left Flush tail = [] ≡ tail
IsTail s left Closed tail = [] ≡ tail
IsTail s left (Refused fault) tail = IsTailBy fault.kind s left fault tail

-- the session ended so: for the bytes used, with `over` if the input ended with them, exactly these were sent
pub record IsSession (s : Setting) (used : List ℕ) (over : Bool) (given : List ℕ) (outcome : Outcome) : Type 0 where
  pub asked : List Asked
  pub left : List Given
  pub rest : List ℕ
  pub answers : List Pkt
  pub stream : Stream s used asked left rest
  pub ends : EndsBy s over left rest (length used) outcome
  pub answered : AreAnswers s.repo asked answers
  pub tail : List Pkt
  pub is_tail : IsTail s left outcome tail
  pub given_is : given ≡ spelled (advertised s ++ answers ++ tail)
  pub fit : AllFit (advertised s ++ answers ++ tail)

-- no request has come; these packets of the advertisement were sent, and those have to be sent
pub record IsOpening (s : Setting) (asked : List Asked) (sent unsent : List Pkt) : Type 0 where
  pub none : asked ≡ []
  pub parts : sent ++ unsent ≡ advertised s

-- all requests but the last were answered; these packets of the last answer were sent, and those have to be sent
pub record IsAnswering (manner : Manner) (s : Setting) (asked : List Asked) (sent unsent : List Pkt) : Type 0 where
  pub earlier : List Asked
  pub last : Asked
  pub answers : List Pkt
  pub front : List Pkt
  pub whole : asked ≡ earlier ++ last ∷ []
  pub answered : AreAnswers s.repo earlier answers
  pub answer : IsAnswerAs manner s.repo last (front ++ unsent)
  pub sent_is : sent ≡ advertised s ++ answers ++ front

-- the packets sent and those that have to be sent for these requests: all but a part of the last message was sent
abbrev pub IsSent : Setting → List Asked → List Pkt → List Pkt → Type 0
IsSent s asked sent unsent = IsOpening s asked sent unsent ⊎ IsAnswering whole s asked sent unsent

-- the session goes on: nothing is refused and the client has not left
pub record GoesOn (s : Setting) (used given : List ℕ) : Type 0 where
  pub asked : List Asked
  pub left : List Given
  pub rest : List ℕ
  pub sent : List Pkt
  pub unsent : List Pkt
  pub stream : Stream s used asked left rest
  pub begins : Begins s left
  pub unrefused : IsOpen rest
  pub is_sent : IsSent s asked sent unsent
  pub given_is : given ≡ spelled sent
  pub fit : AllFit sent

-- the session ends so, and everything was sent except a part of what is written at its end
pub record IsEnding (s : Setting) (used : List ℕ) (over : Bool) (given : List ℕ) (outcome : Outcome) (unsent : List Pkt) : Type 0 where
  pub asked : List Asked
  pub left : List Given
  pub rest : List ℕ
  pub answers : List Pkt
  pub sent : List Pkt
  pub stream : Stream s used asked left rest
  pub ends : EndsBy s over left rest (length used) outcome
  pub answered : AreAnswers s.repo asked answers
  pub parts : IsTail s left outcome (sent ++ unsent)
  pub given_is : given ≡ spelled (advertised s ++ answers ++ sent)
  pub fit : AllFit (advertised s ++ answers ++ sent)

-- the relation at every moment between the bytes used and those sent. A session goes on only while its input does.
abbrev pub IsRunning : Setting → List ℕ → Bool → List ℕ → Type 0
IsRunning s used over given =
    ((over ≡ false) × GoesOn s used given) ⊎ ((outcome : Outcome) × (unsent : List Pkt) × IsEnding s used over given outcome unsent)

-- the session goes on, and the whole advertisement and each whole answer were sent
pub record IsAnswered (s : Setting) (used given : List ℕ) : Type 0 where
  pub asked : List Asked
  pub left : List Given
  pub rest : List ℕ
  pub answers : List Pkt
  pub stream : Stream s used asked left rest
  pub begins : Begins s left
  pub unrefused : IsOpen rest
  pub answered : AreAnswers s.repo asked answers
  pub given_is : given ≡ spelled (advertised s ++ answers)
  pub fit : AllFit (advertised s ++ answers)
