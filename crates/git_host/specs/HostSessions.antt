-- Sessions over a host's own store: what is sent for the bytes used, by what was reported for each request. No machine is named here.
use Rattle.std.specs.Prelude.{◌≡◌, ◌≢◌, ◌⊎◌, ℕ, ◌+◌, ◌≤◌, Bool, true, false, if◌then◌else◌, List, [], ◌∷◌, ◌++◌, length, Option, Some, codes}
use Rattle.std.specs.Option.{ForSome}
use Rattle.git_names.specs.declared.object_format.Format.{Format}
use Rattle.git_pkt.specs.Packets.{Pkt}
use Rattle.git_pkt.specs.Splits.{Given}
use Rattle.git_pkt.specs.Faults.{IsOpen}
use Rattle.git_pkt.specs.declared.fault.Fault.{Fault}
use Rattle.git_pkt.specs.declared.fault.Kind.{Kind}
use Rattle.git_pkt.specs.declared.fault.Kind.TheVariants.{NotOurs, UnknownRef, PackSource, Truncated}
use Rattle.git_msg.specs.declared.offers.Offer.{Offer}
use Rattle.git_msg.specs.Asked.{Asked, fetch, ls_refs, object_info}
use Rattle.git_msg.specs.Requests.{AreBegun, IsStop}
use Rattle.git_msg.specs.WrittenRequest.{text_line}
use Rattle.git_msg.specs.Machine.RequestStreams.{AreAsked, IsRefusedAs}
use Rattle.git_server.specs.Packs.{Manner, whole, broken}
use Rattle.git_server.specs.Answers.{AllFit, advertisement_of, error_packet, refusal_by, spelled}
use Rattle.git_server.specs.declared.outcome.Outcome.{Outcome}
use Rattle.git_server.specs.declared.outcome.Outcome.TheVariants.{Flush, Closed, Refused}
use Rattle.git_host.specs.Admissions.{AdmissionFacts, IsAdmitted, IsRefusedBy, nothing_reported}
use Rattle.git_host.specs.FetchFacts.{FetchFacts, IsSoundFetchAnswer, before_pack, no_facts}
use Rattle.git_host.specs.ReferencesPlaces.{IsReferencesAnswerOf, ReferencesFacts, no_references}
use Rattle.git_host.specs.SizesPlaces.{IsSizesAnswerOf}

-- what a store reported for one request
pub data Facts : Type 0 where
  of_references : ReferencesFacts → Facts
  of_fetch : AdmissionFacts → FetchFacts → Facts
  of_sizes : List (Option ℕ) → Facts

-- nothing was reported for the request
abbrev pub nothing_for : Asked → Facts
nothing_for (ls_refs q) = of_references no_references
nothing_for (fetch q) = of_fetch nothing_reported (no_facts [])
nothing_for (object_info q) = of_sizes []

-- the packets are the answer to the request by what was reported; that to a fetch may break off
abbrev pub IsAnswerBy : Manner → Format → Asked → Facts → List Pkt → Type 0
IsAnswerBy whole format (ls_refs q) (of_references t) packets = IsReferencesAnswerOf format q t packets
IsAnswerBy manner format (fetch q) (of_fetch a t) packets = IsAdmitted format q a t.wanted × IsSoundFetchAnswer manner format q t packets
IsAnswerBy whole format (object_info q) (of_sizes sizes) packets = IsSizesAnswerOf q sizes packets
IsAnswerBy _ _ _ _ _ = ⊥

-- the packets are an answer to each request, in their order, each by what was reported for it
abbrev pub AreAnswersBy : Format → List Asked → List Facts → List Pkt → Type 0
AreAnswersBy format [] [] packets = packets ≡ []
AreAnswersBy format (q ∷ qs) (f ∷ fs) packets =
    (answer : List Pkt) × (more : List Pkt) × (packets ≡ answer ++ more) × IsAnswerBy whole format q f answer × AreAnswersBy format qs fs more
AreAnswersBy format _ _ _ = ⊥

-- what a session rests on: the offer, how many bytes of arguments a request may have, and whether the offer is advertised first
pub record HostSetting : Type 0 where
  pub offer : Offer
  pub limit : ℕ
  pub advertise : Bool

-- what is sent before the first answer
abbrev pub advertised : HostSetting → List Pkt
advertised s = if s.advertise then advertisement_of s.offer else []

-- each request was answered
pub record AllAnswered (s : HostSetting) (asked : List Asked) (reported : List Facts) (given : List ℕ) : Type 0 where
  pub answers : List Pkt
  pub answered : AreAnswersBy s.offer.format asked reported answers
  pub given_is : given ≡ spelled (advertised s ++ answers)
  pub fit : AllFit (advertised s ++ answers)

-- each request but the last was answered, and P holds of the last one, of what was reported for it and of the packets given for it
pub record AtLast (s : HostSetting) (asked : List Asked) (reported : List Facts) (given : List ℕ) (P : Asked → Facts → List Pkt → Type 0) : Type 0 where
  pub earlier : List Asked
  pub earlier_reported : List Facts
  pub q : Asked
  pub f : Facts
  pub answers : List Pkt
  pub front : List Pkt
  pub asked_is : asked ≡ earlier ++ q ∷ []
  pub reported_is : reported ≡ earlier_reported ++ f ∷ []
  pub answered : AreAnswersBy s.offer.format earlier earlier_reported answers
  pub last : P q f front
  pub given_is : given ≡ spelled (advertised s ++ (answers ++ front))
  pub fit : AllFit (advertised s ++ (answers ++ front))

-- ---- how a session ends

-- a fault of the input shows while it goes on, but for a request that is cut off, which shows at its end
abbrev pub ShowsWhere : Bool → Kind → Type 0
ShowsWhere true kind = kind ≡ Truncated
ShowsWhere false kind = kind ≢ Truncated

-- the bytes end the session so, where this is left after the whole requests and `end` bytes were used
abbrev pub EndsBy : HostSetting → Bool → List Given → List ℕ → ℕ → Outcome → Type 0
EndsBy s over left rest end Flush = (over ≡ false) × IsStop left × (rest ≡ [])
EndsBy s over left rest end Closed = (over ≡ true) × (left ≡ []) × (rest ≡ [])
EndsBy s over left rest end (Refused fault) = ShowsWhere over fault.kind × IsRefusedAs s.offer s.limit left rest end fault

-- what is sent at the end: an error packet, if the client sent something that is refused and no error packet
abbrev pub tail_of : Outcome → List Pkt
tail_of Flush = []
tail_of Closed = []
tail_of (Refused fault) = refusal_by fault.kind fault

-- the bytes end the session, and each whole request before that was answered: those bytes were sent, but for the tail
pub record StopsBy (s : HostSetting) (used : List ℕ) (over : Bool) (reported : List Facts) (given : List ℕ) (outcome : Outcome) : Type 0 where
  pub asked : List Asked
  pub left : List Given
  pub rest : List ℕ
  pub are_asked : AreAsked s.offer s.limit used asked left rest
  pub ends : EndsBy s over left rest (length used) outcome
  pub all : AllAnswered s asked reported given

-- the packet that refuses a request by a text of the host's
abbrev pub refusal_packet : List ℕ → Pkt
refusal_packet text = text_line (codes "ERR " ++ text)

-- the store lacks what the request asks for, which is refused by this name
abbrev pub IsLacking : Kind → Asked → Facts → Type 0
IsLacking kind (fetch q) (of_fetch a t) = IsRefusedBy kind q a
IsLacking kind q f = ⊥

-- ---- what is sent before an answer is whole

-- the one list is the front of the other
abbrev pub IsFront : {X : Type 0} → List X → List X → Type 0
IsFront {X} front all = (more : List X) × (all ≡ front ++ more)

-- each was reported in what is reported later
pub record GrowsAdmission (a later : AdmissionFacts) : Type 0 where
  pub wants : IsFront a.wants later.wants
  pub found : IsFront a.found later.found

pub record GrowsFetch (t later : FetchFacts) : Type 0 where
  pub has : IsFront t.has later.has
  pub ready : ForSome t.ready (λ ready. later.ready ≡ Some ready)
  pub boundary : IsFront t.boundary later.boundary
  pub boundary_ended : t.boundary_ended ≡ true → later.boundary_ended ≡ true
  pub wanted : IsFront t.wanted later.wanted
  pub pack : IsFront t.pack later.pack
  pub progress : IsFront t.progress later.progress

pub record GrowsReferences (t later : ReferencesFacts) : Type 0 where
  pub unborn : ForSome t.unborn (λ target. later.unborn ≡ Some target)
  pub refs : IsFront t.refs later.refs
  pub ended : t.ended ≡ true → later.ended ≡ true

abbrev pub Grows : Facts → Facts → Type 0
Grows (of_references t) (of_references later) = GrowsReferences t later
Grows (of_fetch a t) (of_fetch b later) = GrowsAdmission a b × GrowsFetch t later
Grows (of_sizes sizes) (of_sizes later) = IsFront sizes later
Grows f later = ⊥

-- the packets are the front of an answer to the request, by what was reported and what may be reported later
pub record IsFrontBy (format : Format) (q : Asked) (f : Facts) (front : List Pkt) : Type 0 where
  pub later : Facts
  pub grows : Grows f later
  pub more : List Pkt
  pub answer : IsAnswerBy whole format q later (front ++ more)

-- no more was sent than what comes before the section of the pack
abbrev pub IsBeforePack : Asked → Facts → List Pkt → Type 0
IsBeforePack (fetch q) (of_fetch a t) front = length front ≤ length (before_pack q t)
IsBeforePack q f front = Unit {0}

-- an answer that was cut short before its pack began, since what was asked could not be had: as far as it had come, and the error packet
pub record IsCutShort (format : Format) (fault : Fault) (q : Asked) (f : Facts) (packets : List Pkt) : Type 0 where
  pub front : List Pkt
  pub begins : IsFrontBy format q f front
  pub before : IsBeforePack q f front
  pub packets_are : packets ≡ front ++ error_packet fault ∷ []

-- what is sent while a request is answered: the front of an answer; or the answer as far as its pack could be had; or nothing, since the store
-- lacks what is asked for
abbrev pub IsSoFar : Format → Asked → Facts → List Pkt → Type 0
IsSoFar format q f front =
    IsFrontBy format q f front ⊎ (IsAnswerBy broken format q f front ⊎ ((kind : Kind) × IsLacking kind q f × (front ≡ [])))

-- what is sent for a request that the host refuses, by the name of the refusal: an error packet, for the store lacks what is asked for or
-- by a text of the host's; or the answer as far as the pack could be had, or what comes before it
abbrev pub IsTailBy : Kind → Format → Fault → Asked → Facts → List Pkt → Type 0
IsTailBy NotOurs format fault q f tail =
    (IsLacking NotOurs q f × (tail ≡ error_packet fault ∷ []))
    ⊎ ((text : List ℕ) × (f ≡ nothing_for q) × (tail ≡ refusal_packet text ∷ []))
IsTailBy UnknownRef format fault q f tail = IsLacking UnknownRef q f × (tail ≡ error_packet fault ∷ [])
IsTailBy PackSource format fault q f tail = IsAnswerBy broken format q f tail ⊎ IsCutShort format fault q f tail
IsTailBy kind format fault q f tail = ⊥

-- the host refused the last request, reported at its flush, which is the last packet that was used
pub record RefusesLast (s : HostSetting) (used : List ℕ) (reported : List Facts) (given : List ℕ) (fault : Fault) : Type 0 where
  pub asked : List Asked
  pub are_asked : AreAsked s.offer s.limit used asked [] []
  pub at : fault.offset + 4 ≡ length used
  pub last : AtLast s asked reported given (IsTailBy fault.kind s.offer.format fault)

-- the session ended so, by its bytes: just these were sent
pub record EndsByBytes (s : HostSetting) (used : List ℕ) (over : Bool) (reported : List Facts) (given : List ℕ) (outcome : Outcome) : Type 0 where
  pub before : List ℕ
  pub stops : StopsBy s used over reported before outcome
  pub given_is : given ≡ before ++ spelled (tail_of outcome)
  pub fit : AllFit (tail_of outcome)

-- or because the host refused the last request
abbrev pub EndsByHost : HostSetting → List ℕ → Bool → List Facts → List ℕ → Outcome → Type 0
EndsByHost s used over reported given (Refused fault) = (over ≡ false) × RefusesLast s used reported given fault
EndsByHost s used over reported given outcome = ⊥

-- the session ended so: for the bytes used, and by what was reported, just these were sent
abbrev pub IsHosted : HostSetting → List ℕ → Bool → List Facts → List ℕ → Outcome → Type 0
IsHosted s used over reported given outcome = EndsByBytes s used over reported given outcome ⊎ EndsByHost s used over reported given outcome

-- the session goes on and waits for bytes: the input has not ended, none of it is refused, and each whole request was answered
pub record IsWaiting (s : HostSetting) (used : List ℕ) (over : Bool) (reported : List Facts) (given : List ℕ) : Type 0 where
  pub asked : List Asked
  pub left : List Given
  pub rest : List ℕ
  pub goes_on : over ≡ false
  pub are_asked : AreAsked s.offer s.limit used asked left rest
  pub begun : AreBegun s.offer s.limit left
  pub unrefused : IsOpen rest
  pub all : AllAnswered s asked reported given

-- the last whole request is answered: each one before it was, and so much was sent for it
pub record IsUnderWay (s : HostSetting) (used : List ℕ) (over : Bool) (reported : List Facts) (given : List ℕ) : Type 0 where
  pub asked : List Asked
  pub goes_on : over ≡ false
  pub are_asked : AreAsked s.offer s.limit used asked [] []
  pub last : AtLast s asked reported given (IsSoFar s.offer.format)
