-- What a host's server represents: the bytes used, whether the input has ended, what was reported for each request, and the bytes given.
use Rattle.std.specs.Prelude.{◌≡◌, ◌⊎◌, ℕ, ◌+◌, ◌<◌, ◌≤◌, Bool, true, false, List, [], ◌∷◌, ◌++◌, length, Option, Some, None, IsSome, Result, Ok, Err}
use Rattle.git_names.specs.declared.object_format.Format.{Format}
use Rattle.git_pkt.specs.Packets.{Pkt, spelling_of}
use Rattle.git_pkt.specs.declared.fault.Fault.{Fault}
use Rattle.git_pkt.specs.declared.fault.Kind.{Kind}
use Rattle.git_pkt.specs.declared.fault.Kind.TheVariants.{NotOurs, PackSource, RemoteError, UnknownRef}
use Rattle.git_msg.specs.declared.offers.Offer.{Offer}
use Rattle.git_msg.specs.declared.streams.RequestStream.{RequestStream}
use Rattle.git_msg.specs.Asked.{Asked}
use Rattle.git_msg.specs.Kept.{Kept}
use Rattle.git_msg.specs.Machine.HeldRequest.{asked_of, holding_of}
use Rattle.git_msg.specs.Memory.{FaultNeedsRefusal}
use Rattle.git_msg.specs.Machine.RequestStreams.{AreAsked, HasRead, hold_of, is_within_packet, limit_of, offer_of, wants_input}
use Rattle.git_msg.specs.Machine.RequestStreams.{credit_of as stream_credit}
use Rattle.git_server.specs.Answers.{error_packet}
use Rattle.git_server.specs.Repository.{Entry}
use Rattle.git_server.specs.declared.outcome.Outcome.{Outcome}
use Rattle.git_server.specs.declared.outcome.Outcome.TheVariants.{Refused}
use Rattle.git_host.specs.HostSessions.{AllAnswered, AtLast, Facts, HostSetting, IsHosted, StopsBy, nothing_for, refusal_packet, tail_of}
use Rattle.git_host.specs.HostAnswers.{EndsAs, IsAnswering, IsBegun, IsNeeded, IsWithinLimit, LeavesAnswer, Terms, IsReason, IsTaken, IsUnwanted}
use Rattle.git_host.specs.HostAnswers.{is_broken, with_reported}
use Rattle.git_host.specs.ReferenceTexts.{RefusesTexts, SpellsEntry, Texts}
use Rattle.git_host.specs.declared.host_server.Phase.{Phase}
use Rattle.git_host.specs.declared.host_server.Phase.TheVariants.{Advertising, Reading, Asked as Whole, Answering, Refusing, Ended}
use Rattle.git_host.specs.declared.host_server.HostServer.{HostServer}
use Rattle.git_host.specs.declared.report.HostReported.{HostReported}
use Rattle.git_host.specs.declared.report.HostReported.TheVariants.{Packet as WasGiven, Taken, Hidden, NotAsked, OutOfMemory}
use Rattle.git_host.specs.declared.report.HostStep.{HostStep}
use Rattle.git_host.specs.declared.report.HostStep.TheVariants.{Packet as GivesPacket, NeedInput, Asked as AsksFor, Need as Needs, Ended as HasEnded}
use Rattle.git_host.specs.declared.report.Need.{Need}
use Rattle.git_host.specs.declared.report.Report.{Report}
use Rattle.git_host.specs.declared.report.Report.TheVariants.{Failed, Reference}
use Rattle.git_host.specs.declared.report.ReferenceFault.{ReferenceFault}

-- the setting of a session
abbrev pub setting_of : Offer → ℕ → Bool → HostSetting
setting_of offer limit advertise = record { offer = offer; limit = limit; advertise = advertise }

-- the outcome where the host refused the request whose flush is at this offset
abbrev pub ended_by : Kind → ℕ → Outcome
ended_by kind flush = Refused (record { kind = kind; offset = flush })

-- the session ended since what was asked could not be had
abbrev pub IsLost : Outcome → Type 0
IsLost (Refused fault) = fault.kind ≡ PackSource
IsLost outcome = ⊥

-- of the last request
abbrev pub with_last : (Facts → Facts) → List Facts → List Facts
with_last with [] = []
with_last with (f ∷ []) = with f ∷ []
with_last with (f ∷ g ∷ fs) = f ∷ with_last with (g ∷ fs)

-- the bytes that a call gave: those of a packet at least, and no more than the longest packet has
pub record AreHandedOut (bytes : List ℕ) : Type 0 where
  pub some : 4 ≤ length bytes
  pub fits : length bytes ≤ 65520

-- by this name a host refuses a request
abbrev pub is_of_host : Kind → Bool
is_of_host NotOurs = true
is_of_host UnknownRef = true
is_of_host PackSource = true
is_of_host kind = false

-- what a call that uses no bytes does to the fault that ends a session: it stays, and a new one is by a name of a host's
abbrev pub IsFaultAfter : Option Fault → Option Fault → Type 0
IsFaultAfter (Some fault) now = now ≡ Some fault
IsFaultAfter None None = Unit {0}
IsFaultAfter None (Some fault) = is_of_host fault.kind ≡ true

-- what its answers rest on
abbrev pub terms_of : HostSetting → Terms
terms_of s = record { format = s.offer.format; limit = s.limit }

-- a request that has come, for which nothing was reported or given
pub record IsUntouched (limit : ℕ) (request : Kept Asked) (q : Asked) (f : Facts) (front : List Pkt) : Type 0 where
  pub same : request.asked ≡ q
  pub bounded : IsWithinLimit limit request
  pub nothing : f ≡ nothing_for q
  pub none : front ≡ []

module _ {A : Type 0} where
  -- the stream has read these bytes, which ask for this, and reads on
  pub record ReadsOn (s : HostSetting) (used : List ℕ) (over : Bool) (asked : List Asked) (stream : RequestStream A) : Type 0 where
    pub reads : HasRead used asked stream
    pub wants : wants_input stream ≡ true
    pub offer : offer_of stream ≡ s.offer
    pub limit : limit_of stream ≡ s.limit
    pub goes_on : over ≡ false

  -- the advertisement is to be given
  pub record IsAdvertising (s : HostSetting) (used : List ℕ) (over : Bool) (reported : List Facts) (given : List ℕ) (stream : RequestStream A) : Type 0 where
    pub reads : ReadsOn s used over [] stream
    pub between : is_within_packet stream ≡ false
    pub advertises : s.advertise ≡ true
    pub none_reported : reported ≡ []
    pub none_given : given ≡ []

  -- all was sent
  pub record IsReading (s : HostSetting) (used : List ℕ) (over : Bool) (reported : List Facts) (given : List ℕ) (stream : RequestStream A) : Type 0 where
    pub asked : List Asked
    pub reads : ReadsOn s used over asked stream
    pub all : AllAnswered s asked reported given

  -- a whole request came, the last, whose flush is at this offset, and P holds of it, of what was reported for it and of what was sent for it
  pub record IsAtRequest (s : HostSetting) (used : List ℕ) (over : Bool) (reported : List Facts) (given : List ℕ) (stream : RequestStream A) (flush : ℕ)
      (P : Asked → Facts → List Pkt → Type 0) : Type 0 where
    pub asked : List Asked
    pub reads : ReadsOn s used over asked stream
    pub between : is_within_packet stream ≡ false
    pub are_asked : AreAsked s.offer s.limit used asked [] []
    pub at : flush + 4 ≡ length used
    pub last : AtLast s asked reported given P

  -- the input is refused, and the error packet is to be given
  pub record IsRefusing (s : HostSetting) (used : List ℕ) (over : Bool) (reported : List Facts) (given : List ℕ) (stream : RequestStream A)
      (fault : Fault) : Type 0 where
    pub between : is_within_packet stream ≡ false
    pub stops : StopsBy s used over reported given (Refused fault)
    pub tail : tail_of (Refused fault) ≡ error_packet fault ∷ []

  -- by the phase
  abbrev pub HostsIn : Phase A → HostSetting → List ℕ → Bool → List Facts → List ℕ → RequestStream A → ℕ → Type 0
  HostsIn Advertising s used over reported given stream flush = IsAdvertising s used over reported given stream
  HostsIn Reading s used over reported given stream flush = IsReading s used over reported given stream
  HostsIn (Whole request) s used over reported given stream flush =
      IsAtRequest s used over reported given stream flush (IsUntouched s.limit (holding_of request))
  HostsIn (Answering answer) s used over reported given stream flush =
      IsAtRequest s used over reported given stream flush (IsAnswering (terms_of s) answer)
  HostsIn (Refusing fault) s used over reported given stream flush = IsRefusing s used over reported given stream fault
  HostsIn (Ended outcome) s used over reported given stream flush = IsHosted s used over reported given outcome

  -- the server has used these bytes, with which the input has ended or not, this was reported for their requests, and those bytes were sent
  pub record Hosts (s : HostSetting) (used : List ℕ) (over : Bool) (reported : List Facts) (given : List ℕ) (server : HostServer A) : Type 0 where
    pub offer : server.offer ≡ s.offer
    pub limit : server.limits.args ≡ s.limit
    pub reads_within : limit_of server.stream ≡ s.limit
    pub stands : HostsIn server.phase s used over reported given server.stream server.flush

  -- the bytes of the packet that was sent last
  abbrev pub bytes_of : HostServer A → List ℕ
  bytes_of server = hold_of server.stream

  abbrev pub is_reading : Phase A → Bool
  is_reading Reading = true
  is_reading phase = false

  -- bytes are read on
  abbrev pub reads_on : HostServer A → Bool
  reads_on server = is_reading server.phase

  -- how the session ended, if it has
  abbrev pub outcome_in : Phase A → Option Outcome
  outcome_in (Ended outcome) = Some outcome
  outcome_in phase = None

  abbrev pub outcome_of : HostServer A → Option Outcome
  outcome_of server = outcome_in server.phase

  -- what the bytes of an open packet leave for the steps of its end; once the input is refused, nothing
  abbrev pub credit_in : Phase A → RequestStream A → ℕ
  credit_in (Refusing fault) stream = 0
  credit_in (Ended outcome) stream = 0
  credit_in phase stream = stream_credit stream

  abbrev pub credit_of : HostServer A → ℕ
  credit_of server = credit_in server.phase server.stream

  -- the session may end so by what the last call did: whatever stood before, this stands now
  abbrev pub Becomes : HostServer A → (List Facts → List Facts) → List ℕ → HostServer A → Type 0
  Becomes old with more new = (s : HostSetting) (used : List ℕ) (over : Bool) (reported : List Facts) (given : List ℕ) → Hosts s used over reported given old
      → Hosts s used over (with reported) (given ++ more) new

  -- nothing that counts has changed
  abbrev pub Stays : HostServer A → HostServer A → Type 0
  Stays old new = (s : HostSetting) (used : List ℕ) (over : Bool) (reported : List Facts) (given : List ℕ) → Hosts s used over reported given old
      → Hosts s used over reported given new

  -- for a request that came, nothing was reported
  abbrev pub begun_in : Phase A → Phase A → List Facts
  begun_in Reading (Whole request) = nothing_for (asked_of request) ∷ []
  begun_in old new = []

  abbrev pub begun_by : HostServer A → HostServer A → List Facts
  begun_by old new = begun_in old.phase new.phase

  -- a request is answered
  abbrev pub is_answering : Phase A → Bool
  is_answering (Answering answer) = true
  is_answering phase = false

  -- where `feed` leads: bytes that are read begin no answer, and a server that reads none stays where it is
  abbrev pub ReadsTo : Phase A → Phase A → Type 0
  ReadsTo Reading new = is_answering new ≡ false
  ReadsTo old new = new ≡ old

  -- what `feed` does
  abbrev pub FeedsHost : List ℕ → HostServer A → HostServer A → Type 0
  FeedsHost more old new = (s : HostSetting) (used : List ℕ) (over : Bool) (reported : List Facts) (given : List ℕ) → Hosts s used over reported given old
      → Hosts s (used ++ more) over (reported ++ begun_in old.phase new.phase) given new × ReadsTo old.phase new.phase

  -- the fault of the input that ends the session, reported or not
  abbrev pub fault_in : Phase A → Option Fault
  fault_in (Refusing fault) = Some fault
  fault_in (Ended (Refused fault)) = Some fault
  fault_in phase = None

  abbrev pub fault_of : HostServer A → Option Fault
  fault_of server = fault_in server.phase

  -- of a chunk with bytes a server that waits for some uses one at least, or the input is refused
  abbrev pub MovesHost : HostServer A → List ℕ → ℕ → HostServer A → Type 0
  MovesHost old chunk used new =
      (s : HostSetting) (so_far : List ℕ) (over : Bool) (reported : List Facts) (given : List ℕ) → Hosts s so_far over reported given old
      → reads_on old ≡ true → 0 < length chunk → 0 < used ⊎ IsSome (fault_of new)

  -- if the session does not end for want of memory, unless a list of at most as many bytes as the limit has was refused, that holds after the call
  abbrev pub KeepsHostToMemory : (ℕ → Type 0) → HostServer A → HostServer A → Type 0
  KeepsHostToMemory refuses old new =
      (s : HostSetting) (so_far : List ℕ) (over : Bool) (reported : List Facts) (given : List ℕ) → Hosts s so_far over reported given old
      → FaultNeedsRefusal refuses s.limit (fault_of old) → FaultNeedsRefusal refuses s.limit (fault_of new)

  -- the call uses no bytes: a fault that ends the session stays, and a new one is by a name of a host's
  abbrev pub KeepsFault : HostServer A → HostServer A → Type 0
  KeepsFault old new = (s : HostSetting) (used : List ℕ) (over : Bool) (reported : List Facts) (given : List ℕ) → Hosts s used over reported given old
      → IsFaultAfter (fault_of old) (fault_of new)

  -- the phase in which a fault of the input is reported to the client, but for an error packet of the client's
  abbrev pub refused_by : Kind → Fault → Phase A
  refused_by RemoteError fault = Ended (Refused fault)
  refused_by kind fault = Refusing fault

  -- the input is refused: what was read is dropped
  pub record StopsHost (fault : Fault) (old new : HostServer A) : Type 0 where
    pub offer : new.offer ≡ old.offer
    pub limits : new.limits ≡ old.limits
    pub phase : new.phase ≡ refused_by fault.kind fault
    pub anew : HasRead [] [] new.stream
    pub wants : wants_input new.stream ≡ true
    pub within : limit_of new.stream ≡ new.limits.args

  -- what `close` does
  abbrev pub ClosesHost : HostServer A → Bool → HostServer A → Type 0
  ClosesHost old true new = (reads_on old ≡ true) × (reads_on new ≡ false)
      × ((s : HostSetting) (used : List ℕ) (over : Bool) (reported : List Facts) (given : List ℕ) → Hosts s used over reported given old
      → Hosts s used true reported given new)
  ClosesHost old false new = (new ≡ old)
      × ((s : HostSetting) (used : List ℕ) (over : Bool) (reported : List Facts) (given : List ℕ) → Hosts s used over reported given old → reads_on old ≡ false)

  -- the server waits for this
  abbrev pub WaitsFor : HostStep → Phase A → Type 0
  WaitsFor NeedInput Reading = Unit {0}
  WaitsFor AsksFor (Whole request) = Unit {0}
  WaitsFor (Needs need) (Answering answer) = IsNeeded need answer
  WaitsFor (HasEnded outcome) (Ended same) = outcome ≡ same
  WaitsFor step phase = ⊥

  -- the session ended since what was asked could not be had
  abbrev pub IsLostIn : Phase A → Type 0
  IsLostIn (Ended outcome) = IsLost outcome
  IsLostIn phase = ⊥

  -- where `next` leads: the advertisement is followed by input, and the session ends by the error packet of a fault or after an answer that
  -- broke off; beside that only an answer goes on, and none that needs something
  abbrev pub LeadsTo : Phase A → Phase A → Type 0
  LeadsTo Advertising new = new ≡ Reading
  LeadsTo (Refusing fault) new = new ≡ Ended (Refused fault)
  LeadsTo (Answering answer) new = (is_broken answer ≡ true → IsLostIn new) × ((need : Need) → IsNeeded need answer → new ≡ Answering answer)
  LeadsTo old new = new ≡ old

  -- what `next` does: it gives a packet, or states what the server waits for
  abbrev pub StepsHost : HostServer A → HostStep → HostServer A → Type 0
  StepsHost old GivesPacket new = (s : HostSetting) (used : List ℕ) (over : Bool) (reported : List Facts) (given : List ℕ)
      → Hosts s used over reported given old
      → Hosts s used over reported (given ++ bytes_of new) new × AreHandedOut (bytes_of new) × LeadsTo old.phase new.phase
  StepsHost old step new = (s : HostSetting) (used : List ℕ) (over : Bool) (reported : List Facts) (given : List ℕ) → Hosts s used over reported given old
      → Hosts s used over reported given new × WaitsFor step new.phase × LeadsTo old.phase new.phase

  -- the bytes that a report gave
  abbrev pub given_with : HostReported → RequestStream A → List ℕ
  given_with WasGiven stream = hold_of stream
  given_with reported stream = []

  -- a report whose packet was sent has one
  abbrev pub IsGivenWith : HostReported → RequestStream A → Type 0
  IsGivenWith WasGiven stream = AreHandedOut (hold_of stream)
  IsGivenWith reported stream = Unit {0}

  -- why a report gave no packet, or changed nothing, if it did so
  abbrev pub HasReason : Report → Phase A → HostReported → Type 0
  HasReason report (Answering answer) WasGiven = Unit {0}
  HasReason report (Answering answer) Taken = Unit {0}
  HasReason report (Answering answer) Hidden = IsUnwanted report answer
  HasReason report (Answering answer) reported = IsReason report answer reported
  HasReason report phase reported = reported ≡ NotAsked

  -- a report that was refused leaves the phase as it was
  abbrev pub LeavesPhase : HostReported → Phase A → Phase A → Type 0
  LeavesPhase OutOfMemory (Answering old) (Answering new) = LeavesAnswer OutOfMemory old new
  LeavesPhase OutOfMemory old new = ⊥
  LeavesPhase reported old new = new ≡ old

  -- what a report leads to: the end of a pack, and that the store cannot answer, which ends the session at once, or as soon as that is looked at;
  -- one that was refused leads nowhere
  abbrev pub EndsHost : Report → HostReported → Phase A → Phase A → Type 0
  EndsHost report WasGiven old (Answering answer) = EndsAs report answer
  EndsHost report Taken old (Answering answer) = IsTaken report answer
  EndsHost Failed WasGiven old (Ended outcome) = IsLost outcome
  EndsHost report WasGiven old new = ⊥
  EndsHost report Taken old new = ⊥
  EndsHost report Hidden old new = Unit {0}
  EndsHost report reported old new = LeavesPhase reported old new

  -- what a report does, by what came of it
  abbrev pub ReportsHost : Report → HostServer A → HostReported → HostServer A → Type 0
  ReportsHost report old reported new = (s : HostSetting) (used : List ℕ) (over : Bool) (facts : List Facts) (given : List ℕ)
      → Hosts s used over facts given old
      → Hosts s used over (with_last (with_reported reported report) facts) (given ++ given_with reported new.stream) new
      × IsGivenWith reported new.stream × HasReason report old.phase reported × EndsHost report reported old.phase new.phase

  -- a request waits to be accepted or refused
  abbrev pub is_asked : Phase A → Bool
  is_asked (Whole request) = true
  is_asked phase = false

  -- the request is answered from now on; any other phase stays
  abbrev pub IsAccepted : Format → Phase A → Phase A → Type 0
  IsAccepted format (Whole request) (Answering answer) = IsBegun format request answer
  IsAccepted format (Whole request) new = ⊥
  IsAccepted format old new = new ≡ old

  -- where a session begins
  abbrev pub first_phase : Bool → Phase A
  first_phase true = Advertising
  first_phase false = Reading

  -- what it is to accept a request
  abbrev pub AcceptsHost : HostServer A → Bool → HostServer A → Type 0
  AcceptsHost old true new = (is_asked old.phase ≡ true) × (is_asked new.phase ≡ false) × Stays old new
  AcceptsHost old false new = (is_asked old.phase ≡ false) × (new ≡ old)

  -- what it is to refuse one by a text: the session is over
  abbrev pub RefusesHost : List ℕ → HostServer A → Bool → HostServer A → Type 0
  RefusesHost text old true new = (new.phase ≡ Ended (ended_by NotOurs old.flush)) × (bytes_of new ≡ spelling_of (refusal_packet text))
      × AreHandedOut (bytes_of new)
      × ((s : HostSetting) (used : List ℕ) (over : Bool) (reported : List Facts) (given : List ℕ) → Hosts s used over reported given old
      → Hosts s used over reported (given ++ bytes_of new) new)
  RefusesHost text old false new = Stays old new × ((s : HostSetting) (used : List ℕ) (over : Bool) (reported : List Facts) (given : List ℕ)
      → Hosts s used over reported given old → length text ≤ 65511 → is_asked old.phase ≡ false)

  -- what the report of a reference by its texts does: the reference that they are is reported; or they are none, and nothing changes
  abbrev pub ReportsTexts : Texts → HostServer A → Result HostReported ReferenceFault → HostServer A → Type 0
  ReportsTexts texts old (Ok reported) new =
      (entry : Entry) × SpellsEntry old.offer.format texts entry × ReportsHost (Reference entry) old reported new
  ReportsTexts texts old (Err fault) new = RefusesTexts old.offer.format texts fault × (new ≡ old)
