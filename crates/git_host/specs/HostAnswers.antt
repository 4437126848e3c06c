-- How far the answer to the request at hand has come, by what was reported and what was sent; and what a report does.
use Rattle.std.specs.Prelude.{◌≡◌, ◌≢◌, ℕ, ◌≤◌, Bool, true, false, ◌||◌, List, [], ◌∷◌, ◌++◌, take, Option, Some, None, Result, Ok, Err}
use Rattle.git_names.specs.ObjectName.{ObjectName}
use Rattle.git_names.specs.RefName.{IsRefName}
use Rattle.git_names.specs.declared.object_format.Format.{Format}
use Rattle.git_names.specs.NameBytes.{name_bytes}
use Rattle.git_pkt.specs.Packets.{Pkt, spelling_of}
use Rattle.git_pkt.specs.declared.fault.Kind.{Kind}
use Rattle.git_msg.specs.declared.requests.Request.{Request}
use Rattle.git_msg.specs.Kept.{Kept}
use Rattle.git_msg.specs.Machine.HeldRequest.{asked_of as request_asked, holding_of}
use Rattle.git_msg.specs.Arguments.{Arg}
use Rattle.git_msg.specs.Asked.{Asked, fetch, ls_refs, object_info, shallows_in}
use Rattle.git_server.specs.Packs.{Manner, whole, broken}
use Rattle.git_server.specs.Objects.{object_of}
use Rattle.git_server.specs.Answers.{reference_packet}
use Rattle.git_server.specs.Repository.{Entry, IsNamed, IsOfFormat, IsUnshallowOf}
use Rattle.git_host.specs.Admissions.{AdmissionFacts, IsAdmitted, IsOfOtherFormat, IsSame, RepresentsAdmission, asked_of, format_of, is_want, is_want_ref}
use Rattle.git_host.specs.Admissions.{step_of}
use Rattle.git_host.specs.Admissions.{with_found, with_want}
use Rattle.git_host.specs.FetchFacts.{FetchFacts, no_facts}
use Rattle.git_host.specs.FetchPlaces.{ReportsAndGives, Represents, is_before_pack, is_boundary, is_have, is_loss, is_pack, is_ready_asked, with_have}
use Rattle.git_host.specs.FetchPlaces.{with_boundary_end, with_line}
use Rattle.git_host.specs.FetchPlaces.{with_pack, with_progress, with_ready}
use Rattle.git_host.specs.FetchPlaces.{WantsNoProgress, asked_of as fetch_of, format_of as fetch_format, step_of as fetch_step}
use Rattle.git_host.specs.ReferencesPlaces.{HasBegun, IsUnsoundAfter, ReferencesFacts, RepresentsReferences, is_whole, with_ref, with_unborn}
use Rattle.git_host.specs.ReferencesPlaces.{format_of as references_format, peel_of, symrefs_of, with_references_end}
use Rattle.git_host.specs.ReferenceTexts.{RefusesName}
use Rattle.git_host.specs.SizesPlaces.{IsAsking, RepresentsSizes, sizes_asked}
use Rattle.git_host.specs.HostSessions.{Facts, IsAnswerBy, IsBeforePack, IsFrontBy, IsLacking, nothing_for, of_fetch, of_references, of_sizes}
use Rattle.git_host.specs.declared.admission.Admission.{Admission as AdmissionMachine}
use Rattle.git_host.specs.declared.admission.AdmissionStep.{AdmissionStep}
use Rattle.git_host.specs.declared.admission.AdmissionStep.TheVariants.{AskWant, AskWantRef, Admitted}
use Rattle.git_host.specs.declared.fetch_answer.BoundaryReported.{BoundaryReported}
use Rattle.git_host.specs.declared.fetch_answer.BoundaryReported.TheVariants as Line
use Rattle.git_host.specs.declared.fetch_answer.ProgressReported.{ProgressReported}
use Rattle.git_host.specs.declared.fetch_answer.ProgressReported.TheVariants as Progressed
use Rattle.git_host.specs.declared.fetch_answer.BoundaryEnd.{BoundaryEnd}
use Rattle.git_host.specs.declared.fetch_answer.BoundaryEnd.TheVariants.{NotAsked as EndNotAsked, Absent, Packet as DelimGiven}
use Rattle.git_host.specs.declared.fetch_answer.FetchAnswer.{FetchAnswer}
use Rattle.git_host.specs.declared.fetch_answer.Step.{Step}
use Rattle.git_host.specs.declared.fetch_answer.Step.TheVariants.{AskHave, AskReady, AskBoundary, AskPack}
use Rattle.git_host.specs.declared.fetch_answer.Step.TheVariants.{Packet as FetchPacket, Whole as FetchWhole, Broken as FetchBroken}
use Rattle.git_host.specs.declared.references_answer.ReferencesAnswer.{ReferencesAnswer}
use Rattle.git_host.specs.declared.references_answer.Reported.{Reported}
use Rattle.git_host.specs.declared.references_answer.Reported.TheVariants.{Packet as ReferencePacket, Hidden as ReferenceHidden, Unsorted as ReferenceUnsorted}
use Rattle.git_host.specs.declared.references_answer.Reported.TheVariants.{MixedFormats as ReferenceMixed, HeadTwice as ReferenceTwice}
use Rattle.git_host.specs.declared.references_answer.Reported.TheVariants.{NotAsked as ReferenceNotAsked}
use Rattle.git_host.specs.declared.sizes_answer.SizesAnswer.{SizesAnswer}
use Rattle.git_host.specs.declared.sizes_answer.SizesStep.{SizesStep}
use Rattle.git_host.specs.declared.sizes_answer.SizesStep.TheVariants.{AskSize, Packet as SizesPacket, Whole as SizesWhole}
use Rattle.git_host.specs.declared.host_answer.HostAnswer.{HostAnswer}
use Rattle.git_host.specs.declared.host_answer.HostAnswer.TheVariants.{Admission, Fetch, References, Sizes, Whole}
use Rattle.git_host.specs.declared.host_answer.Failing.{Failing}
use Rattle.git_host.specs.declared.host_answer.Failing.TheVariants.{NotAsked as FailingUnasked, Packet as FailingPacket, CutShort}
use Rattle.git_host.specs.declared.host_answer.AnswerStep.{AnswerStep}
use Rattle.git_host.specs.declared.host_answer.AnswerStep.TheVariants.{Packet as GivesPacket, Need as Needs, Whole as AllGiven, Broken, Refused as IsRefused}
use Rattle.git_host.specs.declared.report.HostReported.{HostReported}
use Rattle.git_host.specs.declared.report.HostReported.TheVariants.{Packet, Taken, Hidden, NotAsked, MixedFormats, Unsorted, HeadTwice, NotShallow, OutOfMemory}
use Rattle.git_host.specs.declared.report.ReferenceFault.{ReferenceFault}
use Rattle.git_host.specs.declared.report.Need.{Need}
use Rattle.git_host.specs.declared.report.Need.TheVariants.{Want as NeedWant, WantRef as NeedWantRef, Have as NeedHave, Ready as NeedReady}
use Rattle.git_host.specs.declared.report.Need.TheVariants.{Boundary as NeedBoundary, Pack as NeedPack, Reference as NeedReference, Size as NeedSize}
use Rattle.git_host.specs.declared.report.Report.{Report}
use Rattle.git_host.specs.declared.report.Report.TheVariants.{Want, WantRef, Have, Ready, Boundary, BoundaryEnd as EndsBoundary, Pack, Progress}
use Rattle.git_host.specs.declared.report.Report.TheVariants.{PackEnd, Failed}
use Rattle.git_host.specs.declared.report.Report.TheVariants.{Reference, Unborn, ReferencesEnd, Size}

-- ---- what a report adds to what was reported for its request

-- of what was reported for an answer to a fetch
abbrev pub on_fetch : (FetchFacts → FetchFacts) → Facts → Facts
on_fetch with (of_fetch a t) = of_fetch a (with t)
on_fetch with f = f

abbrev pub on_references : (ReferencesFacts → ReferencesFacts) → Facts → Facts
on_references with (of_references t) = of_references (with t)
on_references with f = f

abbrev pub on_sizes : (List (Option ℕ) → List (Option ℕ)) → Facts → Facts
on_sizes with (of_sizes sizes) = of_sizes (with sizes)
on_sizes with f = f

abbrev pub on_wants : Bool → Facts → Facts
on_wants has (of_fetch a t) = of_fetch (with_want has a) t
on_wants has f = f

-- a wanted reference: its object is one of the answer's, if there is such a reference
abbrev pub on_want_refs : Option ObjectName → Facts → Facts
on_want_refs (Some id) (of_fetch a t) = of_fetch (with_found (Some id) a) (record t { wanted = t.wanted ++ id ∷ [] })
on_want_refs None (of_fetch a t) = of_fetch (with_found None a) t
on_want_refs id f = f

-- the objects of the references that the store has
abbrev pub found_ids : List (Option ObjectName) → List ObjectName
found_ids [] = []
found_ids (Some id ∷ found) = id ∷ found_ids found
found_ids (None ∷ found) = found_ids found

-- the bytes of the pack, or of the progress, that one packet takes
abbrev pub part_of : List ℕ → List ℕ
part_of bytes = take 65515 bytes

-- what was reported, with this report more
abbrev pub with_report : Report → Facts → Facts
with_report (Want has) f = on_wants has f
with_report (WantRef id) f = on_want_refs id f
with_report (Have has) f = on_fetch (with_have has) f
with_report (Ready ready) f = on_fetch (with_ready ready) f
with_report (Boundary line) f = on_fetch (with_line line) f
with_report EndsBoundary f = on_fetch with_boundary_end f
with_report (Pack bytes) f = on_fetch (with_pack (part_of bytes.now)) f
with_report (Progress bytes) f = on_fetch (with_progress (part_of bytes.now)) f
with_report PackEnd f = f
with_report Failed f = f
with_report (Reference entry) f = on_references (with_ref entry) f
with_report (Unborn target) f = on_references (with_unborn (name_bytes target)) f
with_report ReferencesEnd f = on_references with_references_end f
with_report (Size size) f = on_sizes (λ sizes. sizes ++ size ∷ []) f

-- the same of a report that the request does not ask for: progress is dropped
abbrev pub with_hidden : Report → Facts → Facts
with_hidden (Progress bytes) f = f
with_hidden report f = with_report report f

-- by what came of the report
abbrev pub with_reported : HostReported → Report → Facts → Facts
with_reported Packet report f = with_report report f
with_reported Taken report f = with_report report f
with_reported Hidden report f = with_hidden report f
with_reported _ report f = f

-- what came of a report whose packet was sent, if it was asked for
abbrev pub packet_where : Bool → HostReported
packet_where true = Packet
packet_where false = NotAsked

-- and of one that was taken
abbrev pub taken_where : Bool → HostReported
taken_where true = Taken
taken_where false = NotAsked

-- whether something is asked that a request wants
abbrev pub asks_wanted : AdmissionStep → Bool
asks_wanted (AskWant at) = true
asks_wanted (AskWantRef at) = true
asks_wanted step = false

-- an answer is cut short where something is asked
abbrev pub cut_where : Bool → Failing
cut_where true = CutShort
cut_where false = FailingUnasked

-- the report is that what is asked cannot be had
abbrev pub is_failure : Report → Bool
is_failure Failed = true
is_failure report = false

-- of a line of a shallow boundary
abbrev pub line_as : BoundaryReported → HostReported
line_as Line.Packet = Packet
line_as Line.NotAsked = NotAsked
line_as Line.MixedFormats = MixedFormats
line_as Line.NotShallow = NotShallow

-- of progress
abbrev pub progress_as : ProgressReported → HostReported
progress_as Progressed.Packet = Packet
progress_as Progressed.NotAsked = NotAsked
progress_as Progressed.Hidden = Hidden

-- of the end of a shallow boundary
abbrev pub ended_as : BoundaryEnd → HostReported
ended_as EndNotAsked = NotAsked
ended_as Absent = Taken
ended_as DelimGiven = Packet

-- of a reference
abbrev pub reported_as : Reported → HostReported
reported_as ReferencePacket = Packet
reported_as ReferenceHidden = Hidden
reported_as ReferenceUnsorted = Unsorted
reported_as ReferenceMixed = MixedFormats
reported_as ReferenceTwice = HeadTwice
reported_as ReferenceNotAsked = NotAsked

-- what is to be done next for an answer to a fetch
abbrev pub of_fetch_step : Step → AnswerStep
of_fetch_step FetchPacket = GivesPacket
of_fetch_step (AskHave at) = Needs (NeedHave at)
of_fetch_step AskReady = Needs NeedReady
of_fetch_step AskBoundary = Needs NeedBoundary
of_fetch_step AskPack = Needs NeedPack
of_fetch_step FetchWhole = AllGiven
of_fetch_step FetchBroken = Broken

-- and about sizes
abbrev pub of_sizes_step : SizesStep → AnswerStep
of_sizes_step SizesPacket = GivesPacket
of_sizes_step (AskSize at) = Needs (NeedSize at)
of_sizes_step SizesWhole = AllGiven

-- what the answers of a session rest on: the format of object names, and how many bytes of arguments a request may have
pub record Terms : Type 0 where
  pub format : Format
  pub limit : ℕ

-- no more is stored of the request than is counted of its lines, and no more is counted than the limit has
pub record IsWithinLimit {Q : Type 0} (limit : ℕ) (request : Kept Q) : Type 0 where
  pub covered : request.stored ≤ request.kept
  pub within : request.kept ≤ limit

module _ {A : Type 0} where
  -- an admission stands so: it is not through, nothing was reported for the answer but the objects of wanted references, and no packet was sent
  pub record IsAdmitting (m : Terms) (q : List Arg) (a : AdmissionFacts) (t : FetchFacts) (front : List Pkt)
      (admission : AdmissionMachine A) : Type 0 where
    pub asked : asked_of admission ≡ q
    pub format_is : format_of admission ≡ m.format
    pub bounded : IsWithinLimit m.limit admission.request
    pub represents : RepresentsAdmission a admission
    pub facts : t ≡ no_facts (found_ids a.found)
    pub none : front ≡ []

  -- an answer to a fetch that was admitted
  pub record IsFetching (m : Terms) (q : List Arg) (a : AdmissionFacts) (t : FetchFacts) (front : List Pkt) (answer : FetchAnswer A) : Type 0 where
    pub asked : fetch_of answer ≡ q
    pub format_is : fetch_format answer ≡ m.format
    pub bounded : IsWithinLimit m.limit answer.request
    pub admitted : IsAdmitted m.format q a t.wanted
    pub represents : Represents t front answer

  -- an answer for references
  pub record IsListing (m : Terms) (q : List Arg) (t : ReferencesFacts) (front : List Pkt) (answer : ReferencesAnswer A) : Type 0 where
    pub format_is : references_format answer ≡ m.format
    pub bounded : IsWithinLimit m.limit answer.listing
    pub represents : RepresentsReferences q t front answer

  -- an answer about sizes
  pub record IsSizing (m : Terms) (q : List Arg) (sizes : List (Option ℕ)) (front : List Pkt) (answer : SizesAnswer A) : Type 0 where
    pub asked : sizes_asked answer ≡ q
    pub bounded : IsWithinLimit m.limit answer.request
    pub represents : RepresentsSizes sizes front answer

  -- for the request this was reported, and these packets were sent
  abbrev pub IsAnswering : Terms → HostAnswer A → Asked → Facts → List Pkt → Type 0
  IsAnswering m (Admission admission) (fetch q) (of_fetch a t) front = IsAdmitting m q a t front admission
  IsAnswering m (Fetch answer) (fetch q) (of_fetch a t) front = IsFetching m q a t front answer
  IsAnswering m (References answer) (ls_refs q) (of_references t) front = IsListing m q t front answer
  IsAnswering m (Sizes answer) (object_info q) (of_sizes sizes) front = IsSizing m q sizes front answer
  IsAnswering m Whole q f front = IsAnswerBy whole m.format q f front
  IsAnswering m _ _ _ _ = ⊥

  -- an answer to the request begins, and nothing was reported or sent for it
  abbrev pub IsBegun : Format → Request A → HostAnswer A → Type 0
  IsBegun format request answer = (m : Terms) → m.format ≡ format → IsWithinLimit m.limit (holding_of request)
      → IsAnswering m answer (request_asked request) (nothing_for (request_asked request)) []

  abbrev pub is_admission : HostAnswer A → Bool
  is_admission (Admission admission) = true
  is_admission answer = false

  -- an admission that is through
  abbrev pub IsThrough : HostAnswer A → Type 0
  IsThrough (Admission admission) = step_of admission ≡ Admitted
  IsThrough answer = ⊥

  -- what was reported becomes this, and these bytes are the next packet
  abbrev pub GivesOn : (Facts → Facts) → HostAnswer A → List ℕ → HostAnswer A → Type 0
  GivesOn with old bytes new = (m : Terms) (q : Asked) (f : Facts) (front : List Pkt) → IsAnswering m old q f front
      → (packet : Pkt) × (bytes ≡ spelling_of packet) × IsAnswering m new q (with f) (front ++ packet ∷ [])

  -- what was reported becomes this, and no packet is sent
  abbrev pub GoesOn : (Facts → Facts) → HostAnswer A → HostAnswer A → Type 0
  GoesOn with old new = (m : Terms) (q : Asked) (f : Facts) (front : List Pkt) → IsAnswering m old q f front
      → IsAnswering m new q (with f) front

  -- what was sent is an answer, whole or broken off
  abbrev pub IsGiven : Manner → HostAnswer A → Type 0
  IsGiven manner old = (m : Terms) (q : Asked) (f : Facts) (front : List Pkt) → IsAnswering m old q f front → IsAnswerBy manner m.format q f front

  -- the store lacks what is asked for, and nothing was sent
  abbrev pub LacksIt : Kind → HostAnswer A → Type 0
  LacksIt kind old = (m : Terms) (q : Asked) (f : Facts) (front : List Pkt) → IsAnswering m old q f front → IsLacking kind q f × (front ≡ [])

  -- this is what the answer needs
  abbrev pub IsNeeded : Need → HostAnswer A → Type 0
  IsNeeded (NeedWant at) (Admission admission) = step_of admission ≡ AskWant at
  IsNeeded (NeedWantRef at) (Admission admission) = step_of admission ≡ AskWantRef at
  IsNeeded (NeedHave at) (Fetch answer) = fetch_step answer ≡ AskHave at
  IsNeeded NeedReady (Fetch answer) = fetch_step answer ≡ AskReady
  IsNeeded NeedBoundary (Fetch answer) = fetch_step answer ≡ AskBoundary
  IsNeeded NeedPack (Fetch answer) = fetch_step answer ≡ AskPack
  IsNeeded NeedReference (References answer) = Unit {0}
  IsNeeded (NeedSize at) (Sizes answer) = IsAsking answer at
  IsNeeded need answer = ⊥

  -- an answer that needs something stays as it is, and needs the same
  abbrev pub WaitsStill : HostAnswer A → AnswerStep → HostAnswer A → Type 0
  WaitsStill old step new = (need : Need) → IsNeeded need old → (step ≡ Needs need) × (new ≡ old)

  -- what `next` does, by what it returns
  abbrev pub StepsAnswer : HostAnswer A → AnswerStep → List ℕ → HostAnswer A → Type 0
  StepsAnswer old GivesPacket bytes new = GivesOn (λ f. f) old bytes new
  StepsAnswer old (Needs need) bytes new = GoesOn (λ f. f) old new × IsNeeded need new
  StepsAnswer old AllGiven bytes new = IsGiven whole old
  StepsAnswer old Broken bytes new = IsGiven broken old
  StepsAnswer old (IsRefused kind) bytes new = LacksIt kind old

  -- the report is asked for
  abbrev pub IsAskedFor : Report → HostAnswer A → Type 0
  IsAskedFor (Want has) (Admission admission) = is_want (step_of admission) ≡ true
  IsAskedFor (WantRef id) (Admission admission) = is_want_ref (step_of admission) ≡ true
  IsAskedFor (Have has) (Fetch answer) = is_have (fetch_step answer) ≡ true
  IsAskedFor (Ready ready) (Fetch answer) = is_ready_asked (fetch_step answer) ≡ true
  IsAskedFor (Boundary line) (Fetch answer) = is_boundary (fetch_step answer) ≡ true
  IsAskedFor EndsBoundary (Fetch answer) = is_boundary (fetch_step answer) ≡ true
  IsAskedFor (Pack bytes) (Fetch answer) = is_pack (fetch_step answer) ≡ true
  IsAskedFor (Progress bytes) (Fetch answer) = is_pack (fetch_step answer) ≡ true
  IsAskedFor PackEnd (Fetch answer) = is_pack (fetch_step answer) ≡ true
  IsAskedFor (Reference entry) (References answer) = ¬ is_whole answer
  IsAskedFor (Unborn target) (References answer) = ¬ HasBegun answer
  IsAskedFor ReferencesEnd (References answer) = ¬ is_whole answer
  IsAskedFor (Size size) (Sizes answer) = (at : ℕ) × IsAsking answer at
  IsAskedFor Failed (Admission admission) = asks_wanted (step_of admission) ≡ true
  IsAskedFor Failed (Fetch answer) = (is_before_pack (fetch_step answer) || is_pack (fetch_step answer)) ≡ true
  IsAskedFor Failed (References answer) = Unit {0}
  IsAskedFor Failed (Sizes answer) = (at : ℕ) × IsAsking answer at
  IsAskedFor report answer = ⊥

  -- why a report changed nothing
  abbrev pub IsReason : Report → HostAnswer A → HostReported → Type 0
  IsReason report old NotAsked = ¬ IsAskedFor report old
  IsReason (WantRef id) (Admission admission) MixedFormats = IsOfOtherFormat id admission
  IsReason (WantRef id) (Admission admission) OutOfMemory = is_want_ref (step_of admission) ≡ true
  IsReason (Boundary line) (Fetch answer) MixedFormats = (object_of line).format ≢ fetch_format answer
  IsReason (Boundary line) (Fetch answer) NotShallow = ¬ IsUnshallowOf (shallows_in (fetch_of answer)) line
  IsReason (Reference entry) (References answer) MixedFormats = IsUnsoundAfter entry answer
  IsReason (Reference entry) (References answer) Unsorted = IsUnsoundAfter entry answer
  IsReason (Reference entry) (References answer) HeadTwice = IsUnsoundAfter entry answer
  IsReason report old reported = ⊥

  -- a report that was refused leaves the answer as it was; where memory ran out, an admission asks for the same and keeps the same objects
  abbrev pub LeavesAnswer : HostReported → HostAnswer A → HostAnswer A → Type 0
  LeavesAnswer OutOfMemory (Admission old) (Admission new) = IsSame old new
  LeavesAnswer OutOfMemory old new = ⊥
  LeavesAnswer reported old new = new ≡ old

  -- the request does not ask for what was reported: a reference, or progress where it wants none
  abbrev pub IsUnwanted : Report → HostAnswer A → Type 0
  IsUnwanted (Progress bytes) (Fetch answer) = WantsNoProgress answer
  IsUnwanted (Reference entry) answer = Unit {0}
  IsUnwanted (Unborn target) answer = Unit {0}
  IsUnwanted report answer = ⊥

  -- for what was reported no packet is sent: what the store has of what is asked for, that a boundary has no line, and no bytes at all
  abbrev pub IsTaken : Report → HostAnswer A → Type 0
  IsTaken (Want has) answer = Unit {0}
  IsTaken (WantRef id) answer = Unit {0}
  IsTaken (Have has) answer = Unit {0}
  IsTaken EndsBoundary (Fetch answer) = is_boundary (fetch_step answer) ≡ false
  IsTaken (Pack bytes) answer = bytes.now ≡ []
  IsTaken (Progress bytes) answer = bytes.now ≡ []
  IsTaken report answer = ⊥

  -- the answer broke off, since its pack could not be had
  abbrev pub is_broken : HostAnswer A → Bool
  is_broken (Fetch answer) = is_loss (fetch_step answer)
  is_broken answer = false

  -- the end of a pack makes the answer whole, and its loss breaks it off
  abbrev pub EndsAs : Report → HostAnswer A → Type 0
  EndsAs PackEnd (Fetch answer) = fetch_step answer ≡ FetchWhole
  EndsAs Failed (Fetch answer) = fetch_step answer ≡ FetchBroken
  EndsAs Failed answer = ⊥
  EndsAs report answer = Unit {0}

  -- what was sent is the front of an answer, before its pack
  abbrev pub IsCut : HostAnswer A → Type 0
  IsCut old = (m : Terms) (q : Asked) (f : Facts) (front : List Pkt) → IsAnswering m old q f front
      → IsFrontBy m.format q f front × IsBeforePack q f front

  -- what it does that what is asked cannot be had, by what came of it
  abbrev pub FailsBy : HostAnswer A → Failing → List ℕ → HostAnswer A → Type 0
  FailsBy old FailingUnasked bytes new = (new ≡ old) × ¬ IsAskedFor Failed old
  FailsBy old FailingPacket bytes new = GivesOn (λ f. f) old bytes new × EndsAs Failed new
  FailsBy old CutShort bytes new = IsCut old

  -- the same of an answer to a fetch
  abbrev pub FailsFetch : FetchAnswer A → Failing → List ℕ → FetchAnswer A → Type 0
  FailsFetch old FailingUnasked bytes new = (new ≡ old) × (is_before_pack (fetch_step old) ≡ false) × (is_pack (fetch_step old) ≡ false)
  FailsFetch old FailingPacket bytes new = ReportsAndGives (λ t. t) old bytes new × (fetch_step new ≡ FetchBroken)
  FailsFetch old CutShort bytes new = is_before_pack (fetch_step old) ≡ true

  -- what a report does, by what came of it
  abbrev pub ReportsBy : Report → HostAnswer A → HostReported → List ℕ → HostAnswer A → Type 0
  ReportsBy report old Packet bytes new = GivesOn (with_report report) old bytes new × EndsAs report new
  ReportsBy report old Taken bytes new = GoesOn (with_report report) old new × IsTaken report new
  ReportsBy report old Hidden bytes new = GoesOn (with_hidden report) old new × IsUnwanted report old
  ReportsBy report old reported bytes new = LeavesAnswer reported old new × IsReason report old reported

  -- whether references are reported for a request that asks for the names that they point to, and for the objects that annotated tags peel to
  abbrev pub asks_symrefs : HostAnswer A → Bool
  asks_symrefs (References answer) = symrefs_of answer
  asks_symrefs answer = false

  abbrev pub asks_peel : HostAnswer A → Bool
  asks_peel (References answer) = peel_of answer
  asks_peel answer = false

  -- what the report of any reference with this name and with objects of the format does, but for its line, which is still to be written
  abbrev pub TakesReference : Format → List ℕ → HostAnswer A → Result HostReported ReferenceFault → HostAnswer A → Type 0
  TakesReference format name old (Ok reported) new = IsRefName name × ((entry : Entry) → entry.name ≡ name → IsNamed name entry.target → IsOfFormat format entry
      → ReportsBy (Reference entry) old reported (spelling_of (reference_packet (asks_symrefs old) (asks_peel old) entry)) new)
  TakesReference format name old (Err fault) new = RefusesName fault name × (new ≡ old)
