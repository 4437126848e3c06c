-- The judge's results for packets, by what is expected, without the packets before.
use Rattle.std.specs.Prelude.{◌≡◌, ℕ, ◌+◌, ◌<◌, ◌≤◌, Bool, true, false, List, [], ◌∷◌, length, take, drop, Option, Some, None, map, Result, Ok, Err}
use Rattle.std.specs.Prelude.{if◌then◌else◌}
use Rattle.std.specs.Option.{option_copied}
use Rattle.git_names.specs.ObjectFormat.{digits_of}
use Rattle.git_names.specs.ObjectName.{ObjectName}
use Rattle.git_names.specs.declared.object_format.Format.{Format}
use Rattle.git_pkt.specs.Packets.{Pkt, flush, delim, resp_end, payload, text_of, body_of}
use Rattle.git_pkt.specs.declared.fault.Fault.{Fault}
use Rattle.git_msg.specs.Advertisement.{noted_of, is_spoken}
use Rattle.git_msg.specs.Capability.{IsCapability}
use Rattle.git_msg.specs.References.{reference_of, reference_at, FitsIn}
use Rattle.git_msg.specs.ResponseLines.{Wanted, wanted_of}
use Rattle.git_msg.specs.Asked.{Asked, ls_refs, fetch, object_info, done_in}
use Rattle.git_msg.specs.Machine.HeldRequest.{asked_of}
use Rattle.git_msg.specs.Machine.RequestWriter.{left_to_write}
use Rattle.git_msg.specs.declared.requests.Request.{Request}
use Rattle.git_msg.specs.declared.capabilities.Capability.{Capability}
use Rattle.git_msg.specs.declared.offers.Caps.{Caps}
use Rattle.git_client.specs.Sections.{section_named, next_allowed, acks_with, allowed_after}
use Rattle.git_client.specs.Places.{Place, version, capabilities, references, header, acknowledgments, shallow_info, wanted_refs, packfile}
use Rattle.git_client.specs.Places.{size_line, sizes, response_end}
use Rattle.git_client.specs.Events.{EventValue, capability, offered, reference, section, ack, nak, ready, shallow, unshallow, wanted_ref, pack, progress}
use Rattle.git_client.specs.Events.{info, ended}
use Rattle.git_client.specs.Events.{MeansEvents, Gives, Refuses, IsLineFault}
use Rattle.git_client.specs.declared.events.Ending.{Ending}
use Rattle.git_client.specs.declared.events.Ending.TheVariants.{FlushOnly, ResponseEnd as WithResponseEnd}
use Rattle.git_client.specs.declared.events.Event.{Event}
use Rattle.git_client.specs.declared.events.Event.TheVariants.{Capability as CapabilityEvent, Offered as OfferedEvent, Reference as ReferenceEvent}
use Rattle.git_client.specs.declared.events.Event.TheVariants.{Section as SectionEvent, Ack as AckEvent, Nak as NakEvent, Ready as ReadyEvent}
use Rattle.git_client.specs.declared.events.Event.TheVariants.{Shallow as ShallowEvent, Unshallow as UnshallowEvent, WantedRef as WantedRefEvent}
use Rattle.git_client.specs.declared.events.Event.TheVariants.{Info as InfoEvent, Pack as PackEvent, Progress as ProgressEvent, Ended as EndedEvent}
use Rattle.git_client.specs.declared.sections.Section.{Section}
use Rattle.git_client.specs.declared.sections.Section.TheVariants.{Acknowledgments as AcknowledgmentsSection, ShallowInfo as ShallowInfoSection}
use Rattle.git_client.specs.declared.sections.Section.TheVariants.{WantedRefs as WantedRefsSection, Packfile as PackfileSection}
use Rattle.git_client.specs.declared.sections.Allowed.{Allowed}
use Rattle.git_pkt.specs.declared.fault.Kind.{Kind}
use Rattle.git_client.specs.declared.phase.Phase.{Phase}
use Rattle.git_client.specs.declared.phase.Phase.TheVariants.{Receiving, Ready as ReadyPhase, Asking, Leaving, Left, Failed}
use Rattle.git_client.specs.declared.phase.Expected.{Expected}
use Rattle.git_client.specs.declared.phase.Expected.TheVariants.{Version, Capabilities, References, Header, Acknowledgments, ShallowInfo, WantedRefs}
use Rattle.git_client.specs.declared.phase.Expected.TheVariants.{Packfile, SizeLine, Sizes, ResponseEnd}
use Rattle.git_client.specs.declared.phase.LineContent.{LineContent}
use Rattle.git_client.specs.declared.phase.LineContent.TheVariants.{Nothing, Capability as CapabilityContent, Offered, Reference, Ack, Nak, Ready}
use Rattle.git_client.specs.declared.phase.LineContent.TheVariants.{Section as SectionContent}
use Rattle.git_client.specs.declared.phase.LineContent.TheVariants.{Shallow, Unshallow, WantedRef, Info as InfoContent, Ended}
use Rattle.git_client.specs.declared.phase.CapabilityPlaces.{CapabilityPlaces}
use Rattle.git_client.specs.declared.phase.Turn.{Turn}
use Rattle.git_client.specs.declared.phase.Turn.TheVariants.{Receiving as ReceivingTurn, Ready as ReadyTurn}

-- the place at which this is expected
abbrev pub place_expected : Caps → Format → Expected → Place
place_expected caps format Version = version
place_expected caps format Capabilities = capabilities (is_spoken caps format)
place_expected caps format References = references
place_expected caps format (Header allowed) = header allowed
place_expected caps format (Acknowledgments announced) = acknowledgments announced
place_expected caps format (ShallowInfo allowed) = shallow_info
place_expected caps format (WantedRefs allowed) = wanted_refs
place_expected caps format Packfile = packfile
place_expected caps format SizeLine = size_line
place_expected caps format Sizes = sizes
place_expected caps format ResponseEnd = response_end

-- text lines are expected
abbrev pub TakesLines : Expected → Type 0
TakesLines Packfile = ⊥
TakesLines ResponseEnd = ⊥
TakesLines expected = Unit {0}

-- the value of a capability line with its parts at these places
abbrev pub value_at : CapabilityPlaces → List ℕ → Option (List ℕ)
value_at places text = if places.has_value then Some (drop (places.key_length + 1) text) else None

abbrev pub wanted_at : ObjectName → List ℕ → Wanted
wanted_at id text = wanted_of id (drop (digits_of id.format + 1) text)

-- the events that a text line was found to give
abbrev pub line_events : LineContent → List ℕ → List EventValue
line_events Nothing text = []
line_events (CapabilityContent places) text = capability (take places.key_length text) (value_at places text) ∷ []
line_events Offered text = offered ∷ []
line_events (Reference places) text = reference (reference_at places text) ∷ []
line_events (SectionContent begun) text = section begun ∷ []
line_events (Ack id) text = ack id ∷ []
line_events Nak text = nak ∷ []
line_events Ready text = ready ∷ []
line_events (Shallow id) text = shallow id ∷ []
line_events (Unshallow id) text = unshallow id ∷ []
line_events (WantedRef id) text = wanted_ref (wanted_at id text) ∷ []
line_events (InfoContent announced) text = info announced ∷ []
line_events Ended text = ended ∷ []

-- the events that a payload was found to give
abbrev pub events_at : LineContent → List ℕ → List EventValue
events_at content bytes = line_events content (text_of bytes)

-- the parts of a capability line lie within it
pub record LiesIn (places : CapabilityPlaces) (text : List ℕ) : Type 0 where
  pub key : places.key_length ≤ length text
  pub value : places.has_value ≡ true → places.key_length < length text

-- the places found in a text line are within it
abbrev pub FitsLine : LineContent → List ℕ → Type 0
FitsLine (CapabilityContent places) text = LiesIn places text
FitsLine (Reference places) text = FitsIn places (length text)
FitsLine (WantedRef id) text = digits_of id.format < length text
FitsLine content text = Unit {0}

-- the places found in a payload are within it
abbrev pub Fits : LineContent → List ℕ → Type 0
Fits content bytes = FitsLine content (text_of bytes)

-- a text line at the place was found to have these contents
pub record HasContent (place : Place) (format : Format) (text : List ℕ) (content : LineContent) : Type 0 where
  pub conveys : MeansEvents place format text (line_events content text)
  pub fits : FitsLine content text

-- a capability line was found, and these capabilities are noted after it
pub record FindsCapability (caps : Caps) (text : List ℕ) (places : CapabilityPlaces) (after : Caps) : Type 0 where
  pub is_line : IsCapability text (take places.key_length text) (value_at places text)
  pub within : LiesIn places text
  pub notes : (packets : List Pkt) (line : List ℕ) → text_of line ≡ text → caps ≡ noted_of packets → after ≡ noted_of (payload line ∷ packets)

-- what is expected after the header of a section
abbrev pub expected_in : Allowed → Section → Expected
expected_in allowed AcknowledgmentsSection = Acknowledgments (record { any = false; nak = false; ready = false })
expected_in allowed ShallowInfoSection = ShallowInfo (next_allowed allowed ShallowInfoSection)
expected_in allowed WantedRefsSection = WantedRefs (next_allowed allowed WantedRefsSection)
expected_in allowed PackfileSection = Packfile

abbrev pub expected_after_header : Allowed → Option Section → Expected
expected_after_header allowed None = Header allowed
expected_after_header allowed (Some begun) = expected_in allowed begun

-- what is expected after a text line
abbrev pub expected_after_line : Expected → List ℕ → Expected
expected_after_line Version text = Capabilities
expected_after_line (Header allowed) text = expected_after_header allowed (section_named text)
expected_after_line (Acknowledgments announced) text = Acknowledgments (acks_with announced text)
expected_after_line SizeLine text = Sizes
expected_after_line expected text = expected

-- after the acknowledgments every other section may come
abbrev pub after_acknowledgments : Allowed
after_acknowledgments = record { acknowledgments = false; shallow_info = true; wanted_refs = true }

-- what is expected after a delimiter
abbrev pub expected_after_delimiter : Expected → Expected
expected_after_delimiter (Acknowledgments announced) = Header after_acknowledgments
expected_after_delimiter (ShallowInfo allowed) = Header allowed
expected_after_delimiter (WantedRefs allowed) = Header allowed
expected_after_delimiter expected = expected

-- the phase of a conversation in this turn
abbrev pub phase_in : Turn → Phase
phase_in (ReceivingTurn expected) = Receiving expected
phase_in ReadyTurn = ReadyPhase

-- the phase of a conversation after the flush of a response
abbrev pub phase_after_response : Ending → Phase
phase_after_response FlushOnly = ReadyPhase
phase_after_response WithResponseEnd = Receiving ResponseEnd

-- the phase of a conversation after a packet without an error
abbrev pub phase_after : Ending → Expected → Pkt → Phase
phase_after ending expected (payload bytes) = Receiving (expected_after_line expected (text_of bytes))
phase_after ending expected delim = Receiving (expected_after_delimiter expected)
phase_after ending Capabilities flush = ReadyPhase
phase_after ending expected flush = phase_after_response ending
phase_after ending expected resp_end = ReadyPhase

-- the contents of a response's flush
abbrev pub content_after_flush : Ending → LineContent
content_after_flush FlushOnly = Ended
content_after_flush WithResponseEnd = Nothing

-- the capabilities noted after a packet without an error: a line of the advertisement adds to them
abbrev pub NotesAfter : Expected → Caps → Pkt → Caps → Type 0
NotesAfter Capabilities caps (payload line) after = (packets : List Pkt) → caps ≡ noted_of packets → after ≡ noted_of (payload line ∷ packets)
NotesAfter expected caps p after = after ≡ caps

-- the findings of the judge for a packet without an error: its contents, the capabilities noted after it, and whose turn it is then
pub record IsTurn (format : Format) (ending : Ending) (expected : Expected) (caps : Caps) (p : Pkt) (content : LineContent) (after : Caps)
    (turn : Turn) : Type 0 where
  pub gives : Gives format ending (place_expected caps format expected) p (events_at content (body_of p))
  pub fits : Fits content (body_of p)
  pub notes : NotesAfter expected caps p after
  pub next : phase_in turn ≡ phase_after ending expected p

-- the judge's result for a packet: a refused packet adds nothing to the noted capabilities
abbrev pub Judges : Format → Ending → Expected → Caps → Pkt → LineContent → Caps → Result Turn Kind → Type 0
Judges format ending expected caps p content after (Ok turn) = IsTurn format ending expected caps p content after turn
Judges format ending expected caps p content after (Err kind) = Refuses format ending (place_expected caps format expected) p kind × (after ≡ caps)

-- its findings for a text line
pub record IsLineTurn (format : Format) (expected : Expected) (caps : Caps) (text : List ℕ) (content : LineContent) (after : Caps) (turn : Turn) : Type 0 where
  pub conveys : HasContent (place_expected caps format expected) format text content
  pub notes : (line : List ℕ) → text_of line ≡ text → NotesAfter expected caps (payload line) after
  pub next : phase_in turn ≡ Receiving (expected_after_line expected text)

-- its result for a text line
abbrev pub JudgesLine : Format → Expected → Caps → List ℕ → LineContent → Caps → Result Turn Kind → Type 0
JudgesLine format expected caps text content after (Ok turn) = IsLineTurn format expected caps text content after turn
JudgesLine format expected caps text content after (Err kind) = IsLineFault (place_expected caps format expected) format text kind × (after ≡ caps)

-- the phase takes packets
abbrev pub takes_packets : Phase → Bool
takes_packets (Receiving expected) = true
takes_packets _ = false

-- the phase takes bytes on bands
abbrev pub takes_bands : Phase → Bool
takes_bands (Receiving Packfile) = true
takes_bands _ = false

-- the error of a phase
abbrev pub fault_in : Phase → Option Fault
fault_in (Failed fault) = Some fault
fault_in phase = None

abbrev pub is_ready : Phase → Bool
is_ready ReadyPhase = true
is_ready phase = false

abbrev pub is_asking : Phase → Bool
is_asking (Asking writer) = true
is_asking phase = false

abbrev pub has_left_in : Phase → Bool
has_left_in Leaving = true
has_left_in Left = true
has_left_in phase = false

-- the packets that still have to be sent in a phase
abbrev pub left_in : {A : Type 0} → Phase → Option (Request A) → List Pkt
left_in (Asking writer) (Some request) = left_to_write writer request
left_in Leaving request = flush ∷ []
left_in phase request = []

-- the contents of the stored request
abbrev pub question_in : {A : Type 0} → Option (Request A) → Option Asked
question_in None = None
question_in (Some request) = Some (asked_of request)

-- what is expected first of a response
abbrev pub first_expected : Asked → Expected
first_expected (ls_refs q) = References
first_expected (fetch q) = Header (allowed_after (done_in q) [])
first_expected (object_info q) = SizeLine

-- the capability that a borrowed one shows
abbrev pub capability_value : Capability → EventValue
capability_value c = capability c.key.now (option_copied c.value)

-- the events of a borrowed one: one for each byte of the pack or of the progress
abbrev pub values_of : Event → List EventValue
values_of (CapabilityEvent c) = capability_value c ∷ []
values_of OfferedEvent = offered ∷ []
values_of (ReferenceEvent id name target peeled) = reference (reference_of (option_copied id) name.now (option_copied target) (option_copied peeled)) ∷ []
values_of (SectionEvent begun) = section begun ∷ []
values_of (AckEvent id) = ack id.now ∷ []
values_of NakEvent = nak ∷ []
values_of ReadyEvent = ready ∷ []
values_of (ShallowEvent id) = shallow id.now ∷ []
values_of (UnshallowEvent id) = unshallow id.now ∷ []
values_of (WantedRefEvent id name) = wanted_ref (wanted_of id.now name.now) ∷ []
values_of (InfoEvent id size) = info (record { id = id.now; size = size }) ∷ []
values_of (PackEvent bytes) = map pack bytes.now
values_of (ProgressEvent bytes) = map progress bytes.now
values_of EndedEvent = ended ∷ []
