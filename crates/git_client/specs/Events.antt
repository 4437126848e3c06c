-- The events that a packet gives, and the errors that refuse it, by its place.
use Rattle.std.specs.Prelude.{◌≡◌, ◌≢◌, ◌⊎◌, ℕ, suc, ◌+◌, ◌==◌, ◌||◌, true, false, List, [], ◌∷◌, ◌++◌, length, sum_by, Option, Some, Result, Ok, Err}
use Rattle.std.specs.Prelude.{codes, if◌then◌else◌, map}
use Rattle.std.specs.Option.{option_map_or}
use Rattle.git_names.specs.ObjectFormat.{digits_of}
use Rattle.git_names.specs.ObjectName.{ObjectName, IsNoObjectName}
use Rattle.git_names.specs.declared.object_format.Format.{Format}
use Rattle.git_pkt.specs.Packets.{Pkt, flush, delim, resp_end, payload, text_of}
use Rattle.git_pkt.specs.declared.fault.Kind.{Kind}
use Rattle.git_pkt.specs.declared.fault.Kind.TheVariants.{RemoteError, RemoteFatal, NotVersion2, BadCapability, WrongFormat, UnexpectedPacket}
use Rattle.git_pkt.specs.declared.fault.Kind.TheVariants.{UnexpectedSection, BadLine, BadObjectName, NoBand, BadBand}
use Rattle.git_msg.specs.Capability.{IsCapability, IsNoCapability}
use Rattle.git_msg.specs.References.{Ref, id_length, IsReferenceLine, IsReferenceFault}
use Rattle.git_msg.specs.ResponseLines.{Wanted, IsAckLine, IsBoundaryLine, IsBoundaryFault, IsWantedLine, IsWantedFault, IsInfoLine, IsInfoFault}
use Rattle.git_msg.specs.declared.response_lines.Boundary.TheVariants.{Shallow, Unshallow}
use Rattle.git_msg.specs.declared.response_lines.Info.{Info}
use Rattle.git_msg.specs.Texts.{Follows, IsErrorText}
use Rattle.git_client.specs.declared.events.Ending.{Ending}
use Rattle.git_client.specs.declared.events.Ending.TheVariants.{FlushOnly, ResponseEnd}
use Rattle.git_client.specs.declared.sections.Acks.{Acks}
use Rattle.git_client.specs.declared.sections.Section.{Section}
use Rattle.git_client.specs.Sections.{allows, header_of, section_named, may_begin}
use Rattle.git_client.specs.Places.{Place, version, capabilities, references, header, acknowledgments, shallow_info, wanted_refs, packfile}
use Rattle.git_client.specs.Places.{size_line, sizes, response_end}

-- an event, whatever memory its bytes are in; each byte of the pack and of the progress is one event
pub data EventValue : Type 0 where
  capability : (key : List ℕ) (value : Option (List ℕ)) → EventValue
  offered : EventValue
  reference : Ref → EventValue
  section : Section → EventValue
  ack : ObjectName → EventValue
  nak : EventValue
  ready : EventValue
  shallow : ObjectName → EventValue
  unshallow : ObjectName → EventValue
  wanted_ref : Wanted → EventValue
  pack : ℕ → EventValue
  progress : ℕ → EventValue
  info : Info → EventValue
  ended : EventValue

-- a text at this place, not of an error packet, gives these events
abbrev pub MeansEvents : Place → Format → List ℕ → List EventValue → Type 0
MeansEvents version format text [] = text ≡ codes "version 2"
MeansEvents (capabilities spoken) format text (capability key value ∷ []) = IsCapability text key value
MeansEvents references format text (reference ref ∷ []) = IsReferenceLine format text ref
MeansEvents (header allowed) format text (section begun ∷ []) = (section_named text ≡ Some begun) × (allows allowed begun ≡ true)
MeansEvents (acknowledgments acks) format text (nak ∷ []) = (text ≡ codes "NAK") × (acks.any ≡ false)
MeansEvents (acknowledgments acks) format text (ready ∷ []) = (text ≡ codes "ready") × (acks.ready ≡ false)
MeansEvents (acknowledgments acks) format text (ack id ∷ []) = IsAckLine format text id × ((acks.nak || acks.ready) ≡ false)
MeansEvents shallow_info format text (shallow id ∷ []) = IsBoundaryLine format text (Shallow id)
MeansEvents shallow_info format text (unshallow id ∷ []) = IsBoundaryLine format text (Unshallow id)
MeansEvents wanted_refs format text (wanted_ref wanted ∷ []) = IsWantedLine format text wanted
MeansEvents size_line format text [] = text ≡ codes "size"
MeansEvents sizes format text (info entry ∷ []) = IsInfoLine format text entry
MeansEvents _ format text _ = ⊥

-- the text is not a line that may come after the acknowledgments so far: `NAK` comes alone, and nothing comes after `ready`
pub record IsNotExpected (acks : Acks) (text : List ℕ) : Type 0 where
  pub nak : text ≡ codes "NAK" → acks.any ≡ true
  pub ready : text ≡ codes "ready" → acks.ready ≡ true
  pub ack : (name : List ℕ) → text ≡ codes "ACK " ++ name → (acks.nak || acks.ready) ≡ true

-- a line of the acknowledgments may come, and this one has no object name
pub record IsBadAck (format : Format) (acks : Acks) (text : List ℕ) : Type 0 where
  pub expected : (acks.nak || acks.ready) ≡ false
  pub no_name : Follows (codes "ACK ") (IsNoObjectName format) text

-- the name of the error that refuses a text at this place, not of an error packet
abbrev pub IsLineFault : Place → Format → List ℕ → Kind → Type 0
IsLineFault version format text kind = (text ≢ codes "version 2") × (kind ≡ NotVersion2)
IsLineFault (capabilities spoken) format text kind = IsNoCapability text × (kind ≡ BadCapability)
IsLineFault references format text kind = IsReferenceFault format text kind
IsLineFault (header allowed) format text kind = (may_begin allowed (section_named text) ≡ false) × (kind ≡ UnexpectedSection)
IsLineFault (acknowledgments acks) format text kind =
    (IsNotExpected acks text × (kind ≡ BadLine)) ⊎ (IsBadAck format acks text × (kind ≡ BadObjectName))
IsLineFault shallow_info format text kind = IsBoundaryFault format text kind
IsLineFault wanted_refs format text kind = IsWantedFault format text kind
IsLineFault size_line format text kind = (text ≢ codes "size") × (kind ≡ BadLine)
IsLineFault sizes format text kind = IsInfoFault format text kind
IsLineFault _ format text kind = ⊥

-- the flush of a response ends it, or the response end after the flush does
abbrev pub ended_by : Ending → List EventValue
ended_by FlushOnly = ended ∷ []
ended_by ResponseEnd = []

-- the events of a payload of the packfile section: its first byte is the band of the others
abbrev pub events_of_band : List ℕ → Result (List EventValue) Kind
events_of_band [] = Err NoBand
events_of_band (band ∷ bytes) =
    if band == 1 then Ok (map pack bytes)
    else if band == 2 then Ok (map progress bytes)
    else if band == 3 then Err RemoteFatal
    else Err BadBand

-- the events of a flush
abbrev pub events_of_flush : Ending → Place → Result (List EventValue) Kind
events_of_flush ending version = Err NotVersion2
events_of_flush ending (capabilities spoken) = if spoken then Ok (offered ∷ []) else Err WrongFormat
events_of_flush ending references = Ok (ended_by ending)
events_of_flush ending (acknowledgments acks) = if acks.ready then Err UnexpectedPacket else Ok (ended_by ending)
events_of_flush ending packfile = Ok (ended_by ending)
events_of_flush ending size_line = Ok (ended_by ending)
events_of_flush ending sizes = Ok (ended_by ending)
events_of_flush ending place = Err UnexpectedPacket

-- the events of a delimiter
abbrev pub events_of_delimiter : Place → Result (List EventValue) Kind
events_of_delimiter version = Err NotVersion2
events_of_delimiter (acknowledgments acks) = if acks.ready then Ok [] else Err UnexpectedPacket
events_of_delimiter shallow_info = Ok []
events_of_delimiter wanted_refs = Ok []
events_of_delimiter place = Err UnexpectedPacket

-- the events of a response end
abbrev pub events_of_response_end : Place → Result (List EventValue) Kind
events_of_response_end version = Err NotVersion2
events_of_response_end response_end = Ok (ended ∷ [])
events_of_response_end place = Err UnexpectedPacket

-- a text line at this place gives these events
pub record GivesLine (place : Place) (format : Format) (text : List ℕ) (events : List EventValue) : Type 0 where
  pub no_error : ¬ IsErrorText text
  pub conveys : MeansEvents place format text events

-- a text line at this place is refused with this error: an error packet may come wherever a text line may
abbrev pub RefusesLine : Place → Format → List ℕ → Kind → Type 0
RefusesLine place format text kind =
    (IsErrorText text × (kind ≡ RemoteError)) ⊎ ((¬ IsErrorText text) × IsLineFault place format text kind)

-- a packet at this place gives these events
abbrev pub Gives : Format → Ending → Place → Pkt → List EventValue → Type 0
Gives format ending packfile (payload bytes) events = events_of_band bytes ≡ Ok events
Gives format ending response_end (payload bytes) events = ⊥
Gives format ending place (payload bytes) events = GivesLine place format (text_of bytes) events
Gives format ending place flush events = events_of_flush ending place ≡ Ok events
Gives format ending place delim events = events_of_delimiter place ≡ Ok events
Gives format ending place resp_end events = events_of_response_end place ≡ Ok events

-- a packet at this place is refused with this error
abbrev pub Refuses : Format → Ending → Place → Pkt → Kind → Type 0
Refuses format ending packfile (payload bytes) kind = events_of_band bytes ≡ Err kind
Refuses format ending response_end (payload bytes) kind = kind ≡ UnexpectedPacket
Refuses format ending place (payload bytes) kind = RefusesLine place format (text_of bytes) kind
Refuses format ending place flush kind = events_of_flush ending place ≡ Err kind
Refuses format ending place delim kind = events_of_delimiter place ≡ Err kind
Refuses format ending place resp_end kind = events_of_response_end place ≡ Err kind

-- how often the client reached a point at which it can ask
abbrev pub turns_of : List EventValue → ℕ
turns_of [] = 0
turns_of (offered ∷ events) = suc (turns_of events)
turns_of (ended ∷ events) = suc (turns_of events)
turns_of (event ∷ events) = turns_of events

-- the bytes of the pack in these events, in order
abbrev pub pack_bytes : List EventValue → List ℕ
pack_bytes [] = []
pack_bytes (pack byte ∷ events) = byte ∷ pack_bytes events
pack_bytes (event ∷ events) = pack_bytes events

-- the bytes of the progress in these events, in order
abbrev pub progress_bytes : List EventValue → List ℕ
progress_bytes [] = []
progress_bytes (progress byte ∷ events) = byte ∷ progress_bytes events
progress_bytes (event ∷ events) = progress_bytes events

-- the number of bytes in the parts of an event, its object names as digits
abbrev pub parts_length : EventValue → ℕ
parts_length (capability key value) = length key + option_map_or length value 0
parts_length (reference ref) =
    id_length ref.id + length ref.name + option_map_or length ref.target 0 + option_map_or (λ id. digits_of id.format) ref.peeled 0
parts_length (section begun) = length (header_of begun)
parts_length (ack id) = digits_of id.format
parts_length (shallow id) = digits_of id.format
parts_length (unshallow id) = digits_of id.format
parts_length (wanted_ref wanted) = digits_of wanted.id.format + length wanted.name
parts_length (pack byte) = 1
parts_length (progress byte) = 1
parts_length (info entry) = digits_of entry.id.format
parts_length event = 0

-- the number of bytes in the parts of all of them
abbrev pub all_parts_length : List EventValue → ℕ
all_parts_length events = sum_by parts_length events
