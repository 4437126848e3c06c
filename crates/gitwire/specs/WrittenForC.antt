-- The packets that are written for C, each to the front of a buffer: what the values that C passes mean, and what is reported to C.
use Rattle.std.specs.Prelude.{◌≡◌, ◌≢◌, ◌⊎◌, ℕ, ◌<◌, ◌≤◌, Bool, true, false, List, [], ◌∷◌, ◌++◌, length, codes}
use Rattle.std.specs.Prelude.{Option, Some, None, IsSome, Result, Ok, Err}
use Rattle.std.specs.Bool.{then_some}
use Rattle.git_names.specs.ObjectName.{ObjectName, IsObjectName, IsNoObjectName}
use Rattle.git_names.specs.RefName.{IsRefName}
use Rattle.git_names.specs.declared.object_format.Format.{Format}
use Rattle.git_pkt.specs.Bands.{band_packet, byte_of}
use Rattle.git_names.specs.declared.fault.NameFault.{NameFault}
use Rattle.git_pkt.specs.NameFaults.{kind_of}
use Rattle.git_pkt.specs.Packets.{Pkt, flush, delim, resp_end, payload, body_of, longest_payload, spelling_of}
use Rattle.git_pkt.specs.declared.band.Band.{Band}
use Rattle.git_pkt.specs.declared.fault.Kind.TheVariants.{BadLine, BadObjectName, BadRefName, TooLong}
use Rattle.git_msg.specs.Checks.{Check, check, Refuses}
use Rattle.git_msg.specs.References.{IsMaybeObjectName, reference_of, reference_text}
use Rattle.git_msg.specs.ResponseLines.{ack_text, boundary_text, info_text, wanted_of, wanted_text}
use Rattle.git_msg.specs.WrittenRequest.{text_line}
use Rattle.git_msg.specs.declared.response_lines.Info.{Info}
use Rattle.git_msg.specs.declared.response_lines.Boundary.{Boundary}
use Rattle.git_msg.specs.declared.response_lines.Boundary.TheVariants.{Shallow, Unshallow}
use Rattle.git_msg.specs.declared.agent.Agent.{Agent}
use Rattle.git_msg.specs.declared.offers.Offer.{Offer}
use Rattle.git_server.specs.Answers.{advertisement_of, spelled}
use Rattle.gitwire.specs.Numbers.{formats, numbered}
use Rattle.gitwire.specs.Offers.{MeansAgent, MeansNoAgent, offer_by}
use Rattle.gitwire.specs.Buffers.{Fills}
use Rattle.gitwire.specs.Answers.{answering, answering_fault, what_number}
use Rattle.gitwire.specs.declared.answer.GitwireAnswer.{GitwireAnswer}
use Rattle.gitwire.specs.declared.answer.What.TheVariants.{Done, NoRequest, OutOfMemory, Payload, Flush, Delim, ResponseEnd, BadValue as a_bad_value}
use Rattle.gitwire.specs.declared.written.Unwritten.{Unwritten}
use Rattle.gitwire.specs.declared.written.Unwritten.TheVariants.{BadValue, Refused}

-- what the values that C passes mean: a packet, or why there is none
abbrev pub Meant : Type 0
Meant = Result Pkt Unwritten

-- why a text that is no name is refused
abbrev pub refused_name : NameFault → Unwritten
refused_name fault = Refused (kind_of fault)

-- why nothing was written
abbrev pub announcing_why : Unwritten → GitwireAnswer
announcing_why BadValue = answering a_bad_value
announcing_why (Refused kind) = answering_fault 0 (record { kind = kind; offset = 0 })

-- what is reported to C if its values mean this
abbrev pub Announces : Meant → List ℕ → GitwireAnswer → List ℕ → Type 0
Announces (Ok packet) buffer answer filled = (length (body_of packet) ≤ longest_payload) × Fills (spelling_of packet) buffer answer filled
Announces (Err why) buffer answer filled = (answer ≡ announcing_why why) × (filled ≡ buffer)

-- the packet that the values mean is at the front of the buffer, or it is reported to C why not
pub record Writes (Means : Meant → Type 0) (buffer : List ℕ) (answer : GitwireAnswer) (filled : List ℕ) : Type 0 where
  pub meant : Meant
  pub means : Means meant
  pub announces : Announces meant buffer answer filled

-- the values and the buffer determine what is reported and left in the buffer
abbrev pub IsDetermined : (Meant → Type 0) → Type 0
IsDetermined Means = (buffer : List ℕ) (answer other : GitwireAnswer) (filled others : List ℕ)
    → Writes Means buffer answer filled → Writes Means buffer other others → (answer ≡ other) × (filled ≡ others)

-- the hold has the packet that the values mean, or this is why there is none
abbrev pub Makes : (Meant → Type 0) → Result (Unit {0}) Unwritten → List ℕ → Type 0
Makes Means (Ok _) held = (packet : Pkt) × Means (Ok packet) × (length (body_of packet) ≤ longest_payload) × (held ≡ spelling_of packet)
Makes Means (Err why) held = Means (Err why)

-- the packets of the advertisement of an offer, one after another
abbrev pub FillsWithOffer : Offer → List ℕ → GitwireAnswer → List ℕ → Type 0
FillsWithOffer offer buffer answer filled =
    (length (spelled (advertisement_of offer)) < 257) × Fills (spelled (advertisement_of offer)) buffer answer filled

-- the advertisement of the offer that C means, by the agent of this name
abbrev pub Advertises : Option Offer → List ℕ → List ℕ → GitwireAnswer → List ℕ → Type 0
Advertises None name buffer answer filled = (answer ≡ answering a_bad_value) × (filled ≡ buffer)
Advertises (Some offer) name buffer answer filled =
    (MeansNoAgent name × (answer ≡ answering a_bad_value) × (filled ≡ buffer))
    ⊎ ((agent : Agent) × MeansAgent name agent × FillsWithOffer (offer_by agent offer) buffer answer filled)

-- a handle has a writer, or none if memory ran out
abbrev pub BeginsToWrite : ℕ → Option (List ℕ) → Type 0
BeginsToWrite answer None = answer ≡ what_number OutOfMemory
BeginsToWrite answer (Some held) = answer ≡ what_number Done

-- a handle with a writer does this to the buffer, and keeps it; if the handle has none, that is reported, and nothing is written
abbrev pub WritesIn : Option (List ℕ) → (List ℕ → GitwireAnswer → List ℕ → Type 0) → List ℕ → GitwireAnswer → List ℕ → Option (List ℕ) → Type 0
WritesIn None Does buffer answer filled new = (answer ≡ answering NoRequest) × (filled ≡ buffer) × (new ≡ None)
WritesIn (Some held) Does buffer answer filled new = Does buffer answer filled × IsSome new

-- the packet of this kind: only a payload has bytes
abbrev pub IsOfKind : ℕ → List ℕ → Pkt → Type 0
IsOfKind kind bytes flush = (kind ≡ what_number Flush) × (bytes ≡ [])
IsOfKind kind bytes delim = (kind ≡ what_number Delim) × (bytes ≡ [])
IsOfKind kind bytes resp_end = (kind ≡ what_number ResponseEnd) × (bytes ≡ [])
IsOfKind kind bytes (payload content) = (kind ≡ what_number Payload) × (bytes ≡ content)

-- a packet of a kind; a payload must fit into a packet
abbrev pub MeansPacket : ℕ → List ℕ → Meant → Type 0
MeansPacket kind bytes (Ok packet) = IsOfKind kind bytes packet
MeansPacket kind bytes (Err BadValue) = (packet : Pkt) → ¬ IsOfKind kind bytes packet
MeansPacket kind bytes (Err (Refused fault)) = (fault ≡ TooLong) × (kind ≡ what_number Payload) × (longest_payload < length bytes)

-- bytes on the band of this number, which takes one byte of a payload
abbrev pub MeansBand : ℕ → List ℕ → Meant → Type 0
MeansBand number bytes (Ok packet) = (band : Band) × (number ≡ byte_of band) × (packet ≡ band_packet band bytes)
MeansBand number bytes (Err BadValue) = (band : Band) → number ≢ byte_of band
MeansBand number bytes (Err (Refused fault)) =
    (fault ≡ TooLong) × ((band : Band) × (number ≡ byte_of band)) × (longest_payload ≤ length bytes)

-- the line with this text; LF takes one byte of a payload
abbrev pub MeansLine : List ℕ → Meant → Type 0
MeansLine text (Ok packet) = packet ≡ text_line text
MeansLine text (Err why) = (why ≡ Refused BadLine) × (longest_payload ≤ length text)

-- the error packet with this message, gitprotocol-pack(5)
abbrev pub MeansError : List ℕ → Meant → Type 0
MeansError message meant = MeansLine (codes "ERR " ++ message) meant

-- the digits must be an object name of the format
abbrev pub object_name_check : Format → List ℕ → Check
object_name_check format digits =
    check ((id : ObjectName) × IsObjectName format digits id) (IsNoObjectName format digits) BadObjectName

-- the text must be a reference name
abbrev pub ref_name_check : List ℕ → Check
ref_name_check name = check (IsRefName name) (¬ IsRefName name) BadRefName

-- a text without bytes is none
abbrev pub given : List ℕ → Option (List ℕ)
given [] = None
given (byte ∷ bytes) = Some (byte ∷ bytes)

-- a missing part is not checked
abbrev pub where_given : List ℕ → Check → Check
where_given text c = record { refuses = λ kind. (text ≢ []) × c.refuses kind; passes = text ≢ [] → c.passes }

-- why names in the format of this number mean nothing: that of the first check that fails
abbrev pub IsRefusedIn : ℕ → (Format → List Check) → Unwritten → Type 0
IsRefusedIn number checks BadValue = numbered formats number ≡ None
IsRefusedIn number checks (Refused kind) = (format : Format) × (numbered formats number ≡ Some format) × Refuses (checks format) kind

-- names in the format of this number mean a packet, or are refused
abbrev pub InFormat : ℕ → (Format → List Check) → (Format → Pkt → Type 0) → Meant → Type 0
InFormat number checks IsPacket (Ok packet) = (format : Format) × (numbered formats number ≡ Some format) × IsPacket format packet
InFormat number checks IsPacket (Err why) = IsRefusedIn number checks why

-- the object that the digits name in the format of this number
abbrev pub Names : ℕ → List ℕ → Result ObjectName Unwritten → Type 0
Names number digits (Ok id) = (format : Format) × (numbered formats number ≡ Some format) × IsObjectName format digits id
Names number digits (Err why) = IsRefusedIn number (λ format. object_name_check format digits ∷ []) why

-- the line with this text about the object that the digits name
pub record IsLineOf (format : Format) (digits : List ℕ) (text : ObjectName → List ℕ) (packet : Pkt) : Type 0 where
  pub id : ObjectName
  pub is_id : IsObjectName format digits id
  pub line : packet ≡ text_line (text id)

-- a line with the name of an object, and nothing else that can be refused
abbrev pub MeansLineOf : ℕ → List ℕ → (ObjectName → List ℕ) → Meant → Type 0
MeansLineOf number digits text meant =
    InFormat number (λ format. object_name_check format digits ∷ []) (λ format packet. IsLineOf format digits text packet) meant

-- the line that acknowledges the object
abbrev pub MeansAck : ℕ → List ℕ → Meant → Type 0
MeansAck number digits meant = MeansLineOf number digits ack_text meant

abbrev pub boundary_of : Bool → ObjectName → Boundary
boundary_of true id = Shallow id
boundary_of false id = Unshallow id

-- the line of the shallow boundary
abbrev pub MeansBoundary : ℕ → Bool → List ℕ → Meant → Type 0
MeansBoundary number shallow digits meant = MeansLineOf number digits (λ id. boundary_text (boundary_of shallow id)) meant

abbrev pub info_of : Option ℕ → ObjectName → Info
info_of size id = record { id = id; size = size }

-- the line with what is known of the object
abbrev pub MeansInfo : ℕ → List ℕ → Bool → ℕ → Meant → Type 0
MeansInfo number digits has_size size meant = MeansLineOf number digits (λ id. info_text (info_of (then_some has_size size) id)) meant

-- the line of a wanted reference; its parts are checked from left to right
abbrev pub MeansWanted : ℕ → List ℕ → List ℕ → Meant → Type 0
MeansWanted number digits name meant =
    InFormat number (λ format. object_name_check format digits ∷ ref_name_check name ∷ [])
    (λ format packet. IsRefName name × IsLineOf format digits (λ id. wanted_text (wanted_of id name)) packet) meant

-- the line of a reference with these parts, without an object if there are no digits
pub record IsReferenceOf (format : Format) (digits name target peeled : List ℕ) (packet : Pkt) : Type 0 where
  pub is_name : IsRefName name
  pub is_target : target ≢ [] → IsRefName target
  pub id : Option ObjectName
  pub is_id : IsMaybeObjectName format (given digits) id
  pub peeled_id : Option ObjectName
  pub is_peeled : IsMaybeObjectName format (given peeled) peeled_id
  pub line : packet ≡ text_line (reference_text (reference_of id name (given target) peeled_id))

-- the line of a reference; its parts are checked from left to right
abbrev pub MeansReference : ℕ → List ℕ → List ℕ → List ℕ → List ℕ → Meant → Type 0
MeansReference number digits name target peeled meant =
    InFormat number
    (λ format. where_given digits (object_name_check format digits) ∷ ref_name_check name ∷ where_given target (ref_name_check target)
    ∷ where_given peeled (object_name_check format peeled) ∷ [])
    (λ format packet. IsReferenceOf format digits name target peeled packet) meant
