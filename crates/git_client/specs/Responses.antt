-- Conversations by the order of their messages and sections, as in gitprotocol-v2(5): with no place after each packet.
use Rattle.std.specs.Prelude.{◌≡◌, ◌⊎◌, ℕ, Bool, true, false, List, [], ◌∷◌, ◌++◌, Ok, Option, codes, map}
use Rattle.git_names.specs.ObjectName.{ObjectName}
use Rattle.git_names.specs.declared.object_format.Format.{Format}
use Rattle.git_pkt.specs.Packets.{Pkt, flush, delim, resp_end, payload, text_of}
use Rattle.git_pkt.specs.Splits.{Given, Splits}
use Rattle.git_msg.specs.Advertisement.{is_spoken, noted_of}
use Rattle.git_msg.specs.Asked.{Asked, ls_refs, fetch, object_info, done_in}
use Rattle.git_msg.specs.Capability.{IsCapability}
use Rattle.git_msg.specs.ResponseLines.{IsAckLine}
use Rattle.git_msg.specs.Texts.{IsErrorText}
use Rattle.git_client.specs.declared.events.Ending.{Ending}
use Rattle.git_client.specs.declared.events.Ending.TheVariants.{FlushOnly, ResponseEnd}
use Rattle.git_client.specs.declared.sections.Section.{Section}
use Rattle.git_client.specs.declared.sections.Section.TheVariants.{Acknowledgments, ShallowInfo, WantedRefs, Packfile}
use Rattle.git_client.specs.Sections.{header_of}
use Rattle.git_client.specs.Places.{references, shallow_info, wanted_refs, size_line, sizes}
use Rattle.git_client.specs.Events.{EventValue, MeansEvents, ack, events_of_band, capability, ended, nak, offered, ready, section}
use Rattle.git_client.specs.Parts.{Terms}

-- a rule states which packets there are, and which events they give
abbrev pub Rule : Type 1
Rule = List Pkt → List EventValue → Type 0

-- first such a packet, and then packets by the rule
abbrev pub First : (Pkt → List EventValue → Type 0) → Rule → Rule
First Is rule [] events = ⊥
First Is rule (p ∷ packets) events =
    (now : List EventValue) × (later : List EventValue) × (events ≡ now ++ later) × Is p now × rule packets later

-- packets by one rule or by the other
abbrev pub Either : Rule → Rule → Rule
Either one other packets events = one packets events ⊎ other packets events

-- packets by one rule, and then packets by the other
abbrev pub Then : Rule → Rule → Rule
Then one other packets events =
    (front : List Pkt) × (back : List Pkt) × (now : List EventValue) × (later : List EventValue)
    × (packets ≡ front ++ back) × (events ≡ now ++ later) × one front now × other back later

-- any number of such packets, and then packets by the rule
abbrev pub Many : (Pkt → List EventValue → Type 0) → Rule → Rule
Many Is rule [] events = rule [] events
Many Is rule (p ∷ packets) events =
    rule (p ∷ packets) events
    ⊎ ((now : List EventValue) × (later : List EventValue) × (events ≡ now ++ later) × Is p now × Many Is rule packets later)

-- a text line that is no error packet, with the events of its text
abbrev pub IsText : (List ℕ → List EventValue → Type 0) → Pkt → List EventValue → Type 0
IsText HasContent (payload line) events = (¬ IsErrorText (text_of line)) × HasContent (text_of line) events
IsText HasContent p events = ⊥

-- the header of a section
abbrev pub IsHeader : Section → Pkt → List EventValue → Type 0
IsHeader begun = IsText (λ text events. (text ≡ header_of begun) × (events ≡ section begun ∷ []))

-- the delimiter after a section
abbrev pub IsDelimiter : Pkt → List EventValue → Type 0
IsDelimiter p events = (p ≡ delim) × (events ≡ [])

-- bytes on the band of the pack or of the progress
abbrev pub IsBand : Pkt → List EventValue → Type 0
IsBand (payload bytes) events = events_of_band bytes ≡ Ok events
IsBand p events = ⊥

abbrev pub IsNak : Pkt → List EventValue → Type 0
IsNak = IsText (λ text events. (text ≡ codes "NAK") × (events ≡ nak ∷ []))

abbrev pub IsReady : Pkt → List EventValue → Type 0
IsReady = IsText (λ text events. (text ≡ codes "ready") × (events ≡ ready ∷ []))

abbrev pub IsAck : Format → Pkt → List EventValue → Type 0
IsAck format = IsText (λ text events. (id : ObjectName) × (events ≡ ack id ∷ []) × IsAckLine format text id)

-- the end of each response
abbrev pub IsEnd : Ending → Rule
IsEnd FlushOnly packets events = (packets ≡ flush ∷ []) × (events ≡ ended ∷ [])
IsEnd ResponseEnd packets events = (packets ≡ flush ∷ resp_end ∷ []) × (events ≡ ended ∷ [])

module _ (format : Format) (ending : Ending) where
  -- the last section of a fetch
  abbrev pub PackfileSection : Rule
  PackfileSection = First (IsHeader Packfile) (Many IsBand (IsEnd ending))

  -- the sections that may come before it
  abbrev pub ShallowInfoSection : Rule → Rule
  ShallowInfoSection rule = First (IsHeader ShallowInfo) (Many (IsText (MeansEvents shallow_info format)) (First IsDelimiter rule))

  abbrev pub WantedRefsSection : Rule → Rule
  WantedRefsSection rule = First (IsHeader WantedRefs) (Many (IsText (MeansEvents wanted_refs format)) (First IsDelimiter rule))

  -- only one of them may come
  abbrev pub ShallowPart : Rule
  ShallowPart = Either PackfileSection (ShallowInfoSection PackfileSection)

  abbrev pub WantedPart : Rule
  WantedPart = Either PackfileSection (WantedRefsSection PackfileSection)

  -- each comes at most once, in any order; the parameters state whether they may still come
  abbrev pub PackPart : (shallow wanted : Bool) → Rule
  PackPart false false = PackfileSection
  PackPart true false = ShallowPart
  PackPart false true = WantedPart
  PackPart true true = Either PackfileSection (Either (ShallowInfoSection WantedPart) (WantedRefsSection ShallowPart))

  -- after the acknowledgments the response ends, unless the server is ready to send the pack
  abbrev pub AfterAcks : Rule
  AfterAcks = Either (IsEnd ending) (First IsReady (First IsDelimiter (PackPart true true)))

  abbrev pub AcknowledgmentsSection : Rule
  AcknowledgmentsSection =
      First (IsHeader Acknowledgments) (Either (First IsNak AfterAcks) (Many (IsAck format) AfterAcks))

  -- a response to fetch: if the request has no `done`, the acknowledgments may come first
  abbrev pub FetchResponse : (done : Bool) → Rule
  FetchResponse true = PackPart true true
  FetchResponse false = Either AcknowledgmentsSection (PackPart true true)

  abbrev pub LsRefsResponse : Rule
  LsRefsResponse = Many (IsText (MeansEvents references format)) (IsEnd ending)

  abbrev pub ObjectInfoResponse : Rule
  ObjectInfoResponse =
      Either (IsEnd ending) (First (IsText (MeansEvents size_line format)) (Many (IsText (MeansEvents sizes format)) (IsEnd ending)))

  -- the packets are a whole response to the request, and give these events
  abbrev pub IsResponse : Asked → Rule
  IsResponse (ls_refs q) = LsRefsResponse
  IsResponse (fetch q) = FetchResponse (done_in q)
  IsResponse (object_info q) = ObjectInfoResponse

-- the first line of an advertisement, and one of a capability
abbrev pub IsVersion : Pkt → List EventValue → Type 0
IsVersion = IsText (λ text events. (text ≡ codes "version 2") × (events ≡ []))

abbrev pub IsCapabilityLine : Pkt → List EventValue → Type 0
IsCapabilityLine = IsText (λ text events. (key : List ℕ) × (value : Option (List ℕ)) × (events ≡ capability key value ∷ []) × IsCapability text key value)

-- the end of an advertisement
abbrev pub IsOfferEnd : Rule
IsOfferEnd packets events = (packets ≡ flush ∷ []) × (events ≡ offered ∷ [])

-- an advertisement of a server that speaks the format: the version, capabilities, and a flush
abbrev pub IsAdvertisement : Format → Rule
IsAdvertisement format packets events =
    (is_spoken (noted_of packets) format ≡ true) × First IsVersion (Many IsCapabilityLine IsOfferEnd) packets events

-- a whole response to each request, in their order
abbrev pub AreResponses : Terms → List Asked → Rule
AreResponses t [] packets events = (packets ≡ []) × (events ≡ [])
AreResponses t (q ∷ asked) packets events = Then (IsResponse t.format t.ending q) (AreResponses t asked) packets events

-- the bytes are the packets of an advertisement and of a whole response to each request, which give these events
pub record GoesByMessages (t : Terms) (asked : List Asked) (bytes : List ℕ) (events : List EventValue) : Type 0 where
  pub given : List Given
  pub splits : Splits 0 bytes given []
  pub goes : Then (IsAdvertisement t.format) (AreResponses t asked) (map (λ g. g.packet) given) events
