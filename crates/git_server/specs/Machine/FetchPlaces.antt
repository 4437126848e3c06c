-- The rest of the answer to a fetch, by the place that it has reached.
use Rattle.std.specs.Prelude.{◌≡◌, ℕ, ◌+◌, ◌-◌, ◌<◌, Bool, true, false, Option, MatchOption, List, [], ◌∷◌, ◌++◌, drop, length, slice_index_or, codes, map}
use Rattle.std.specs.List.{filter_map}
use Rattle.git_names.specs.ObjectName.{ObjectName}
use Rattle.git_pkt.specs.Packets.{Pkt, flush, delim}
use Rattle.git_pkt.specs.declared.reader.PacketReader.{PacketReader}
use Rattle.git_msg.specs.declared.Boundary.{Boundary}
use Rattle.git_msg.specs.Asked.{haves_in, want_refs_in}
use Rattle.git_msg.specs.WrittenRequest.{text_line}
use Rattle.git_server.specs.Repository.{Repository}
use Rattle.git_server.specs.Packs.{Manner, EndsPack, IsPackfile}
use Rattle.git_server.specs.Machine.WrittenPackets.{Writes, WritesFirst}
use Rattle.git_server.specs.declared.packfile.PackPlace.{PackPlace}
use Rattle.git_server.specs.declared.packfile.PackPlace.TheVariants.{Header as PackHeader, Pack}
use Rattle.git_server.specs.declared.acknowledgments.AcknowledgmentsPlace.{AcknowledgmentsPlace}
use Rattle.git_server.specs.declared.acknowledgments.AcknowledgmentsPlace.TheVariants.{Header as AcknowledgmentsHeader, Have, Through}
use Rattle.git_server.specs.declared.acknowledgments.Acknowledged.{Acknowledged}
use Rattle.git_server.specs.declared.acknowledgments.Acknowledged.TheVariants.{Part, Ready, Whole}
use Rattle.git_server.specs.declared.sections.SectionPlace.{SectionPlace}
use Rattle.git_server.specs.declared.sections.SectionPlace.TheVariants.{Header, Line}
use Rattle.git_server.specs.declared.sections.SectionPart.{SectionPart}
use Rattle.git_server.specs.declared.sections.SectionPart.TheVariants.{Absent, Line as WroteLine, Over}
use Rattle.git_server.specs.declared.fetching.FetchPlace.{FetchPlace}
use Rattle.git_server.specs.declared.fetching.FetchPlace.TheVariants.{Acknowledgments, Delimiter, ShallowInfo, WantedRefs, Packfile}
use Rattle.git_server.specs.FetchAnswers.{EndsWithBoundary, EndsWithRefs, IsAfter, IsNegotiated, ack_packet, acknowledgments, boundary_packet}
use Rattle.git_server.specs.FetchAnswers.{common, is_ready_for, nak_or_acks, negotiates, shallow_info, wanted_packet, wanted_refs}
use Rattle.git_msg.specs.Arguments.{Arg}

-- Acknowledgments.

-- the lines of these common objects, by whether some were sent before them
abbrev pub acks_by : Bool → List ObjectName → List Pkt
acks_by true ids = map ack_packet ids
acks_by false ids = nak_or_acks ids

-- the section of acknowledgments from a place on, without its end
abbrev pub acknowledgments_from : Repository → List Arg → AcknowledgmentsPlace → List Pkt
acknowledgments_from repo q AcknowledgmentsHeader = acknowledgments repo q
acknowledgments_from repo q (Have next announced) = acks_by announced (common repo.has (drop next (haves_in q)))
acknowledgments_from repo q Through = []

-- the packet is the next one of the section, or its end: the result shows whether the pack follows
abbrev pub IsNextAcknowledgment : Repository → List Arg → AcknowledgmentsPlace → Acknowledged → Pkt → Type 0
IsNextAcknowledgment repo q place (Part next) packet = acknowledgments_from repo q place ≡ packet ∷ acknowledgments_from repo q next
IsNextAcknowledgment repo q place Ready packet =
    (acknowledgments_from repo q place ≡ []) × (is_ready_for repo q ≡ true) × (packet ≡ text_line (codes "ready"))
IsNextAcknowledgment repo q place Whole packet = (acknowledgments_from repo q place ≡ []) × (is_ready_for repo q ≡ false) × (packet ≡ flush)

-- the next packet of the section was written
pub record Acknowledges (repo : Repository) (q : List Arg) (place : AcknowledgmentsPlace) (old : PacketReader) (came : Acknowledged) (new : PacketReader)
    : Type 0 where
  pub packet : Pkt
  pub is_next : IsNextAcknowledgment repo q place came packet
  pub writes : Writes old packet new

-- the first common object of those from a place on is at `at`
pub record IsNextCommon (has : ObjectName → Bool) (haves : List ObjectName) (from at : ℕ) : Type 0 where
  pub within : at < length haves
  pub first : (d : ObjectName) → common has (drop from haves) ≡ slice_index_or haves at d ∷ common has (drop (at + 1) haves)

-- the index of that object, or that there is none
abbrev pub NextCommon : (ObjectName → Bool) → List ObjectName → ℕ → Option ℕ → Type 0
NextCommon has haves from found = MatchOption found (common has (drop from haves) ≡ []) (IsNextCommon has haves from)

-- The sections of lines.

-- the section of the shallow boundary from a place on
abbrev pub boundary_from : List Boundary → SectionPlace → List Pkt
boundary_from boundaries Header = shallow_info boundaries
boundary_from boundaries (Line next) = map boundary_packet (drop next boundaries) ++ delim ∷ []

-- the section of wanted references from a place on
abbrev pub wanted_from : Repository → List (List ℕ) → SectionPlace → List Pkt
wanted_from repo names Header = wanted_refs repo names
wanted_from repo names (Line next) = filter_map (wanted_packet repo) (drop next names) ++ delim ∷ []

-- the next packet of a section, which has these packets by place, was written, or the answer does not have the section
abbrev pub WritesSection : (SectionPlace → List Pkt) → SectionPlace → PacketReader → SectionPart → PacketReader → Type 0
WritesSection unsent place old Absent new = (unsent place ≡ []) × (new ≡ old)
WritesSection unsent place old (WroteLine next) new = WritesFirst (unsent place) old (unsent (Line next)) new
WritesSection unsent place old Over new = WritesFirst (unsent place) old [] new

-- The pack.

-- the packets end the section of the pack, from this place on
abbrev pub IsPackfileFrom : Manner → List ℕ → PackPlace → List Pkt → Type 0
IsPackfileFrom manner pack PackHeader later = IsPackfile manner pack later
IsPackfileFrom manner pack (Pack offset) later = EndsPack manner (drop offset pack) later

-- the maximum number of packets that end it
abbrev pub most_packets : List ℕ → PackPlace → ℕ
most_packets pack PackHeader = length pack + 2
most_packets pack (Pack offset) = length pack - offset + 1

-- The whole answer.

-- the first place of an answer
abbrev pub place_by : Bool → FetchPlace
place_by true = Acknowledgments AcknowledgmentsHeader
place_by false = ShallowInfo Header

abbrev pub first_place : List Arg → FetchPlace
first_place q = place_by (negotiates q)

-- the packets end the answer, from this place on
abbrev pub IsFetchFrom : Manner → Repository → List Arg → FetchPlace → List Pkt → Type 0
IsFetchFrom manner repo q (Acknowledgments place) later = IsNegotiated (is_ready_for repo q) (acknowledgments_from repo q place) manner repo q later
IsFetchFrom manner repo q Delimiter later = IsAfter (delim ∷ []) (EndsWithBoundary manner repo q) later
IsFetchFrom manner repo q (ShallowInfo place) later = IsAfter (boundary_from (repo.boundaries q) place) (EndsWithRefs manner repo q) later
IsFetchFrom manner repo q (WantedRefs place) later = IsAfter (wanted_from repo (want_refs_in q) place) (IsPackfile manner (repo.pack q)) later
IsFetchFrom manner repo q (Packfile place) later = IsPackfileFrom manner (repo.pack q) place later

-- the maximum number of packets that end it
abbrev pub most_from_refs : Repository → List Arg → SectionPlace → ℕ
most_from_refs repo q place = length (wanted_from repo (want_refs_in q) place) + most_packets (repo.pack q) PackHeader

abbrev pub most_from_boundary : Repository → List Arg → SectionPlace → ℕ
most_from_boundary repo q place = length (boundary_from (repo.boundaries q) place) + most_from_refs repo q Header

abbrev pub most_fetch : Repository → List Arg → FetchPlace → ℕ
most_fetch repo q (Acknowledgments place) = length (acknowledgments_from repo q place) + 2 + most_from_boundary repo q Header
most_fetch repo q Delimiter = 1 + most_from_boundary repo q Header
most_fetch repo q (ShallowInfo place) = most_from_boundary repo q place
most_fetch repo q (WantedRefs place) = most_from_refs repo q place
most_fetch repo q (Packfile place) = most_packets (repo.pack q) place
