-- The lines of an advertisement, one after another.
use Rattle.std.specs.Prelude.{◌≡◌, ℕ, Bool, true, false, not, if◌then◌else◌, Option, Some, None, List, [], ◌∷◌, ◌++◌, codes}
use Rattle.git_pkt.specs.Packets.{Pkt, flush}
use Rattle.git_msg.specs.declared.offers.Offer.{Offer}
use Rattle.git_msg.specs.Asked.{is_empty}
use Rattle.git_msg.specs.Features.{capability_text}
use Rattle.git_msg.specs.WrittenRequest.{text_line, agent_line, format_line}
use Rattle.git_server.specs.Answers.{offered_line, ls_refs_line, fetch_line, advertisement_of}
use Rattle.git_server.specs.declared.advertisement.AdvertisementLine.{AdvertisementLine}
use Rattle.git_server.specs.declared.advertisement.FeaturesLine.{FeaturesLine}
use Rattle.git_server.specs.declared.advertisement.AdvertisementLine.TheVariants.{Version, Agent, LsRefs, Fetch, ServerOption, ObjectFormat, ObjectInfo, End}

-- the packet of a line, for this offer
abbrev pub advertisement_packet : Offer → AdvertisementLine → Pkt
advertisement_packet offer Version = text_line (codes "version 2")
advertisement_packet offer Agent = agent_line offer.agent
advertisement_packet offer LsRefs = ls_refs_line offer
advertisement_packet offer Fetch = fetch_line offer
advertisement_packet offer ServerOption = text_line (codes "server-option")
advertisement_packet offer ObjectFormat = format_line offer.format
advertisement_packet offer ObjectInfo = text_line (codes "object-info")
advertisement_packet offer End = flush

-- the line after it
abbrev pub advertisement_line_after : Offer → AdvertisementLine → Option AdvertisementLine
advertisement_line_after offer Version = Some Agent
advertisement_line_after offer Agent = Some LsRefs
advertisement_line_after offer LsRefs = Some Fetch
advertisement_line_after offer Fetch = Some (if offer.server_option then ServerOption else ObjectFormat)
advertisement_line_after offer ServerOption = Some ObjectFormat
advertisement_line_after offer ObjectFormat = Some (if offer.object_info then ObjectInfo else End)
advertisement_line_after offer ObjectInfo = Some End
advertisement_line_after offer End = None

-- the packets from the line of the format on
abbrev pub format_on : Offer → List Pkt
format_on offer = advertisement_packet offer ObjectFormat ∷ (offered_line offer.object_info (codes "object-info") ++ flush ∷ [])

-- the packets from the line of fetch on
abbrev pub fetch_on : Offer → List Pkt
fetch_on offer =
    advertisement_packet offer Fetch ∷ (offered_line offer.server_option (codes "server-option") ++ format_on offer)

-- the packets from a line on
abbrev pub advertisement_from : Offer → AdvertisementLine → List Pkt
advertisement_from offer Version = advertisement_of offer
advertisement_from offer Agent = advertisement_packet offer Agent ∷ advertisement_packet offer LsRefs ∷ fetch_on offer
advertisement_from offer LsRefs = advertisement_packet offer LsRefs ∷ fetch_on offer
advertisement_from offer Fetch = fetch_on offer
advertisement_from offer ServerOption = advertisement_packet offer ServerOption ∷ format_on offer
advertisement_from offer ObjectFormat = format_on offer
advertisement_from offer ObjectInfo = advertisement_packet offer ObjectInfo ∷ flush ∷ []
advertisement_from offer End = flush ∷ []

-- the packets after a line
abbrev pub advertisement_after : Offer → Option AdvertisementLine → List Pkt
advertisement_after offer (Some next) = advertisement_from offer next
advertisement_after offer None = []

-- the separator before the next feature of a command: `=` before the first, a space before the others
abbrev pub separator_after : Bool → List ℕ
separator_after false = codes "="
separator_after true = codes " "

-- the line names the command and these features of it
pub record Names (line : FeaturesLine) (key : List ℕ) (features : List (List ℕ)) : Type 0 where
  pub text : line.text.bytes ≡ capability_text key features
  pub has_features : line.has_features ≡ not (is_empty features)
