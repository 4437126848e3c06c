-- The packets that may come at a place of a conversation.
use Rattle.std.specs.Prelude.{Bool, List, Option, Some, None, if◌then◌else◌}
use Rattle.git_names.specs.declared.object_format.Format.{Format}
use Rattle.git_pkt.specs.Packets.{Pkt}
use Rattle.git_msg.specs.Advertisement.{noted_of, is_spoken}
use Rattle.git_msg.specs.Asked.{Asked}
use Rattle.git_client.specs.declared.sections.Section.{Section}
use Rattle.git_client.specs.declared.sections.Section.TheVariants.{Acknowledgments, ShallowInfo, WantedRefs, Packfile}
use Rattle.git_client.specs.declared.sections.Allowed.{Allowed}
use Rattle.git_client.specs.declared.sections.Acks.{Acks}
use Rattle.git_client.specs.Parts.{Terms, Part, opening, advertisement, listing, sections, informing, closing, part_of, message_of}
use Rattle.git_client.specs.Sections.{is_empty, is_header_expected, section_of, lines_of, allowed_after, acks_in}

-- the places: the line that begins an advertisement; its other lines, which so far have or have not shown that the server speaks the format;
-- references; the header of a section; the lines of each section; the line that names the attribute listed for each object; the lines that
-- list it; and a response end
pub data Place : Type 0 where
  version : Place
  capabilities : (spoken : Bool) → Place
  references : Place
  header : Allowed → Place
  acknowledgments : Acks → Place
  shallow_info : Place
  wanted_refs : Place
  packfile : Place
  size_line : Place
  sizes : Place
  response_end : Place

-- the place inside a section, after its lines so far
abbrev pub place_in : Option Section → List Pkt → Option Place
place_in None lines = None
place_in (Some Acknowledgments) lines = Some (acknowledgments (acks_in lines))
place_in (Some ShallowInfo) lines = Some shallow_info
place_in (Some WantedRefs) lines = Some wanted_refs
place_in (Some Packfile) lines = Some packfile

-- the place after the packets of a message, by the part that they belong to
abbrev pub place_of : Format → Option Part → List Pkt → Option Place
place_of format None message = None
place_of format (Some opening) message = Some version
place_of format (Some advertisement) message = Some (capabilities (is_spoken (noted_of message) format))
place_of format (Some listing) message = Some references
place_of format (Some (sections done)) message =
    if is_header_expected message then Some (header (allowed_after done message)) else place_in (section_of message) (lines_of message)
place_of format (Some informing) message = if is_empty message then Some size_line else Some sizes
place_of format (Some closing) message = Some response_end

-- the place after these packets of a conversation
abbrev pub place_after : Terms → List Asked → List Pkt → Option Place
place_after terms asked before = place_of terms.format (part_of terms asked before) (message_of before)
