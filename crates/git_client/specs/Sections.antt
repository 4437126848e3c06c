-- The sections of a response to fetch, by gitprotocol-v2(5). A message is its packets so far, the nearest first.
use Rattle.std.specs.Prelude.{ℕ, Bool, true, false, not, ◌&&◌, ◌||◌, List, [], ◌∷◌, Option, Some, None, codes, if◌then◌else◌}
use Rattle.std.specs.List.{list_any}
use Rattle.std.specs.Str.{bytes_eq}
use Rattle.git_pkt.specs.Packets.{Pkt, delim, payload, text_of}
use Rattle.git_client.specs.declared.sections.Section.{Section}
use Rattle.git_client.specs.declared.sections.Section.TheVariants.{Acknowledgments, ShallowInfo, WantedRefs, Packfile}
use Rattle.git_client.specs.declared.sections.Allowed.{Allowed}
use Rattle.git_client.specs.declared.sections.Acks.{Acks}

-- the text of a section's header
abbrev pub header_of : Section → List ℕ
header_of Acknowledgments = codes "acknowledgments"
header_of ShallowInfo = codes "shallow-info"
header_of WantedRefs = codes "wanted-refs"
header_of Packfile = codes "packfile"

-- the section with this text as its header
abbrev pub section_named : List ℕ → Option Section
section_named text =
    if bytes_eq text (header_of Acknowledgments) then Some Acknowledgments
    else if bytes_eq text (header_of ShallowInfo) then Some ShallowInfo
    else if bytes_eq text (header_of WantedRefs) then Some WantedRefs
    else if bytes_eq text (header_of Packfile) then Some Packfile
    else None

-- the section that the packet begins, if a header is expected
abbrev pub begun_by : Pkt → Option Section
begun_by (payload line) = section_named (text_of line)
begun_by _ = None

-- a section's header is expected: at the start of the message, and after a delimiter
abbrev pub is_header_expected : List Pkt → Bool
is_header_expected [] = true
is_header_expected (delim ∷ message) = true
is_header_expected (p ∷ message) = false

-- the section begun last
abbrev pub section_of : List Pkt → Option Section
section_of [] = None
section_of (p ∷ message) = if is_header_expected message then begun_by p else section_of message

-- the packets since its header
abbrev pub lines_of : List Pkt → List Pkt
lines_of [] = []
lines_of (p ∷ message) = if is_header_expected message then [] else p ∷ lines_of message

-- the packet has this text
abbrev pub has_text : List ℕ → Pkt → Bool
has_text text (payload line) = bytes_eq (text_of line) text
has_text text _ = false

-- the section was begun in the message
abbrev pub has_begun : Section → List Pkt → Bool
has_begun section [] = false
has_begun section (p ∷ message) = (is_header_expected message && has_text (header_of section) p) || has_begun section message

abbrev pub is_empty : List Pkt → Bool
is_empty [] = true
is_empty (p ∷ packets) = false

-- the sections that may begin after these packets: the acknowledgments only at the start and for a request without `done`, the others once
abbrev pub allowed_after : Bool → List Pkt → Allowed
allowed_after done message = record {
  acknowledgments = not done && is_empty message;
  shallow_info = not (has_begun ShallowInfo message);
  wanted_refs = not (has_begun WantedRefs message);
}

-- the section may begin; a packfile always may
abbrev pub allows : Allowed → Section → Bool
allows allowed Acknowledgments = allowed.acknowledgments
allows allowed ShallowInfo = allowed.shallow_info
allows allowed WantedRefs = allowed.wanted_refs
allows allowed Packfile = true

-- a text is the header of a section that may begin
abbrev pub may_begin : Allowed → Option Section → Bool
may_begin allowed None = false
may_begin allowed (Some section) = allows allowed section

-- the sections that may begin after this one
abbrev pub next_allowed : Allowed → Section → Allowed
next_allowed allowed Acknowledgments = record { acknowledgments = false; shallow_info = allowed.shallow_info; wanted_refs = allowed.wanted_refs }
next_allowed allowed ShallowInfo = record { acknowledgments = false; shallow_info = false; wanted_refs = allowed.wanted_refs }
next_allowed allowed WantedRefs = record { acknowledgments = false; shallow_info = allowed.shallow_info; wanted_refs = false }
next_allowed allowed Packfile = record { acknowledgments = false; shallow_info = allowed.shallow_info; wanted_refs = allowed.wanted_refs }

-- the kinds of lines of the acknowledgments that are among these
abbrev pub acks_in : List Pkt → Acks
acks_in lines = record {
  any = not (is_empty lines);
  nak = list_any (has_text (codes "NAK")) lines;
  ready = list_any (has_text (codes "ready")) lines;
}

-- the same with one more line
abbrev pub acks_with : Acks → List ℕ → Acks
acks_with acks text = record {
  any = true;
  nak = bytes_eq text (codes "NAK") || acks.nak;
  ready = bytes_eq text (codes "ready") || acks.ready;
}
