-- The packets that a server sends: its advertisement, the answer to each request, and the report of an error.
use Rattle.std.specs.Prelude.{◌≡◌, ◌≤◌, length, ℕ, Bool, if◌then◌else◌, ◌&&◌, Option, Some, None, List, [], ◌∷◌, ◌++◌, codes, filter, map}
use Rattle.std.specs.List.{flat_map}
use Rattle.git_pkt.specs.Packets.{Pkt, flush, spelling_of, body_of, longest_payload}
use Rattle.git_pkt.specs.FaultNames.{fault_text}
use Rattle.git_pkt.specs.declared.fault.Fault.{Fault}
use Rattle.git_pkt.specs.declared.fault.Kind.{Kind}
use Rattle.git_pkt.specs.declared.fault.Kind.TheVariants.{RemoteError}
use Rattle.git_msg.specs.declared.offers.Offer.{Offer}
use Rattle.git_names.specs.ObjectName.{ObjectName}
use Rattle.git_msg.specs.Asked.{Asked, ls_refs, fetch, object_info, oids_in, ref_prefixes_in, peel_in, symrefs_in, unborn_in}
use Rattle.git_msg.specs.Features.{capability_text, fetch_features, ls_refs_features}
use Rattle.git_msg.specs.WrittenRequest.{text_line, agent_line, format_line}
use Rattle.git_msg.specs.References.{Ref, reference_of, reference_text}
use Rattle.git_msg.specs.ResponseLines.{info_text}
pub use Rattle.git_msg.specs.Prefixes.{is_empty, is_shown}
use Rattle.git_server.specs.Repository.{Entry, Repository}
use Rattle.git_server.specs.Packs.{Manner, whole, broken}
use Rattle.git_server.specs.FetchAnswers.{IsFetchAnswer}
use Rattle.git_msg.specs.Arguments.{Arg}

-- the bytes of the packets as they are written
abbrev pub spelled : List Pkt → List ℕ
spelled = flat_map spelling_of

-- each is a packet of the wire
abbrev pub AllFit : List Pkt → Type 0
AllFit [] = Unit {0}
AllFit (p ∷ ps) = (length (body_of p) ≤ longest_payload) × AllFit ps

-- the line of a capability, if it is advertised
abbrev pub offered_line : Bool → List ℕ → List Pkt
offered_line offered text = if offered then text_line text ∷ [] else []

-- the line for ls-refs, with those of its features that are advertised
abbrev pub ls_refs_line : Offer → Pkt
ls_refs_line offer = text_line (capability_text (codes "ls-refs") (ls_refs_features offer))

-- the line that advertises `fetch`, with its features
abbrev pub fetch_line : Offer → Pkt
fetch_line offer = text_line (capability_text (codes "fetch") (fetch_features offer))

-- the packets that a server sends first
abbrev pub advertisement_of : Offer → List Pkt
advertisement_of offer =
    text_line (codes "version 2") ∷ agent_line offer.agent ∷ ls_refs_line offer ∷ fetch_line offer
    ∷ (offered_line offer.server_option (codes "server-option")
    ++ format_line offer.format ∷ (offered_line offer.object_info (codes "object-info") ++ flush ∷ []))

-- the references that are shown for these prefixes
abbrev pub shown_refs : List (List ℕ) → List Entry → List Entry
shown_refs prefixes refs = filter (λ entry. is_shown prefixes entry.name) refs

-- the parts of a reference that are shown: its target and its peeled object if they were asked for
abbrev pub shown_line : (symrefs peel : Bool) → Entry → Ref
shown_line symrefs peel entry = record {
  id = Some entry.id;
  name = entry.name;
  target = if symrefs then entry.target else None;
  peeled = if peel then entry.peeled else None;
}

-- the line of a reference, with its target and its peeled object if they are asked for
abbrev pub reference_packet : (symrefs peel : Bool) → Entry → Pkt
reference_packet symrefs peel entry = text_line (reference_text (shown_line symrefs peel entry))

-- the packet of an unborn `HEAD`, with the name that it points to
abbrev pub unborn_packet : List ℕ → Pkt
unborn_packet target = text_line (reference_text (reference_of None (codes "HEAD") (Some target) None))

-- whether the request asks for that: for unborn references and for targets of references, with prefixes that show `HEAD`
abbrev pub asks_for_unborn : List Arg → Bool
asks_for_unborn q = unborn_in q && symrefs_in q && is_shown (ref_prefixes_in q) (codes "HEAD")

-- it comes first, if it is asked for and `HEAD` is unborn
abbrev pub unborn_packets : List Arg → Option (List ℕ) → List Pkt
unborn_packets q None = []
unborn_packets q (Some target) = if asks_for_unborn q then unborn_packet target ∷ [] else []

-- the packets of these references, and the flush
abbrev pub reference_packets : List Arg → List Entry → List Pkt
reference_packets q refs = map (reference_packet (symrefs_in q) (peel_in q)) (shown_refs (ref_prefixes_in q) refs) ++ flush ∷ []

-- the answer to a request for references
abbrev pub ls_refs_answer : List Arg → Repository → List Pkt
ls_refs_answer q repo = unborn_packets q repo.unborn_head ++ reference_packets q repo.refs

-- the packets are an answer for references, which never breaks off
abbrev pub IsReferencesAnswer : Manner → List Arg → Repository → List Pkt → Type 0
IsReferencesAnswer whole q repo packets = packets ≡ ls_refs_answer q repo
IsReferencesAnswer broken q repo packets = ⊥

-- the packet that reports the size of an object, or that the object is not there
abbrev pub info_packet : Repository → ObjectName → Pkt
info_packet repo id = text_line (info_text (record { id = id; size = repo.object_size id }))

-- the answer to a request for the sizes of objects
abbrev pub object_info_answer : List Arg → Repository → List Pkt
object_info_answer q repo = text_line (codes "size") ∷ (map (info_packet repo) (oids_in q) ++ flush ∷ [])

-- the packets are an answer about objects, which never breaks off
abbrev pub IsObjectInfoAnswer : Manner → List Arg → Repository → List Pkt → Type 0
IsObjectInfoAnswer whole q repo packets = packets ≡ object_info_answer q repo
IsObjectInfoAnswer broken q repo packets = ⊥

-- the packets are an answer of the repository to the request, whole or broken off
abbrev pub IsAnswerAs : Manner → Repository → Asked → List Pkt → Type 0
IsAnswerAs manner repo (ls_refs q) packets = IsReferencesAnswer manner q repo packets
IsAnswerAs manner repo (fetch q) packets = IsFetchAnswer manner repo q packets
IsAnswerAs manner repo (object_info q) packets = IsObjectInfoAnswer manner q repo packets

-- the packets are a whole answer
abbrev pub IsAnswer : Repository → Asked → List Pkt → Type 0
IsAnswer = IsAnswerAs whole

-- the error packet that reports an error by its name and offset
abbrev pub error_packet : Fault → Pkt
error_packet fault = text_line (codes "ERR " ++ fault_text fault)

-- an error packet is not answered; any other error is reported by an error packet
abbrev pub refusal_by : Kind → Fault → List Pkt
refusal_by RemoteError fault = []
refusal_by _ fault = error_packet fault ∷ []
