-- The answer to a fetch: its sections, as in gitprotocol-v2(5).
use Rattle.std.specs.Prelude.{◌≡◌, Bool, true, false, not, ◌&&◌, ◌||◌, Option, List, [], ◌∷◌, ◌++◌, ℕ, codes, filter, map}
use Rattle.std.specs.List.{filter_map}
use Rattle.std.specs.Option.{option_map}
use Rattle.git_names.specs.ObjectName.{ObjectName}
use Rattle.git_pkt.specs.Packets.{Pkt, flush, delim}
use Rattle.git_msg.specs.declared.Boundary.{Boundary}
use Rattle.git_msg.specs.Asked.{is_empty, only_negotiates, done_in, haves_in, want_refs_in, flag_among}
use Rattle.git_msg.specs.ResponseLines.{ack_text, boundary_text, wanted_of, wanted_text}
use Rattle.git_msg.specs.WrittenRequest.{text_line}
use Rattle.git_server.specs.Repository.{Repository, found_ref}
use Rattle.git_server.specs.Packs.{Manner, whole, broken, IsPackfile}
use Rattle.git_msg.specs.Arguments.{Arg}
use Rattle.git_msg.specs.declared.flags.Flag.{Flag}

-- whether the request negotiates: it has `have` lines or `wait-for-done`, and not `done`
abbrev pub negotiates : List Arg → Bool
negotiates q = (not (is_empty (haves_in q)) || flag_among q Flag.WaitForDone) && not (done_in q)

-- whether the pack follows if the request negotiates: the request does more than negotiate, and the repository is ready for it
abbrev pub is_ready_for : Repository → List Arg → Bool
is_ready_for repo q = not (only_negotiates q) && repo.is_ready q

-- the objects that both the client and the repository have, as often as they are named
abbrev pub common : (ObjectName → Bool) → List ObjectName → List ObjectName
common has haves = filter has haves

-- the line of a common object
abbrev pub ack_packet : ObjectName → Pkt
ack_packet id = text_line (ack_text id)

-- a line for each of them, or `NAK` if there is none
abbrev pub nak_or_acks : List ObjectName → List Pkt
nak_or_acks [] = text_line (codes "NAK") ∷ []
nak_or_acks (id ∷ ids) = map ack_packet (id ∷ ids)

-- the end of the section of acknowledgments if the pack follows
abbrev pub ready_lines : List Pkt
ready_lines = text_line (codes "ready") ∷ delim ∷ []

-- the section of acknowledgments, without its end
abbrev pub acknowledgments : Repository → List Arg → List Pkt
acknowledgments repo q = text_line (codes "acknowledgments") ∷ nak_or_acks (common repo.has (haves_in q))

-- a section before others: its header, its lines, and a delimiter
abbrev pub section : List ℕ → List Pkt → List Pkt
section header lines = text_line header ∷ (lines ++ delim ∷ [])

-- the line of a commit at the shallow boundary
abbrev pub boundary_packet : Boundary → Pkt
boundary_packet line = text_line (boundary_text line)

-- the section of the shallow boundary, which is present if the boundary has commits
abbrev pub shallow_info : List Boundary → List Pkt
shallow_info [] = []
shallow_info (boundary ∷ boundaries) = section (codes "shallow-info") (map boundary_packet (boundary ∷ boundaries))

-- the line of a wanted reference, for the object that the repository has under its name
abbrev pub wanted_packet : Repository → List ℕ → Option Pkt
wanted_packet repo name = option_map (λ id. text_line (wanted_text (wanted_of id name))) (found_ref repo.refs name)

-- the section of wanted references, which is present if some were asked for
abbrev pub wanted_refs : Repository → List (List ℕ) → List Pkt
wanted_refs repo [] = []
wanted_refs repo (name ∷ names) = section (codes "wanted-refs") (filter_map (wanted_packet repo) (name ∷ names))

-- the packets begin with these, and P holds of the packets after them
pub record IsAfter (first : List Pkt) (P : List Pkt → Type 0) (packets : List Pkt) : Type 0 where
  pub others : List Pkt
  pub holds : P others
  pub packets_are : packets ≡ first ++ others

-- from the section of wanted references on
abbrev pub EndsWithRefs : Manner → Repository → List Arg → List Pkt → Type 0
EndsWithRefs manner repo q = IsAfter (wanted_refs repo (want_refs_in q)) (IsPackfile manner (repo.pack q))

-- from the section of the shallow boundary on
abbrev pub EndsWithBoundary : Manner → Repository → List Arg → List Pkt → Type 0
EndsWithBoundary manner repo q = IsAfter (shallow_info (repo.boundaries q)) (EndsWithRefs manner repo q)

-- an answer with acknowledgments alone, which never breaks off
abbrev pub IsFlushed : Manner → List Pkt → List Pkt → Type 0
IsFlushed whole lines packets = packets ≡ lines ++ flush ∷ []
IsFlushed broken lines packets = ⊥

-- the packets after these lines of the section of acknowledgments: the pack, if it follows, otherwise nothing
abbrev pub IsNegotiated : Bool → List Pkt → Manner → Repository → List Arg → List Pkt → Type 0
IsNegotiated true lines manner repo q = IsAfter (lines ++ ready_lines) (EndsWithBoundary manner repo q)
IsNegotiated false lines manner repo q = IsFlushed manner lines

-- the packets are an answer to the fetch
abbrev pub IsFetchAnswerBy : Bool → Manner → Repository → List Arg → List Pkt → Type 0
IsFetchAnswerBy true manner repo q = IsNegotiated (is_ready_for repo q) (acknowledgments repo q) manner repo q
IsFetchAnswerBy false manner repo q = EndsWithBoundary manner repo q

abbrev pub IsFetchAnswer : Manner → Repository → List Arg → List Pkt → Type 0
IsFetchAnswer manner repo q = IsFetchAnswerBy (negotiates q) manner repo q
