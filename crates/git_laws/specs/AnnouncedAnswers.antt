-- The events that a repository's answer to a request gives a client, however the answer is written and cut.
use Rattle.std.specs.Prelude.{◌≡◌, ℕ, Bool, true, false, not, ◌||◌, if◌then◌else◌, All, Option, Some, None, List, [], ◌∷◌, ◌++◌, map, codes}
use Rattle.std.specs.List.{filter_map, flat_map}
use Rattle.std.specs.Option.{ForSome, option_map}
use Rattle.git_names.specs.ObjectFormat.{name_of as format_name}
use Rattle.git_names.specs.ObjectName.{ObjectName, IsOid}
use Rattle.git_names.specs.declared.object_format.Format.{Format}
use Rattle.git_pkt.specs.Packets.{Pkt, resp_end}
use Rattle.git_pkt.specs.Splits.{Given}
use Rattle.git_msg.specs.Agents.{agent_text}
use Rattle.git_msg.specs.Advertisement.{everything}
use Rattle.git_msg.specs.declared.offers.Offer.{Offer}
use Rattle.git_msg.specs.declared.Boundary.{Boundary}
use Rattle.git_msg.specs.declared.Boundary.TheVariants.{Shallow, Unshallow}
use Rattle.git_msg.specs.Arguments.{IsNameIn}
use Rattle.git_msg.specs.Asked.{Asked, ls_refs, fetch, object_info, haves_in, oids_in, ref_prefixes_in, want_refs_in, peel_in, symrefs_in}
use Rattle.git_msg.specs.Features.{features_value, fetch_features, ls_refs_features}
use Rattle.git_msg.specs.References.{reference_of}
use Rattle.git_msg.specs.ResponseLines.{IsSize, Wanted, object_of, wanted_of}
use Rattle.git_client.specs.Events.{EventValue, capability, offered, reference, section, ack, nak, ready, shallow, unshallow, wanted_ref, pack, info, ended}
use Rattle.git_client.specs.declared.events.Ending.{Ending}
use Rattle.git_client.specs.declared.events.Ending.TheVariants.{FlushOnly, ResponseEnd}
use Rattle.git_client.specs.declared.sections.Section.TheVariants.{Acknowledgments, ShallowInfo, WantedRefs, Packfile}
use Rattle.git_server.specs.Answers.{asks_for_unborn, shown_line, shown_refs}
use Rattle.git_server.specs.FetchAnswers.{common, is_ready_for, negotiates}
use Rattle.git_server.specs.Repository.{Entry, Repository, found_ref}
use Rattle.git_msg.specs.Arguments.{Arg}

-- `HEAD` if it is unborn, with the name that it points to, if the request asks for it
abbrev pub announced_unborn : List Arg → Option (List ℕ) → List EventValue
announced_unborn q None = []
announced_unborn q (Some target) = if asks_for_unborn q then reference (reference_of None (codes "HEAD") (Some target) None) ∷ [] else []

-- and then the references that are shown
abbrev pub announced_refs : Repository → List Arg → List EventValue
announced_refs repo q =
    announced_unborn q repo.unborn_head ++ map (λ entry. reference (shown_line (symrefs_in q) (peel_in q) entry)) (shown_refs (ref_prefixes_in q) repo.refs)

-- the objects that both sides have, or that there is none
abbrev pub announced_common : List ObjectName → List EventValue
announced_common [] = nak ∷ []
announced_common (id ∷ ids) = map ack (id ∷ ids)

-- a commit of the shallow boundary
abbrev pub announced_boundary : Boundary → EventValue
announced_boundary (Shallow id) = shallow id
announced_boundary (Unshallow id) = unshallow id

-- the section of the shallow boundary, which is present if the boundary has commits
abbrev pub announced_boundaries : List Boundary → List EventValue
announced_boundaries [] = []
announced_boundaries (line ∷ lines) = section ShallowInfo ∷ map announced_boundary (line ∷ lines)

-- the references among those that were asked for by name that exist
abbrev pub found_refs : Repository → List (List ℕ) → List Wanted
found_refs repo names = filter_map (λ name. option_map (λ id. wanted_of id name) (found_ref repo.refs name)) names

-- the section of wanted references, which is present if some were asked for
abbrev pub announced_wanted : Repository → List (List ℕ) → List EventValue
announced_wanted repo [] = []
announced_wanted repo (name ∷ names) = section WantedRefs ∷ map wanted_ref (found_refs repo (name ∷ names))

-- the section of the pack, and each byte of it
abbrev pub announced_packfile : List ℕ → List EventValue
announced_packfile bytes = section Packfile ∷ map pack bytes

-- the sections of the boundary, of the wanted references and of the pack
abbrev pub announced_pack : Repository → List Arg → List EventValue
announced_pack repo q = announced_boundaries (repo.boundaries q) ++ announced_wanted repo (want_refs_in q) ++ announced_packfile (repo.pack q)

-- the events after the objects that both sides have: the pack, or nothing
abbrev pub announced_ready : Bool → Repository → List Arg → List EventValue
announced_ready true repo q = ready ∷ announced_pack repo q
announced_ready false repo q = []

-- the answer to a fetch that negotiates or not
abbrev pub announced_fetch : Bool → Repository → List Arg → List EventValue
announced_fetch true repo q =
    section Acknowledgments ∷ (announced_common (common repo.has (haves_in q)) ++ announced_ready (is_ready_for repo q) repo q)
announced_fetch false repo q = announced_pack repo q

-- the sizes of the objects that were asked about
abbrev pub announced_sizes : Repository → List Arg → List EventValue
announced_sizes repo q = map (λ id. info (record { id = id; size = repo.object_size id })) (oids_in q)

-- the events of an answer, without its end
abbrev pub announced_by : Repository → Asked → List EventValue
announced_by repo (ls_refs q) = announced_refs repo q
announced_by repo (fetch q) = announced_fetch (negotiates q) repo q
announced_by repo (object_info q) = announced_sizes repo q

-- the object names of a request that an answer repeats are names of the format
abbrev pub AsksIn : Format → Asked → Type 0
AsksIn format (ls_refs q) = Unit {0}
AsksIn format (fetch q) = All (IsNameIn format) (haves_in q)
AsksIn format (object_info q) = All (IsNameIn format) (oids_in q)

-- the object names of a reference are values that object names have
pub record IsEntryOfNames (entry : Entry) : Type 0 where
  pub by_id : IsOid entry.id
  pub by_peeled : ForSome entry.peeled IsOid

-- the repository's answers can be written: object names have 32 bytes, and sizes 64 bits
pub record CanBeWritten (repo : Repository) : Type 0 where
  pub refs : All IsEntryOfNames repo.refs
  pub boundaries : (q : List Arg) → All (λ line. IsOid (object_of line)) (repo.boundaries q)
  pub sizes : (id : ObjectName) (size : ℕ) → repo.object_size id ≡ Some size → IsSize size

-- the packets after an answer's flush
abbrev pub end_packets : Ending → List Pkt
end_packets FlushOnly = []
end_packets ResponseEnd = resp_end ∷ []

-- the packets, wherever they are
abbrev pub packets_of : List Given → List Pkt
packets_of gs = map (λ g. g.packet) gs

-- the events of the answers to these requests, each with its end
abbrev pub announced_all : Repository → List Asked → List EventValue
announced_all repo asked = flat_map (λ q. announced_by repo q ++ ended ∷ []) asked

-- a capability without a value, if it is advertised
abbrev pub announced_where : Bool → List ℕ → List EventValue
announced_where is_offered key = if is_offered then capability key None ∷ [] else []

-- the events of the advertisement of an offer
abbrev pub announced_offer : Offer → List EventValue
announced_offer offer =
    capability (codes "agent") (Some (agent_text offer.agent)) ∷ capability (codes "ls-refs") (features_value (ls_refs_features offer))
    ∷ capability (codes "fetch") (features_value (fetch_features offer))
    ∷ (announced_where offer.server_option (codes "server-option")
    ++ capability (codes "object-format") (Some (format_name offer.format)) ∷ (announced_where offer.object_info (codes "object-info") ++ offered ∷ []))

-- the events of a play of these requests: the whole advertisement, and the answers
abbrev pub announced_play : Format → Repository → List Asked → List EventValue
announced_play format repo asked = announced_offer (everything format) ++ announced_all repo asked

-- the pack of an answer: that of a fetch that does not negotiate, or for which the repository is ready to send it
abbrev pub answered_pack : Repository → Asked → List ℕ
answered_pack repo (ls_refs q) = []
answered_pack repo (fetch q) = if not (negotiates q) || is_ready_for repo q then repo.pack q else []
answered_pack repo (object_info q) = []
