-- What a store reports for one fetch, and the answers that this makes.
use Rattle.std.specs.Prelude.{◌≡◌, ◌⊎◌, ℕ, ◌<◌, Bool, true, false, if◌then◌else◌, All, List, [], ◌∷◌, ◌++◌, length, codes, Option, Some, None, unwrap_or}
use Rattle.std.specs.List.{list_any}
use Rattle.std.specs.Ordering.{is_eq}
use Rattle.git_names.specs.ObjectName.{ObjectName}
use Rattle.git_names.specs.declared.object_format.Format.{Format}
use Rattle.git_pkt.specs.Packets.{Pkt, flush, longest_payload}
use Rattle.git_pkt.specs.Bands.{band_packet}
use Rattle.git_pkt.specs.declared.band.Band.{Band}
use Rattle.git_pkt.specs.declared.band.Band.TheVariants.{Pack, Progress}
use Rattle.git_msg.specs.declared.Boundary.{Boundary}
use Rattle.git_msg.specs.declared.Boundary.TheVariants.{Shallow, Unshallow}
use Rattle.git_msg.specs.declared.flags.Flag.{Flag}
use Rattle.git_msg.specs.Arguments.{Arg}
use Rattle.git_msg.specs.Asked.{only_negotiates, haves_in, shallows_in, want_refs_in, flag_among}
use Rattle.git_msg.specs.ResponseLines.{wanted_of, wanted_text}
use Rattle.git_msg.specs.WrittenRequest.{text_line}
use Rattle.git_server.specs.Packs.{Manner, whole, broken, pack_source_packet, packfile_header}
use Rattle.git_server.specs.FetchAnswers.{IsFlushed, nak_or_acks, negotiates, ready_lines, section, shallow_info}
use Rattle.git_server.specs.Objects.{object_cmp, object_of}
use Rattle.git_server.specs.Repository.{IsUnshallowOf}

-- what a store reported for one fetch: whether it has each object that the client has, by place; whether it is ready to send a pack, if it was
-- asked that; the shallow boundary, and whether that is all of it; the object of each wanted reference, by place; the bytes of the pack, and those
-- of the progress
pub record FetchFacts : Type 0 where
  pub has : List Bool
  pub ready : Option Bool
  pub boundary : List Boundary
  pub boundary_ended : Bool
  pub wanted : List ObjectName
  pub pack : List ℕ
  pub progress : List ℕ

-- nothing but the objects of the wanted references
abbrev pub no_facts : List ObjectName → FetchFacts
no_facts wanted =
    record { has = []; ready = None; boundary = []; boundary_ended = false; wanted = wanted; pack = []; progress = [] }

-- a sound repository of the format may have the line in the shallow boundary for the request
pub record IsSoundLine (format : Format) (q : List Arg) (line : Boundary) : Type 0 where
  pub of_format : (object_of line).format ≡ format
  pub unshallow : IsUnshallowOf (shallows_in q) line

-- whether the line is no `unshallow` line, or that of one of these commits
abbrev pub may_have : List ObjectName → Boundary → Bool
may_have shallows (Shallow id) = true
may_have shallows (Unshallow id) = list_any (λ shallow. is_eq (object_cmp shallow id)) shallows

-- a sound repository of the format may answer so, and where the request wants no progress there is none
pub record AreSoundFacts (format : Format) (q : List Arg) (t : FetchFacts) : Type 0 where
  pub boundary : All (IsSoundLine format q) t.boundary
  pub quiet : flag_among q Flag.NoProgress ≡ true → t.progress ≡ []

-- the items that were reported as there, by place
abbrev pub picked : {X : Type 0} → List Bool → List X → List X
picked (b ∷ bs) (x ∷ xs) = if b then x ∷ picked bs xs else picked bs xs
picked _ _ = []

-- a line for each of the names, with its object
abbrev pub wanted_lines : List ObjectName → List (List ℕ) → List Pkt
wanted_lines (id ∷ ids) (name ∷ names) = text_line (wanted_text (wanted_of id name)) ∷ wanted_lines ids names
wanted_lines _ _ = []

-- the section of acknowledgments, but for its end
abbrev pub acknowledgments : List Arg → FetchFacts → List Pkt
acknowledgments q t = text_line (codes "acknowledgments") ∷ nak_or_acks (picked t.has (haves_in q))

-- whether the pack follows where the request negotiates, if that was reported; none does where the request only negotiates
abbrev pub readiness : List Arg → FetchFacts → Option Bool
readiness q t = if only_negotiates q then Some false else t.ready

-- whether the pack follows
abbrev pub sends_pack : List Arg → FetchFacts → Bool
sends_pack q t = if negotiates q then unwrap_or (readiness q t) false else true

-- what comes before the section of the shallow boundary
abbrev pub opening : List Arg → FetchFacts → List Pkt
opening q t = if negotiates q then acknowledgments q t ++ ready_lines else []

-- the section of wanted references, which is there where some were asked for
abbrev pub wanted_refs : List ObjectName → List (List ℕ) → List Pkt
wanted_refs ids [] = []
wanted_refs ids (name ∷ names) = section (codes "wanted-refs") (wanted_lines ids (name ∷ names))

-- what comes before the section of the pack
abbrev pub before_pack : List Arg → FetchFacts → List Pkt
before_pack q t = opening q t ++ (shallow_info t.boundary ++ wanted_refs t.wanted (want_refs_in q))

-- the packet carries a first part of the bytes on the band, and Rest holds of the bytes after that part
pub record BeginsBy (band : Band) (packet : Pkt) (bytes : List ℕ) (Rest : List ℕ → Type 0) : Type 0 where
  pub part : List ℕ
  pub more : List ℕ
  pub cut : bytes ≡ part ++ more
  pub some : 0 < length part
  pub fits : length part < longest_payload
  pub is : packet ≡ band_packet band part
  pub rest : Rest more

-- the packets have the bytes of the pack and those of the progress, each on its band and in its order
abbrev pub AreParts : List ℕ → List ℕ → List Pkt → Type 0
AreParts pack progress [] = (pack ≡ []) × (progress ≡ [])
AreParts pack progress (p ∷ ps) =
    BeginsBy Pack p pack (λ more. AreParts more progress ps) ⊎ BeginsBy Progress p progress (λ more. AreParts pack more ps)

-- what comes last: a flush, or that the source of the pack failed
abbrev pub last_packet : Manner → Pkt
last_packet whole = flush
last_packet broken = pack_source_packet

-- the boundary ended, each wanted reference has an object, and the packets are the sections, the last with the pack
pub record HasPack (manner : Manner) (q : List Arg) (t : FetchFacts) (packets : List Pkt) : Type 0 where
  pub ended : t.boundary_ended ≡ true
  pub all : length t.wanted ≡ length (want_refs_in q)
  pub parts : List Pkt
  pub are_parts : AreParts t.pack t.progress parts
  pub packets_are : packets ≡ before_pack q t ++ (packfile_header ∷ (parts ++ last_packet manner ∷ []))

-- where the request negotiates, each object that the client has was reported on, and whether the store is ready: the pack follows only if it is
abbrev pub IsFetchAnswerWhere : Bool → Option Bool → Manner → List Arg → FetchFacts → List Pkt → Type 0
IsFetchAnswerWhere true (Some true) manner q t packets = (length t.has ≡ length (haves_in q)) × HasPack manner q t packets
IsFetchAnswerWhere true (Some false) manner q t packets = (length t.has ≡ length (haves_in q)) × IsFlushed manner (acknowledgments q t) packets
IsFetchAnswerWhere true None manner q t packets = ⊥
IsFetchAnswerWhere false ready manner q t packets = HasPack manner q t packets

-- the packets are the answer to the fetch by what was reported
abbrev pub IsFetchAnswerOf : Manner → List Arg → FetchFacts → List Pkt → Type 0
IsFetchAnswerOf manner q t packets = IsFetchAnswerWhere (negotiates q) (readiness q t) manner q t packets

-- the packets are the answer to the fetch by what was reported, which a sound repository of the format may answer
pub record IsSoundFetchAnswer (manner : Manner) (format : Format) (q : List Arg) (t : FetchFacts) (packets : List Pkt) : Type 0 where
  pub sound : AreSoundFacts format q t
  pub answer : IsFetchAnswerOf manner q t packets
