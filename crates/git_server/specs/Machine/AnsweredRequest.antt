-- A request that is being answered, and one more packet of its answer.
use Rattle.std.specs.Prelude.{◌≡◌, ◌<◌, ℕ, Option, Some, None, List, [], ◌∷◌, ◌++◌, drop, length, map}
use Rattle.git_pkt.specs.Packets.{Pkt, flush}
use Rattle.git_pkt.specs.declared.reader.PacketReader.{PacketReader}
use Rattle.git_msg.specs.declared.requests.Request.{Request}
use Rattle.git_msg.specs.declared.requests.Request.TheVariants.{LsRefs as OfLsRefs, Fetch as OfFetch, ObjectInfo as OfObjectInfo}
use Rattle.git_server.specs.Repository.{Repository, RepoState}
use Rattle.git_server.specs.Answers.{info_packet, ls_refs_answer, object_info_answer, reference_packets}
use Rattle.git_server.specs.Packs.{Manner, whole, broken}
use Rattle.git_server.specs.Machine.WrittenPackets.{Writes}
use Rattle.git_server.specs.declared.packfile.PackPlace.{PackPlace}
use Rattle.git_server.specs.declared.fetching.FetchPlace.{FetchPlace}
use Rattle.git_server.specs.Machine.FetchPlaces.{IsFetchFrom, IsPackfileFrom, first_place, most_fetch, most_packets}
use Rattle.git_server.specs.declared.answer.Answered.{Answered}
use Rattle.git_server.specs.declared.answer.Answered.TheVariants.{Part, Whole, Broken}
use Rattle.git_server.specs.declared.answer.Answer.{Answer}
use Rattle.git_server.specs.declared.answer.Answer.TheVariants.{References, Fetching, Sizes}
use Rattle.git_server.specs.declared.ls_refs.ReferencesPlace.{ReferencesPlace}
use Rattle.git_server.specs.declared.ls_refs.ReferencesPlace.TheVariants.{First, Entry}
use Rattle.git_server.specs.declared.object_info.SizesPlace.{SizesPlace}
use Rattle.git_server.specs.declared.object_info.SizesPlace.TheVariants.{Header as SizesHeader, Object}
use Rattle.git_msg.specs.Arguments.{Arg}
use Rattle.git_msg.specs.Asked.{oids_in}

-- the packets of an answer for references, from this place on
abbrev pub references_from : List Arg → Repository → ReferencesPlace → List Pkt
references_from q repo First = ls_refs_answer q repo
references_from q repo (Entry next) = reference_packets q (drop next repo.refs)

-- the packets end an answer for references, which never breaks off, from this place on
abbrev pub AreReferencesFrom : Manner → List Arg → Repository → ReferencesPlace → List Pkt → Type 0
AreReferencesFrom whole q repo place later = later ≡ references_from q repo place
AreReferencesFrom broken q repo place later = ⊥

-- the packets of an answer about objects, from this place on
abbrev pub sizes_from : List Arg → Repository → SizesPlace → List Pkt
sizes_from q repo SizesHeader = object_info_answer q repo
sizes_from q repo (Object next) = map (info_packet repo) (drop next (oids_in q)) ++ flush ∷ []

-- the packets end an answer about objects, which never breaks off, from this place on
abbrev pub AreSizesFrom : Manner → List Arg → Repository → SizesPlace → List Pkt → Type 0
AreSizesFrom whole q repo place later = later ≡ sizes_from q repo place
AreSizesFrom broken q repo place later = ⊥

module _ {A : Type 0} where
  -- the number of bytes in the argument lines of the request
  abbrev pub kept_with : Answer A → ℕ
  kept_with (References request place) = request.kept
  kept_with (Fetching request place) = request.kept
  kept_with (Sizes request place) = request.kept

  -- the number of bytes stored of the request
  abbrev pub stored_with : Answer A → ℕ
  stored_with (References request place) = request.stored
  stored_with (Fetching request place) = request.stored
  stored_with (Sizes request place) = request.stored

  -- the answer to a request, before its first packet
  abbrev pub answer_to : Request A → Answer A
  answer_to (OfLsRefs request) = References request First
  answer_to (OfFetch request) = Fetching request (first_place request.asked)
  answer_to (OfObjectInfo request) = Sizes request SizesHeader

  -- from its place on, the packets end the answer
  abbrev pub IsAnswerFrom : Manner → Repository → Answer A → List Pkt → Type 0
  IsAnswerFrom manner repo (References request place) later = AreReferencesFrom manner request.asked repo place later
  IsAnswerFrom manner repo (Fetching request place) later = IsFetchFrom manner repo request.asked place later
  IsAnswerFrom manner repo (Sizes request place) later = AreSizesFrom manner request.asked repo place later

  -- the maximum number of packets that end it
  abbrev pub most_from : Repository → Answer A → ℕ
  most_from repo (References request place) = length (references_from request.asked repo place)
  most_from repo (Fetching request place) = most_fetch repo request.asked place
  most_from repo (Sizes request place) = length (sizes_from request.asked repo place)

-- the packets from a place on, or none if the answer ended
abbrev pub references_after : List Arg → Repository → Option ReferencesPlace → List Pkt
references_after q repo (Some place) = references_from q repo place
references_after q repo None = []

-- the first of the remaining packets was written, and this place is the next
pub record AnswersOne (asked : List Arg) (repo : Repository) (place : ReferencesPlace) (old : PacketReader) (after : Option ReferencesPlace)
    (new : PacketReader) : Type 0 where
  pub packet : Pkt
  pub unsent : references_from asked repo place ≡ packet ∷ references_after asked repo after
  pub writes : Writes old packet new

-- the packets from a place on, or none if the answer ended
abbrev pub sizes_after : List Arg → Repository → Option SizesPlace → List Pkt
sizes_after q repo (Some next) = sizes_from q repo next
sizes_after q repo None = []

-- the packet is the next one from a place on; there are fewer packets to send after it, or the answer ends with it
abbrev pub IsNext : {P : Type 0} → (Manner → P → List Pkt → Type 0) → (P → ℕ) → P → Answered → P → Pkt → Type 0
IsNext AreUnsentFrom most old Part new packet =
    ((manner : Manner) (later : List Pkt) → AreUnsentFrom manner new later → AreUnsentFrom manner old (packet ∷ later)) × (most new < most old)
IsNext AreUnsentFrom most old Whole new packet = AreUnsentFrom whole old (packet ∷ [])
IsNext AreUnsentFrom most old Broken new packet = AreUnsentFrom broken old (packet ∷ [])

-- a read failed if and only if the answer broke off
abbrev pub FailsBy : Answered → ℕ → ℕ → Type 0
FailsBy Broken before now = before < now
FailsBy _ before now = now ≡ before

-- the repository's answers stay the same, and a read failed if and only if the answer broke off
pub record ReadsPack (answered : Answered) (old new : RepoState) : Type 0 where
  pub answers : new.answers ≡ old.answers
  pub failures : FailsBy answered old.failures new.failures

-- the next packet from a place on was written
pub record WritesNext {P : Type 0} (AreUnsentFrom : Manner → P → List Pkt → Type 0) (most : P → ℕ) (repo_old : RepoState) (old : P) (reader_old : PacketReader)
    (answered : Answered) (repo_new : RepoState) (new : P) (reader_new : PacketReader) : Type 0 where
  pub packet : Pkt
  pub writes : Writes reader_old packet reader_new
  pub is_next : IsNext AreUnsentFrom most old answered new packet
  pub reads : ReadsPack answered repo_old repo_new

-- the next packet of the section of this pack was written
abbrev pub WritesPack : List ℕ → RepoState → PackPlace → PacketReader → Answered → RepoState → PackPlace → PacketReader → Type 0
WritesPack pack = WritesNext (λ manner place later. IsPackfileFrom manner pack place later) (most_packets pack)

-- the next packet of the answer to this fetch was written
abbrev pub WritesFetch : List Arg → RepoState → FetchPlace → PacketReader → Answered → RepoState → FetchPlace → PacketReader → Type 0
WritesFetch q repo_old old reader_old answered repo_new new reader_new =
    WritesNext (λ manner place later. IsFetchFrom manner repo_old.answers q place later) (most_fetch repo_old.answers q)
    repo_old old reader_old answered repo_new new reader_new

-- the next packet of an answer was written
abbrev pub WritesAnswer : {A : Type 0} → RepoState → Answer A → PacketReader → Answered → RepoState → Answer A → PacketReader → Type 0
WritesAnswer repo_old old reader_old answered repo_new new reader_new =
    WritesNext (λ manner answer later. IsAnswerFrom manner repo_old.answers answer later) (most_from repo_old.answers)
    repo_old old reader_old answered repo_new new reader_new
