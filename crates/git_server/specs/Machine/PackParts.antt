-- A part of a pack: the result of a read of it, and the packet that reports it.
use Rattle.std.specs.Prelude.{◌≡◌, ◌<◌, ◌≤◌, ℕ, List, length, take}
use Rattle.std.specs.Io.{StartsWith}
use Rattle.git_pkt.specs.Packets.{Pkt, flush, spelling_of}
use Rattle.git_pkt.specs.Bands.{band_packet}
use Rattle.git_pkt.specs.declared.band.Band.TheVariants.{Pack as PackBand}
use Rattle.git_pkt.specs.declared.reader.PacketReader.{PacketReader}
use Rattle.git_server.specs.Machine.AnsweredRequest.{ReadsPack}
use Rattle.git_server.specs.Packs.{IsPackPart, pack_source_packet}
use Rattle.git_server.specs.Repository.{RepoState}
use Rattle.git_server.specs.Machine.WrittenPackets.{Writes}
use Rattle.git_server.specs.declared.answer.Answered.{Answered}
use Rattle.git_server.specs.declared.answer.Answered.TheVariants.{Part, Whole, Broken}
use Rattle.git_server.specs.declared.packfile.PartRead.{PartRead}
use Rattle.git_server.specs.declared.packfile.PartRead.TheVariants.{Bytes, End, Failed}

-- the state of the answer after it
abbrev pub answered_by : PartRead → Answered
answered_by (Bytes count) = Part
answered_by End = Whole
answered_by Failed = Broken

-- the packet that reports it: the bytes at the front of the buffer, or that there are no more, or that the source failed
abbrev pub part_packet : List ℕ → PartRead → Pkt
part_packet space (Bytes count) = band_packet PackBand (take count space)
part_packet space End = flush
part_packet space Failed = pack_source_packet

-- the bytes fit into a packet
abbrev pub FitsBuffer : PartRead → Type 0
FitsBuffer (Bytes count) = count ≤ 65515
FitsBuffer End = Unit {0}
FitsBuffer Failed = Unit {0}

-- the part read from the pack from an offset on, to the front of the buffer
abbrev pub IsPartRead : List ℕ → ℕ → List ℕ → PartRead → Type 0
IsPartRead pack offset space (Bytes count) = (0 < count) × IsPackPart pack offset count space
IsPartRead pack offset space End = length pack ≤ offset
IsPartRead pack offset space Failed = Unit {0}

-- a read into all of the buffer may return it
abbrev pub IsGiven : (ℕ → ℕ → Type 0) → PartRead → Type 0
IsGiven gives (Bytes count) = gives 65515 count
IsGiven gives End = Unit {0}
IsGiven gives Failed = Unit {0}

-- a part was read into the buffer
pub record ReadsPart (gives : ℕ → ℕ → Type 0) (pack : List ℕ) (offset : ℕ)
    (repo_old : RepoState) (part : PartRead) (repo_new : RepoState) (space : List ℕ) : Type 0 where
  pub is_read : IsPartRead pack offset space part
  pub given : IsGiven gives part
  pub reads : ReadsPack (answered_by part) repo_old repo_new

-- a part was read, and the buffer begins with its packet
pub record PutsPart (gives : ℕ → ℕ → Type 0) (pack : List ℕ) (offset : ℕ)
    (repo_old : RepoState) (part : PartRead) (repo_new : RepoState) (held : List ℕ) : Type 0 where
  pub space : List ℕ
  pub full : length space ≡ 65515
  pub is_read : IsPartRead pack offset space part
  pub given : IsGiven gives part
  pub reads : ReadsPack (answered_by part) repo_old repo_new
  pub begins : StartsWith held (spelling_of (part_packet space part))

-- a part was read, and its packet was written
pub record WritesPart (gives : ℕ → ℕ → Type 0) (pack : List ℕ) (offset : ℕ) (repo_old : RepoState) (old : PacketReader)
    (part : PartRead) (repo_new : RepoState) (new : PacketReader) : Type 0 where
  pub space : List ℕ
  pub full : length space ≡ 65515
  pub is_read : IsPartRead pack offset space part
  pub given : IsGiven gives part
  pub reads : ReadsPack (answered_by part) repo_old repo_new
  pub writes : Writes old (part_packet space part) new
