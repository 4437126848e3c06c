-- Calls of `feed_band`, one after another.
use Rattle.std.specs.Prelude.{◌≡◌, List, [], ◌∷◌, ◌++◌, ℕ, take}
use Rattle.git_pkt.specs.Passed.{OnBand, others, passed_by_all, passed_by_rest}
use Rattle.git_pkt.specs.Splits.{Given}
use Rattle.git_pkt.specs.Machine.PacketReader.{Reads}
use Rattle.git_pkt.specs.Machine.BandReader.{FeedsBand, part_of, announced_by}
use Rattle.git_pkt.specs.declared.reader.BandFed.{BandFed}
use Rattle.git_pkt.specs.declared.reader.PacketReader.{PacketReader}

-- a call with a chunk, and its result
pub record BandCall : Type 0 where
  pub chunk : List ℕ
  pub fed : BandFed

-- the bytes that the calls used
abbrev pub used_by : List BandCall → List ℕ
used_by [] = []
used_by (call ∷ calls) = take call.fed.used call.chunk ++ used_by calls

-- the packets that the calls returned
abbrev pub announced_by_all : List BandCall → List Given
announced_by_all [] = []
announced_by_all (call ∷ calls) = announced_by call.fed.got ++ announced_by_all calls

-- the bytes that the calls handed out, each with its band
abbrev pub parts_of_all : List BandCall → List OnBand
parts_of_all [] = []
parts_of_all (call ∷ calls) = part_of call.fed.got ++ parts_of_all calls

-- the calls took the reader from `old` to `new`
abbrev pub AreFed : PacketReader → List BandCall → PacketReader → Type 0
AreFed old [] new = old ≡ new
AreFed old (call ∷ calls) new = (mid : PacketReader) × FeedsBand old call.chunk call.fed mid × AreFed mid calls new

-- the bytes used brought more packets and a rest: the calls returned those packets that are on no band whose bytes pass, and
-- all parts, joined, are the bytes that pass of the packets and of the rest
pub record AllGoes (start : ℕ) (bytes : List ℕ) (given : List Given) (rest : List ℕ) (calls : List BandCall) (new : PacketReader) : Type 0 where
  pub more : List Given
  pub later : List ℕ
  pub reads : Reads new start (bytes ++ used_by calls) (given ++ more) later
  pub announced : others more ≡ announced_by_all calls
  pub joins : passed_by_all more ++ passed_by_rest later ≡ passed_by_rest rest ++ parts_of_all calls
