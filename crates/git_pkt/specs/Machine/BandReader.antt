-- The calls of a packet reader in a section of side bands, where bytes of the pack and of the progress pass as they come.
use Rattle.std.specs.Prelude.{◌≡◌, ◌≢◌, ◌⊎◌, ℕ, ◌+◌, ◌<◌, ◌≤◌, true, false, List, [], ◌∷◌, ◌++◌, length, take, drop, map, Some, None}
use Rattle.git_pkt.specs.Packets.{Pkt, Spells, body_of, seen, longest_payload}
use Rattle.git_pkt.specs.Passed.{OnBand, begins_band, is_on_band, on, others, passed_by_all, passed_by_rest}
use Rattle.git_pkt.specs.Splits.{Given}
use Rattle.git_pkt.specs.Faults.{last_position}
use Rattle.git_pkt.specs.Machine.HeldPacket.{IsWhole}
use Rattle.git_pkt.specs.Machine.PacketReader.{Holds, Reads, ShownByFeed, fault_of, held_of, is_open, open_length, passes_of, position_of, rest_of}
use Rattle.git_pkt.specs.declared.band.Band.{Band}
use Rattle.git_pkt.specs.declared.band.Band.TheVariants.{Fatal}
use Rattle.git_pkt.specs.declared.fault.Fault.{Fault}
use Rattle.git_pkt.specs.declared.reader.PacketReader.{PacketReader}
use Rattle.git_pkt.specs.declared.reader.BandFed.{BandFed}
use Rattle.git_pkt.specs.declared.reader.BandGot.{BandGot}
use Rattle.git_pkt.specs.declared.reader.BandGot.TheVariants.{More, Part, Packet, Failed}
use Rattle.git_pkt.specs.declared.progress.BandProgress.{BandProgress}
use Rattle.git_pkt.specs.declared.progress.BandProgress.TheVariants.{Open as OpenYet, Empty as EmptyPacket, Part as PartCame, Whole as WholePacket}
use Rattle.git_pkt.specs.declared.progress.BandProgress.TheVariants.{Failed as FailedStep}

-- an open packet that `feed` began is on no band whose bytes pass
abbrev pub MayPass : PacketReader → Type 0
MayPass r = passes_of r ≡ false → begins_band (drop 4 (rest_of r)) ≡ false

-- the used bytes continue a stream of these bytes: packets whose bytes pass became whole, and then those returned, and the
-- parts join to the bytes that pass of them
pub record GoesByBands (start : ℕ) (bytes : List ℕ) (given : List Given) (rest used : List ℕ) (announced : List Given) (parts : List OnBand)
    (new : PacketReader) : Type 0 where
  pub passed : List Given
  pub later : List ℕ
  pub reads : Reads new start (bytes ++ used) (given ++ (passed ++ announced)) later
  pub on_bands : others passed ≡ []
  pub free : others announced ≡ announced
  pub joins : passed_by_all passed ++ passed_by_rest later ≡ passed_by_rest rest ++ parts
  pub held : (g : Given) → announced ≡ g ∷ [] → (before : List ℕ) × (bytes ++ used ≡ before ++ held_of new)

-- the same, whatever the stream was so far
abbrev pub ReadsBandsOn : PacketReader → List ℕ → List Given → List OnBand → PacketReader → Type 0
ReadsBandsOn old used announced parts new =
    (start : ℕ) (bytes : List ℕ) (given : List Given) (rest : List ℕ) → Reads old start bytes given rest
    → GoesByBands start bytes given rest used announced parts new

-- the packet of an answer
abbrev pub announced_by : BandGot → List Given
announced_by More = []
announced_by (Part band bytes) = []
announced_by (Packet p offset) = (record { packet = seen p; offset = offset }) ∷ []
announced_by (Failed f) = []

-- the bytes of an answer that passed
abbrev pub part_of : BandGot → List OnBand
part_of More = []
part_of (Part band bytes) = map (on band) bytes.now
part_of (Packet p offset) = []
part_of (Failed f) = []

-- bytes that passed: they are the last of the used ones, and all that the chunk, or the stream, has of their packet from there on
pub record IsPart (bytes : List ℕ) (used : ℕ) (chunk : List ℕ) (new : PacketReader) : Type 0 where
  pub uses : 0 < used
  pub some : 0 < length bytes
  pub fits : length bytes < longest_payload
  pub front : List ℕ
  pub lies : take used chunk ≡ front ++ bytes
  pub no_fault : fault_of new ≡ None
  pub all : is_open new ≡ true → (used ≡ length chunk) ⊎ (position_of new ≡ last_position)
  pub few : length (held_of new) ≤ 5

-- the meaning of each answer for the reader: a packet whose bytes pass is never returned, and no bytes of a fatal error pass
abbrev pub AnnouncesBand : BandGot → ℕ → List ℕ → PacketReader → Type 0
AnnouncesBand More used chunk new = (used ≡ length chunk) × (fault_of new ≡ None)
AnnouncesBand (Part band bytes) used chunk new = (band ≢ Fatal) × IsPart bytes.now used chunk new
AnnouncesBand (Packet p offset) used chunk new =
    (0 < used) × (fault_of new ≡ None) × (is_open new ≡ false) × Spells (seen p) (held_of new)
    × (offset + length (held_of new) ≡ position_of new) × (is_on_band (seen p) ≡ false)
AnnouncesBand (Failed f) used chunk new = fault_of new ≡ Some f

-- a reader that had no fault reports only a fault that the chunk shows
abbrev pub IsBandNews : PacketReader → List ℕ → BandFed → Type 0
IsBandNews old chunk fed = (f : Fault) → fault_of old ≡ None → fed.got ≡ Failed f → ShownByFeed f fed.used chunk

-- a reader with this fault uses nothing and returns the fault again
abbrev pub RepeatsBand : PacketReader → BandFed → PacketReader → Type 0
RepeatsBand old fed new = (f : Fault) → fault_of old ≡ Some f → (fed.used ≡ 0) × (fed.got ≡ Failed f) × (new ≡ old)

-- the hold has only the first five bytes of a packet whose bytes pass
abbrev pub HoldsFew : PacketReader → Type 0
HoldsFew new = (rest : List ℕ) → Holds new rest → begins_band (drop 4 rest) ≡ true → length (held_of new) ≤ 5

-- how many bytes of the open packet have come after a call: at most those before it and those used, and fewer if packets
-- that give nothing became whole; all bytes of a packet that is returned had come
abbrev pub CountsBand : PacketReader → ℕ → BandGot → PacketReader → Type 0
CountsBand old used More new = open_length new ≤ open_length old + used
CountsBand old used (Part band bytes) new = open_length new ≤ open_length old + used
CountsBand old used (Packet p offset) new = (length (body_of (seen p)) + 4 ≤ open_length old + used) × (open_length new ≡ 0)
CountsBand old used (Failed f) new = open_length new ≡ 0

-- the effect of a call of `feed_band`
pub record FeedsBand (old : PacketReader) (chunk : List ℕ) (fed : BandFed) (new : PacketReader) : Type 0 where
  pub reads : ReadsBandsOn old (take fed.used chunk) (announced_by fed.got) (part_of fed.got) new
  pub announces : AnnouncesBand fed.got fed.used chunk new
  pub news : IsBandNews old chunk fed
  pub stays : RepeatsBand old fed new
  pub keeps : fed.used ≡ 0 → held_of new ≡ held_of old
  pub counts : CountsBand old fed.used fed.got new
  pub passes : MayPass new
  pub few : HoldsFew new

-- no packet is returned, and the whole chunk is used
pub record StaysOpen (old : PacketReader) (chunk : List ℕ) (used : ℕ) (new : PacketReader) : Type 0 where
  pub all : used ≡ length chunk
  pub no_fault : fault_of new ≡ None
  pub goes : ReadsBandsOn old (take used chunk) [] [] new

-- a packet came that has no byte on its band
pub record PassesOver (old : PacketReader) (chunk : List ℕ) (used : ℕ) (new : PacketReader) : Type 0 where
  pub some : 0 < used
  pub no_fault : fault_of new ≡ None
  pub goes : ReadsBandsOn old (take used chunk) [] [] new

-- so many bytes passed, the last of those used
pub record Passes (band : Band) (count : ℕ) (old : PacketReader) (chunk : List ℕ) (used : ℕ) (new : PacketReader) : Type 0 where
  pub bytes : List ℕ
  pub not_fatal : band ≢ Fatal
  pub long : length bytes ≡ count
  pub is_part : IsPart bytes used chunk new
  pub goes : ReadsBandsOn old (take used chunk) [] (map (on band) bytes) new

-- any other packet lies whole in the hold
pub record IsHeldWhole (old : PacketReader) (chunk : List ℕ) (used : ℕ) (new : PacketReader) : Type 0 where
  pub some : 0 < used
  pub no_fault : fault_of new ≡ None
  pub closed : is_open new ≡ false
  pub whole : IsWhole (held_of new) new.field
  pub on_no_band : begins_band (drop 4 (held_of new)) ≡ false
  pub behind : length (held_of new) ≤ position_of new
  pub counts : length (held_of new) ≤ open_length old + used
  pub goes : (p : Pkt) (offset : ℕ) → Spells p (held_of new) → offset + length (held_of new) ≡ position_of new
      → ReadsBandsOn old (take used chunk) ((record { packet = p; offset = offset }) ∷ []) [] new

-- the stream has a fault
pub record StopsReading (f : Fault) (old : PacketReader) (chunk : List ℕ) (used : ℕ) (new : PacketReader) : Type 0 where
  pub announced : fault_of new ≡ Some f
  pub shown : ShownByFeed f used chunk
  pub goes : ReadsBandsOn old (take used chunk) [] [] new

-- the result of a step
abbrev pub Comes : BandProgress → PacketReader → List ℕ → ℕ → PacketReader → Type 0
Comes OpenYet old chunk used new = StaysOpen old chunk used new
Comes EmptyPacket old chunk used new = PassesOver old chunk used new
Comes (PartCame part) old chunk used new = Passes part.band part.count old chunk used new
Comes WholePacket old chunk used new = IsHeldWhole old chunk used new
Comes (FailedStep f) old chunk used new = StopsReading f old chunk used new

-- the effect of a step
pub record BandMoves (old : PacketReader) (chunk : List ℕ) (used : ℕ) (progress : BandProgress) (new : PacketReader) : Type 0 where
  pub passes : MayPass new
  pub rises : open_length new ≤ open_length old + used
  pub comes : Comes progress old chunk used new
