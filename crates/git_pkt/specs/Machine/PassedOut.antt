-- Bytes that passed, as they are handed out.
use Rattle.std.specs.Prelude.{◌≡◌, ℕ, ◌-◌, ◌≤◌, List, take, drop}
use Rattle.git_pkt.specs.declared.reader.BandGot.{BandGot}
use Rattle.git_pkt.specs.declared.reader.BandGot.TheVariants.{More, Part as PartGot, Failed as FailedGot}
use Rattle.git_pkt.specs.declared.progress.BandProgress.{BandProgress}
use Rattle.git_pkt.specs.declared.progress.BandProgress.TheVariants.{Open, Empty, Part, Whole, Failed}

-- the bytes that passed are among those used
abbrev pub HasPart : BandProgress → ℕ → Type 0
HasPart (Part part) used = part.count ≤ used
HasPart progress used = Unit {0}

-- the result of a step is handed out: bytes that passed are the last of the chunk's used ones
abbrev pub HandsOut : BandProgress → ℕ → List ℕ → BandGot → Type 0
HandsOut (Part part) used chunk (PartGot band bytes) =
    (band ≡ part.band) × (bytes.now ≡ take (used - (used - part.count)) (drop (used - part.count) chunk))
HandsOut (Failed f) used chunk (FailedGot g) = f ≡ g
HandsOut Open used chunk More = Unit {0}
HandsOut Empty used chunk More = Unit {0}
HandsOut Whole used chunk More = Unit {0}
HandsOut progress used chunk got = ⊥
