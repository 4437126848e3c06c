-- The events of a packet that is not whole: in the packfile section each byte after the band's is one.
use Rattle.std.specs.Prelude.{◌≡◌, ◌⊎◌, ℕ, List, [], ◌∷◌, ◌++◌, Option, Some}
use Rattle.git_pkt.specs.Faults.{IsOpen}
use Rattle.git_pkt.specs.Passed.{OnBand, passed_by_rest}
use Rattle.git_pkt.specs.Splits.{Given}
use Rattle.git_pkt.specs.declared.band.Band.{Band}
use Rattle.git_pkt.specs.declared.band.Band.TheVariants.{Pack, Progress, Fatal}
use Rattle.git_client.specs.Places.{Place, packfile}
use Rattle.git_client.specs.Events.{EventValue, pack, progress}

-- the events of a byte on a band: a fatal error has none before its last byte
abbrev pub band_event : Band → ℕ → List EventValue
band_event Pack byte = pack byte ∷ []
band_event Progress byte = progress byte ∷ []
band_event Fatal byte = []

-- the events of bytes on bands, in order
abbrev pub events_on : List OnBand → List EventValue
events_on [] = []
events_on (on ∷ bytes) = band_event on.band on.byte ++ events_on bytes

-- the events of an open packet at this place
abbrev pub opened_in : Option Place → List ℕ → List EventValue
opened_in (Some packfile) rest = events_on (passed_by_rest rest)
opened_in place rest = []

-- the part of an open packet, if no packet before it is refused
abbrev pub unless_refused : {X : Type 0} → List Given → List X → List X
unless_refused [] part = part
unless_refused (g ∷ gs) part = []

-- the part of an open rest; a rest that cannot become a packet has none
abbrev pub IsOfRest : {X : Type 0} → List ℕ → List X → List X → Type 0
IsOfRest rest part opened = (IsOpen rest × (opened ≡ part)) ⊎ ((¬ IsOpen rest) × (opened ≡ []))
