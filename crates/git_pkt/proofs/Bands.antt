-- A payload has one band, or is refused with one error.
use Rattle.std.proofs.Common.{◌≡◌, ℕ, List, [], ◌∷◌, refl, sym, ◌∙◌}
use Rattle.git_pkt.specs.declared.band.Band.{Band}
use Rattle.git_pkt.specs.declared.band.Band.TheVariants.{Pack, Progress, Fatal}
use Rattle.git_pkt.specs.declared.fault.Kind.{Kind}
use Rattle.git_pkt.specs.Bands.{IsNoBand, byte_of}

same_band : (band other : Band) → byte_of band ≡ byte_of other → band ≡ other
same_band Pack Pack e = refl
same_band Progress Progress e = refl
same_band Fatal Fatal e = refl
same_band Pack Progress e = cc
same_band Pack Fatal e = cc
same_band Progress Pack e = cc
same_band Progress Fatal e = cc
same_band Fatal Pack e = cc
same_band Fatal Progress e = cc

pub one_band : (bytes part more : List ℕ) (band other : Band) → bytes ≡ byte_of band ∷ part → bytes ≡ byte_of other ∷ more
    → (band ≡ other) × (part ≡ more)
one_band bytes part more band other h k = (same_band band other cc, cc)

pub band_or_fault : (bytes part : List ℕ) (band : Band) (kind : Kind) → bytes ≡ byte_of band ∷ part → IsNoBand bytes kind → ⊥
band_or_fault [] part band kind h fault = cc
band_or_fault (byte ∷ bytes) part band kind h fault = fault.0 band cc

pub one_band_fault : (bytes : List ℕ) (kind other : Kind) → IsNoBand bytes kind → IsNoBand bytes other → kind ≡ other
one_band_fault [] kind other h k = h ∙ sym k
one_band_fault (byte ∷ bytes) kind other h k = h.1 ∙ sym k.1
