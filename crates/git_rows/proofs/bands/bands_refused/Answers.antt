use Rattle.std.proofs.Common.{refl}
use Rattle.git_pkt.specs.declared.band.Band.TheVariants.{Fatal}
use Rattle.git_rows.proofs.bands.bands_refused.Goals as goal

pub returns-clause-not_the_third : goal.returns-clause-not_the_third
returns-clause-not_the_third c = λ h. h.0 Fatal refl
