use Rattle.std.proofs.Common.{arith, ◌≡◌, ◌≢◌, ℕ, List, [], ◌∷◌, Err, sym, ap, ◌∙◌}
use Rattle.std.proofs.lemmas.Bool.Decides.{nat_tests}
use Rattle.git_pkt.specs.Bands.{IsNoBand}
use Rattle.git_pkt.specs.declared.band.Band.TheVariants.{Pack, Progress, Fatal}
use Rattle.git_pkt.specs.declared.fault.Kind.{Kind}
use Rattle.git_pkt.specs.declared.fault.Kind.TheVariants.{BadBand}
use Rattle.git_client.specs.Events.{events_of_band}
use Rattle.git_client.proofs.judge.refused_on_band.Goals as goal

other_byte : (byte : ℕ) (bytes : List ℕ) → byte ≢ 1 → byte ≢ 2 → byte ≢ 3 → events_of_band (byte ∷ bytes) ≡ Err BadBand
other_byte byte bytes one two three = grind (arith, nat_tests)

-- a payload that does not begin with a band's byte
no_band : (bytes : List ℕ) (kind : Kind) → IsNoBand bytes kind → events_of_band bytes ≡ Err kind
no_band [] kind is = ap Err (sym is)
no_band (byte ∷ bytes) kind (none, is) = other_byte byte bytes (none Pack) (none Progress) (none Fatal) ∙ ap Err (sym is)

pub returns-in-Err : goal.returns-in-Err
returns-in-Err c = no_band c.args.payload.now c.in-Err.kind c.in-Err.ensures
