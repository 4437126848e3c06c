use Rattle.std.proofs.Common.{List, [], sym, subst, append-nil}
use Rattle.git_pkt.specs.Splits.{Given, SpellsAll}
use Rattle.git2show_lib.specs.declared.sieve.Spot.TheVariants.{Header}
use Rattle.git2show_lib.proofs.SievedLengths.{sieved_within}
use Rattle.git2show_lib.proofs.sieve_laws.nothing_added.Goals as goal

pub returns : goal.returns
returns c = λ form start bytes packets rest spells.
    sieved_within form Header start bytes packets [] rest
    (subst (λ (gs : List Given). SpellsAll start bytes gs rest) (sym (append-nil packets)) spells)
