use Rattle.std.proofs.Common.{refl}
use Rattle.git2show_lib.specs.declared.sieve.Spot.TheVariants.{Header}
use Rattle.git2show_lib.proofs.SievedLists.{comes_whole}
use Rattle.git2show_lib.proofs.sieve_laws.nothing_sieved.Goals as goal

pub returns-clause-same : goal.returns-clause-same
returns-clause-same c = λ format packets. (comes_whole format Header packets refl).same

pub returns-clause-passed : goal.returns-clause-passed
returns-clause-passed c = λ format packets. (comes_whole format Header packets refl).passed
