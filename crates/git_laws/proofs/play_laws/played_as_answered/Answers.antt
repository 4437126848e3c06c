use Rattle.git_laws.proofs.PacksAnnounced.{all_packs}
use Rattle.git_laws.proofs.PlaysAnnounced.{as_announced}
use Rattle.git_laws.proofs.play_laws.played_as_answered.Goals as goal

pub returns : goal.returns
returns g c = record {
  announced = as_announced;
  packs = all_packs;
}
