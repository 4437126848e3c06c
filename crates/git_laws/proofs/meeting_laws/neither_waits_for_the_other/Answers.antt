use Rattle.git_laws.proofs.NeitherWaits.{front_received, nothing_refused, one_goes_on}
use Rattle.git_laws.proofs.meeting_laws.neither_waits_for_the_other.Goals as goal

pub returns : goal.returns
returns g c = record {
  front = λ format limit before calls now met kept. front_received g.R.Repo.state g.A.Memory.refuses format limit before calls now met kept;
  goes_on = λ format limit before calls now met sound stays goes.
      one_goes_on g.R.Repo.state g.A.Memory.refuses format limit before calls now met sound stays goes;
  sound = λ format limit before calls now fault met clean failed.
      nothing_refused g.R.Repo.state g.A.Memory.refuses format limit before calls now met clean fault failed;
}
