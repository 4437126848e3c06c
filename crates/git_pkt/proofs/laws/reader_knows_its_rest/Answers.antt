use Rattle.git_pkt.proofs.KnownRest.{none_between, some_inside, rest_length, all_is_held}
use Rattle.git_pkt.proofs.laws.reader_knows_its_rest.Goals as goal

pub returns : goal.returns
returns c = record {
  between = λ r rest h shut. none_between r rest h shut;
  inside = λ r rest h begun. some_inside r rest h begun;
  long = λ r rest h. rest_length r rest h;
  all = λ r gathers. all_is_held r gathers;
}
