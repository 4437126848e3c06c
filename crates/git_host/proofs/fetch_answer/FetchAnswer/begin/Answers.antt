use Rattle.std.proofs.Common.{refl}
use Rattle.git_host.proofs.FetchMoves.{begins, none_sound}
use Rattle.git_host.proofs.fetch_answer.FetchAnswer.begin.Goals as goal

pub returns-clause-represents : goal.returns-clause-represents
returns-clause-represents g c all = record {
  wanted = refl;
  all = all;
  sound = none_sound c.args.format c.args.request.asked c.args.wanted.items;
  stands = begins c.args.request.asked c.args.wanted.items c.first_place-place.result c.first_place-place.ensures;
}
