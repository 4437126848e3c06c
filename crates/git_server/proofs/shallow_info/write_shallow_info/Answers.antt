use Rattle.std.proofs.Common.{List, [], ◌∷◌, ◌++◌, ap, map, ◌∙◌}
use Rattle.git_pkt.specs.Packets.{delim}
use Rattle.git_msg.specs.declared.Boundary.{Boundary}
use Rattle.git_server.specs.FetchAnswers.{boundary_packet}
use Rattle.git_server.specs.Machine.FetchPlaces.{boundary_from}
use Rattle.git_server.proofs.Dropped.{dropped}
use Rattle.git_server.proofs.shallow_info.write_shallow_info.Goals as goal

pub returns-then-at-count : goal.returns-then-at-count
returns-then-at-count g c =
    let boundaries = (g.R.Repo.state c.args.repo.now).answers.boundaries c.args.request.now.asked in
    record {
      packet = boundary_packet c.boundary.result;
      comes_first = ap (boundary_from boundaries) c.in-Line.is
          ∙ ap (λ (l : List Boundary). map boundary_packet l ++ delim ∷ []) (dropped boundaries c.in-Line.at c.boundary.result c.boundary.ensures);
      writes = c.write_boundary.ensures;
    }
