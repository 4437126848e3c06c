use Rattle.std.proofs.Common.{refl}
use Rattle.git_server.proofs.FetchPackets.{line_follows, ready_follows}
use Rattle.git_server.proofs.fetching.write_fetch.Goals as goal

pub returns-in-Part-clause-written : goal.returns-in-Part-clause-written
returns-in-Part-clause-written g c =
    let repo = (g.R.Repo.state c.args.repo.now).answers in
    let came = c.in-Part.ensures in
    let at = c.in-Acknowledgments.at in
    record {
      packet = came.packet;
      writes = came.writes;
      is_next = line_follows repo c.args.request.now.asked at came.packet c.args.place.now c.in-Acknowledgments.is c.in-Part.next came.is_next;
      reads = record { answers = refl; failures = refl };
    }

pub returns-in-Ready-clause-written : goal.returns-in-Ready-clause-written
returns-in-Ready-clause-written g c =
    let repo = (g.R.Repo.state c.args.repo.now).answers in
    let came = c.in-Ready.ensures in
    let at = c.in-Acknowledgments.at in
    record {
      packet = came.packet;
      writes = came.writes;
      is_next = ready_follows repo c.args.request.now.asked at came.packet c.args.place.now c.in-Acknowledgments.is came.is_next;
      reads = record { answers = refl; failures = refl };
    }
