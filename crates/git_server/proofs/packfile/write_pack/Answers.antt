use Rattle.git_server.specs.declared.packfile.PartRead.TheVariants.{Bytes, End, Failed}
use Rattle.git_server.proofs.FullParts.{written_full}
use Rattle.git_server.proofs.PackPackets.{part_written}
use Rattle.git_server.proofs.packfile.write_pack.Goals as goal

pub returns-in-Bytes : goal.returns-in-Bytes
returns-in-Bytes g c =
    let gives = g.R.Repo.read_gives c.args.repo.now c.args.request.now.asked in
    let pack = (g.R.Repo.state c.args.repo.now).answers.pack c.args.request.now.asked in
    let offset = c.in-Pack.offset in
    record {
      written = part_written (gives offset) pack offset c.args.place.now c.in-Pack.is _ _ (Bytes c.in-Bytes.count) _ _ c.in-Bytes.ensures;
      full = written_full gives pack offset c.args.place.now c.in-Pack.is _ _ (Bytes c.in-Bytes.count) _ _ c.in-Bytes.ensures;
    }

pub returns-in-End : goal.returns-in-End
returns-in-End g c =
    let gives = g.R.Repo.read_gives c.args.repo.now c.args.request.now.asked in
    let pack = (g.R.Repo.state c.args.repo.now).answers.pack c.args.request.now.asked in
    let offset = c.in-Pack.offset in
    record {
      written = part_written (gives offset) pack offset c.args.place.now c.in-Pack.is _ _ End _ _ c.in-End.ensures;
      full = written_full gives pack offset c.args.place.now c.in-Pack.is _ _ End _ _ c.in-End.ensures;
    }

pub returns-in-Failed : goal.returns-in-Failed
returns-in-Failed g c =
    let gives = g.R.Repo.read_gives c.args.repo.now c.args.request.now.asked in
    let pack = (g.R.Repo.state c.args.repo.now).answers.pack c.args.request.now.asked in
    let offset = c.in-Pack.offset in
    record {
      written = part_written (gives offset) pack offset c.args.place.now c.in-Pack.is _ _ Failed _ _ c.in-Failed.ensures;
      full = written_full gives pack offset c.args.place.now c.in-Pack.is _ _ Failed _ _ c.in-Failed.ensures;
    }
