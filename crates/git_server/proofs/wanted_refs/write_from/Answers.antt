use Rattle.std.proofs.Common.{arith, ◌∷◌, [], ◌++◌, List, sym, ap, subst, ◌∙◌}
use Rattle.git_names.specs.ObjectName.{hex_of}
use Rattle.git_pkt.specs.Packets.{Pkt, delim}
use Rattle.git_pkt.specs.declared.reader.PacketReader.{PacketReader}
use Rattle.git_msg.specs.WrittenRequest.{text_line}
use Rattle.git_server.specs.Machine.WrittenPackets.{Writes}
use Rattle.git_server.proofs.WantedLines.{found_named, no_more_lines, passed_over, announced, within_names}
use Rattle.git_server.proofs.wanted_refs.write_from.Goals as goal
use Rattle.git_msg.specs.Asked.{want_refs_in}

pub write_wanted-requires-clause-named : goal.write_wanted-requires-clause-named
write_wanted-requires-clause-named g c =
    found_named (g.R.Repo.state c.args.repo.now).answers c.in-Some.name.now c.in-Some-find.id (g.met.R.Repo.sound c.args.repo.now) c.in-Some-find.ensures

pub returns-in-Some-find : goal.returns-in-Some-find
returns-in-Some-find g c =
    let repo = (g.R.Repo.state c.args.repo.now).answers in
    let line = text_line (hex_of c.in-Some-find.id ++ 32 ∷ c.in-Some.name.now) in
    let lines = announced repo (g.met.R.Repo.sound c.args.repo.now) (want_refs_in c.args.request.now.asked) c.loop-name.at
    c.in-Some.name.now c.in-Some.ensures.value c.in-Some-find.id c.in-Some-find.ensures in
    record {
      packet = line;
      comes_first = ap (λ (l : List Pkt). l ++ delim ∷ []) (sym c.loop-name.invariant.none ∙ lines);
      writes = subst (λ (r : PacketReader). Writes r line c.write_wanted.new.reader) c.loop-name.invariant.unwritten c.write_wanted.ensures;
    }

pub loop-name-smaller : goal.loop-name-smaller
loop-name-smaller g c =
    let repo = (g.R.Repo.state c.args.repo.now).answers in
    let within = within_names repo (g.met.R.Repo.sound c.args.repo.now) (want_refs_in c.args.request.now.asked) c.loop-name.at
    c.in-Some.name.now c.in-Some.ensures.value in
    omega (arith, within)

pub loop-name-preserved : goal.loop-name-preserved
loop-name-preserved g c =
    let repo = (g.R.Repo.state c.args.repo.now).answers in
    record {
      none = passed_over repo (g.met.R.Repo.sound c.args.repo.now) (want_refs_in c.args.request.now.asked) c.loop-name.at
          c.in-Some.name.now c.in-Some.ensures.value c.in_default-find.ensures ∙ c.loop-name.invariant.none;
      unwritten = c.loop-name.invariant.unwritten;
    }

pub returns : goal.returns
returns g c =
    let repo = (g.R.Repo.state c.args.repo.now).answers in
    let none = no_more_lines repo (want_refs_in c.args.request.now.asked) c.loop-name.at c.in_default.ensures.value in
    record {
      packet = delim;
      comes_first = ap (λ (l : List Pkt). l ++ delim ∷ []) (sym c.loop-name.invariant.none ∙ none);
      writes = subst (λ (r : PacketReader). Writes r delim c.write_packet.new.reader) c.loop-name.invariant.unwritten c.write_packet.ensures;
    }
