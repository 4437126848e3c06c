use Rattle.std.proofs.Common.{arith, ap, length}
use Rattle.git_server.proofs.WrittenHolds.{lent_begins, part_fits}
use Rattle.git_server.proofs.packfile.write_part.Goals as goal

pub returns : goal.returns
returns g c =
    let put = c.put_part-part.ensures in
    record {
      space = put.space;
      full = put.full;
      is_read = put.is_read;
      given = put.given;
      reads = put.reads;
      writes = lent_begins c.args.reader.now c.put_part-part.new.hold _ c.requires
          (omega (arith, c.hold.ensures.fits, ap length c.hold.ensures.value)) put.begins
          (part_fits put.space put.full c.put_part-part.result);
    }
