use Rattle.std.proofs.Common.{◌≡◌, refl, flat_map}
use Rattle.git_pkt.specs.Packets.{seen}
use Rattle.git2show_lib.specs.JsonLines.{coded, payload_coded}
use Rattle.git2show_lib.proofs.JsonTexts.{as_json}
use Rattle.git2show_lib.proofs.json_lines.write_json.Goals as goal

pub returns-clause-line : goal.returns-clause-line
returns-clause-line c =
    let coded_is : flat_map (coded c.of.result) c.body-2.result.now ≡ payload_coded (seen c.args.packet) =
    rw (c.of.ensures, c.body.ensures, c.body-2.ensures) refl in
    as_json _ (record { packet = seen c.args.packet; offset = c.args.offset }) c.write_json_start-at.ensures.start (rw coded_is at c.write-at.ensures.coded)
    (rw c.json_end.ensures.end at c.put_at.ensures.put)
