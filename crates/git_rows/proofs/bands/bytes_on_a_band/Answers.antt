use Rattle.std.proofs.Common.{[], codes, refl, arith}
use Rattle.git_rows.proofs.bands.bytes_on_a_band.Goals as goal

pub returns-clause-in_one_packet : goal.returns-clause-in_one_packet
returns-clause-in_one_packet c = (codes "AB", [], refl, omega arith, omega arith, refl, refl)

pub returns-clause-in_two_packets : goal.returns-clause-in_two_packets
returns-clause-in_two_packets c =
    (codes "A", codes "B", refl, omega arith, omega arith, refl, (codes "B", [], refl, omega arith, omega arith, refl, refl))
