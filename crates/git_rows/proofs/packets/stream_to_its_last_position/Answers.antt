use Rattle.std.proofs.Common.{codes, refl, ◌∷◌, []}
use Rattle.git_names.specs.Digits.{lower_digit}
use Rattle.git_pkt.specs.Packets.{payload}
use Rattle.git_pkt.proofs.Spelling.{none_begins_nothing}
use Rattle.git_rows.proofs.WrittenPackets.{splits_written}
use Rattle.git_rows.proofs.packets.stream_to_its_last_position.Goals as goal

pub returns-clause-taken : goal.returns-clause-taken
unfolding lower_digit
returns-clause-taken c = splits_written 9223372036854775801 (payload (codes "a\n") ∷ []) [] refl none_begins_nothing
