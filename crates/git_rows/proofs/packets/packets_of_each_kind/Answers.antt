use Rattle.std.proofs.Common.{codes, refl, ◌∷◌, [], arith}
use Rattle.git_names.specs.Digits.{lower_digit}
use Rattle.git_pkt.specs.Packets.{payload, flush, delim, resp_end}
use Rattle.git_pkt.proofs.Spelling.{none_begins_nothing}
use Rattle.git_pkt.proofs.Streams.{one_split}
use Rattle.git_rows.specs.Worked.{at}
use Rattle.git_rows.proofs.WrittenPackets.{one_begins, splits_written}
use Rattle.git_rows.proofs.packets.packets_of_each_kind.Goals as goal

pub returns-clause-these : goal.returns-clause-these
unfolding lower_digit
returns-clause-these c =
    splits_written 0 (payload (codes "a\n") ∷ payload (codes "a") ∷ payload (codes "foobar\n") ∷ payload [] ∷ delim ∷ resp_end ∷ flush ∷ []) [] refl
    none_begins_nothing

pub returns-clause-none_of_another_kind : goal.returns-clause-none_of_another_kind
unfolding lower_digit
returns-clause-none_of_another_kind c = λ h.
    let k = splits_written 0 (delim ∷ []) [] refl none_begins_nothing in
    let same = one_split 0 (codes "0001") (at 0 flush ∷ []) (at 0 delim ∷ []) [] [] h.spelled k.spelled h.ends k.ends in
    let packets = same.packets in
    cc

pub returns-clause-none_left : goal.returns-clause-none_left
unfolding lower_digit
returns-clause-none_left c = λ h. one_begins (payload (codes "a")) [] (omega arith) h.ends
