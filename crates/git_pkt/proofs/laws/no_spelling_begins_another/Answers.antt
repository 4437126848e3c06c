use Rattle.std.proofs.Common.{◌++◌, [], sym}
use Rattle.std.proofs.lemmas.List.{append-nil}
use Rattle.git_pkt.proofs.Spelling.{same_start}
use Rattle.git_pkt.proofs.laws.no_spelling_begins_another.Goals as goal

pub returns : goal.returns
returns c = λ p q s more h k.
    let same = same_start p q s (s ++ more) more [] h k (sym (append-nil (s ++ more))) in
    (same.rest, same.packet)
