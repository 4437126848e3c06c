use Rattle.git_pkt.proofs.Completions.{split_of}
use Rattle.git_pkt.proofs.laws.every_stream_splits.Goals as goal

pub returns : goal.returns
returns c = λ start bytes.
    let split = split_of start bytes in
    (split.given, split.rest, split.splits)
