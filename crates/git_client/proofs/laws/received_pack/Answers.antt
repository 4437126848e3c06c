use Rattle.git_client.proofs.Packs.{has_pack, whole_pack}
use Rattle.git_client.proofs.laws.received_pack.Goals as goal

pub returns : goal.returns
returns c = record { all = has_pack; whole = whole_pack }
