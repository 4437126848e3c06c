use Rattle.git_client.proofs.Packs.{one_pack}
use Rattle.git_client.proofs.laws.one_pack.Goals as goal

pub returns : goal.returns
returns c = one_pack
