use Rattle.git_store.proofs.HostedRefusals.{lost_session}
use Rattle.git_store.proofs.laws.lost_pack_is_a_repositorys.Goals as goal

pub returns : goal.returns
returns c s repo failures used over reported given fault of is h = lost_session s repo failures used reported given fault over of is h
