use Rattle.git_store.proofs.HostedRefusals.{refused_session}
use Rattle.git_store.proofs.laws.refused_session_is_a_repositorys.Goals as goal

pub returns : goal.returns
returns c s repo failures used over reported given fault of had other h =
    refused_session s repo failures used over reported given fault of had other h
