use Rattle.std.proofs.Common.{refl}
use Rattle.git_client.proofs.Questions.{leaves}
use Rattle.git_client.proofs.client.Client.leave.Goals as goal

pub returns : goal.returns
returns g c = leaves c.args.self.now _ c.requires (record { format = refl; ending = refl; agent = refl; caps = refl }) refl refl
