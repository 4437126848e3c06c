use Rattle.std.proofs.Common.{◌≡◌, ◌∙◌, sym}
use Rattle.git_server.specs.Objects.{has_object}
use Rattle.git_server.proofs.FoundObject.{has_found, has_means}
use Rattle.git_server.proofs.list_repo.stands_among.Goals as goal

pub returns : goal.returns
returns c =
    let value : c.is_some.result ≡ has_object c.args.objects.now c.args.id.now =
    c.is_some.ensures ∙ has_found c.args.objects.now c.args.id.now c.find_object.result c.find_object.ensures in
    let means = has_means c.args.objects.now c.args.id.now in
    record { value = value; among = ((λ found. means.0 (sym value ∙ found)), (λ among. value ∙ means.1 among)) }
