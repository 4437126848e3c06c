use Rattle.std.proofs.Common.{rules}
use Rattle.std.specs.Option.{is_some}
use Rattle.std.proofs.lemmas.List.{nil_from_length}
use Rattle.git_server.specs.Repository.{bytes_of}
use Rattle.git_repository.specs.Machine.DraftLists.{drafted}
use Rattle.git_repository.specs.Drafts.{head_names}
use Rattle.git_repository.proofs.LastNames.{after_refs, after_unborn}
use Rattle.git_repository.proofs.drafts.Draft.comes_last.Goals as goal

pub returns-else-is_none : goal.returns-else-is_none
returns-else-is_none c =
    after_unborn (drafted c.args.self.now) c.args.name.now _
    (nil_from_length c.args.self.now.lists.refs.items (search rules)) (search rules) (search rules)

pub returns : goal.returns
returns c =
    after_refs (head_names (is_some (bytes_of c.args.self.now.lists.unborn_head))) c.args.self.now.lists.refs.items c.args.name.now c.index.result.now _
    (search rules) (search rules) (search rules)
