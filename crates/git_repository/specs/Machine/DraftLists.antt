-- The values of a `Draft` that contracts refer to.
use Rattle.git_server.specs.Lists.{Lists, lists_in}
use Rattle.git_repository.specs.declared.drafts.Draft.{Draft}

-- the lists of a draft
abbrev pub drafted : Draft → Lists
drafted draft = lists_in draft.lists
