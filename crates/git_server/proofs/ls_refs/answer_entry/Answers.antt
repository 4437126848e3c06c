use Rattle.std.proofs.Common.{rules, sym, subst}
use Rattle.git_server.specs.Repository.{IsRising}
use Rattle.git_server.proofs.Formats.{of_one_format}
use Rattle.git_server.proofs.ls_refs.answer_entry.Goals as goal

pub returns-in-Some : goal.returns-in-Some
returns-in-Some g c = search rules

pub write_entry-requires-clause-format : goal.write_entry-requires-clause-format
write_entry-requires-clause-format g c =
    of_one_format _ _ c.in-Some.at _ (g.met.R.Repo.sound c.args.repo.now) c.refs-refs.ensures c.in-Some.ensures.within c.index-refs-at.is

pub next_shown-requires-clause-rising : goal.next_shown-requires-clause-rising
next_shown-requires-clause-rising g c = subst IsRising (sym c.refs-refs.ensures) (g.met.R.Repo.sound c.args.repo.now).rising
