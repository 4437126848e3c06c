use Rattle.std.proofs.Common.{arith}
use Rattle.std.specs.Option.{option_copied}
use Rattle.git_repository.specs.Machine.DraftLists.{drafted}
use Rattle.git_repository.proofs.Progressing.{at_first, cut_within, rest_within, reads_all, reads_bad_line, reads_line}
use Rattle.git_repository.proofs.repository_progress.Progress.read_on.Goals as goal

pub lines-init : goal.lines-init
lines-init g c = record {
  reads = λ lines h. at_first c.args.text.now lines c.split_at_first.result.0.now (option_copied c.split_at_first.result.1) (drafted c.args.draft)
      c.split_at_first.ensures.parts h;
  within = cut_within c.args.text.now c.split_at_first.result.0.now (option_copied c.split_at_first.result.1) c.split_at_first.ensures.cut;
  space = rest_within c.args.text.now c.split_at_first.result.1 c.split_at_first.ensures.shorter;
}

pub returns-in-Err-clause-reads : goal.returns-in-Err-clause-reads
returns-in-Err-clause-reads g c lines h =
    let now = rw c.in-Some.is at c.lines.invariant in
    reads_bad_line g.M.RepoMemory.refuses c.args.text.now lines c.lines.line.now _ c.in-Some.left.now (drafted c.lines.draft) c.in-Err.fault
    (now.reads lines h) c.in-Err.ensures

pub lines-preserved : goal.lines-preserved
lines-preserved g c =
    let now = rw c.in-Some.is at c.lines.invariant in
    record {
      reads = λ lines h.
          reads_line c.args.text.now lines c.lines.line.now c.in-Some.left.now c.split_at_first-in-Some.result.0.now
          (option_copied c.split_at_first-in-Some.result.1) (drafted c.lines.draft) (drafted c.read.new.self) (now.reads lines h)
          c.split_at_first-in-Some.ensures.parts c.in_default-read.ensures;
      within =
          let short = cut_within c.in-Some.left.now c.split_at_first-in-Some.result.0.now (option_copied c.split_at_first-in-Some.result.1)
          c.split_at_first-in-Some.ensures.cut in
          let space = now.space in
          omega (arith, short, space);
      space =
          let less = rest_within c.in-Some.left.now c.split_at_first-in-Some.result.1 c.split_at_first-in-Some.ensures.shorter in
          let space = now.space in
          omega (arith, less, space);
    }

pub returns-clause-reads : goal.returns-clause-reads
returns-clause-reads g c lines h =
    let now = rw c.in_default.is at c.lines.invariant in
    reads_all g.M.RepoMemory.refuses c.args.text.now lines c.lines.line.now _ c.lines.draft (now.reads lines h) c.with_open.result.0 c.with_open.ensures.stands

pub returns-clause-within : goal.returns-clause-within
returns-clause-within g c =
    let now = rw c.in_default.is at c.lines.invariant in
    let within = now.within in
    omega (arith, within, c.with_open.ensures.within)
