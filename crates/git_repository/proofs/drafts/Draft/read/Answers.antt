use Rattle.std.proofs.Common.{arith}
use Rattle.git_repository.specs.Machine.DraftLists.{drafted}
use Rattle.git_repository.specs.RepositoryLines.{shown}
use Rattle.git_repository.proofs.Reading.{memory_ran_out_at, may_not_stand_at, conveys_nothing_at, stepped, too_long_at}
use Rattle.git_repository.proofs.LineContents.{fit_of_content}
use Rattle.git_repository.proofs.drafts.Draft.read.Goals as goal

pub returns-then-line-gt-LONGEST_LINE : goal.returns-then-line-gt-LONGEST_LINE
returns-then-line-gt-LONGEST_LINE g c lines h =
    too_long_at g.M.RepoMemory.refuses lines (drafted c.args.self.now) c.args.line.now c.next_line-line_number.result c.next_line-line_number.ensures
    (omega (arith, c.if-line-gt-LONGEST_LINE.true)) h

pub returns-in_default : goal.returns-in_default
returns-in_default g c lines h =
    conveys_nothing_at g.M.RepoMemory.refuses lines (drafted c.args.self.now) c.args.line.now c.next_line-line_number.result
    c.next_line-line_number.ensures c.in_default.ensures h

pub keep-requires : goal.keep-requires
keep-requires g c = fit_of_content c.args.self.now.lists.format c.args.line.now (shown c.in-Some.item) c.in-Some.ensures

pub returns-in-Ok : goal.returns-in-Ok
returns-in-Ok g c lines h =
    stepped lines (drafted c.args.self.now) (drafted c.keep.new.self) c.args.line.now (shown c.in-Some.item) h
    (omega (arith, c.if-line-gt-LONGEST_LINE.false), c.in-Some.ensures) c.in-Ok.ensures

pub returns-in-Err-Refused : goal.returns-in-Err-Refused
returns-in-Err-Refused g c lines h =
    may_not_stand_at g.M.RepoMemory.refuses lines (drafted c.args.self.now) c.args.line.now c.next_line-line_number.result
    (shown c.in-Some.item) c.next_line-line_number.ensures
    (omega (arith, c.if-line-gt-LONGEST_LINE.false), c.in-Some.ensures) (rw c.in-Err-Refused.field-0-is at c.in-Err-Refused.ensures) h

pub returns-in-Err-OutOfMemory : goal.returns-in-Err-OutOfMemory
returns-in-Err-OutOfMemory g c lines h =
    memory_ran_out_at g.M.RepoMemory.refuses lines (drafted c.args.self.now) c.args.line.now (shown c.in-Some.item)
    (omega (arith, c.if-line-gt-LONGEST_LINE.false), c.in-Some.ensures) (rw c.in-Err-OutOfMemory.field-0-is at c.in-Err-OutOfMemory.ensures) h
