use Rattle.std.proofs.Common.{◌++◌, ◌+◌, ◌∙◌, subst, take, append-nil, List}
use Rattle.git2show_lib.specs.OtherLines.{Question}
use Rattle.git2show_lib.specs.Machine.JudgedRequests.{HasRead}
use Rattle.git2show_lib.specs.declared.judged_requests.JudgedGot.TheVariants.{More}
use Rattle.git2show_lib.proofs.ChunkParts.{within_further}
use Rattle.git2show_lib.proofs.JudgedSteps.{leaves_further, reads_further, shows_further, steps_with}
use Rattle.git2show_lib.proofs.judged_requests.JudgedRequests.feed.Goals as goal

pub loop-used-preserved : goal.loop-used-preserved
loop-used-preserved g c =
    let old = c.args.self.now in
    let mid = c.loop-used.self in
    let new = c.step-step.new.self in
    let done = c.loop-used.used in
    let chunk = c.args.chunk.now in
    let read = c.step-step.result in
    let was = c.loop-used.invariant in
    let steps = steps_with mid new _ read More c.in-More.is c.step-step.ensures.steps in
    record {
      within = within_further chunk done was.within read.used c.step-step.ensures.used;
      reads = λ used asked h.
          subst (λ (qs : List Question). HasRead (used ++ take (done + read.used) chunk) qs new) (append-nil asked)
          (reads_further old mid new chunk done was.within read.used More steps was.reads used asked h);
      ready = steps.leaves.1;
      by = steps.by ∙ was.by;
      limit = steps.limit ∙ was.limit;
    }

pub returns-in_default : goal.returns-in_default
returns-in_default g c =
    let old = c.args.self.now in
    let mid = c.loop-used.self in
    let new = c.step-step.new.self in
    let done = c.loop-used.used in
    let chunk = c.args.chunk.now in
    let read = c.step-step.result in
    let was = c.loop-used.invariant in
    let steps = c.step-step.ensures.steps in
    record {
      used = within_further chunk done was.within read.used c.step-step.ensures.used;
      feeds = record {
        reads = reads_further old mid new chunk done was.within read.used read.got steps was.reads;
        leaves = leaves_further new chunk done read.used read.got c.in_default.not-More steps.leaves;
        news = λ fault is. shows_further old mid new chunk done was.within read.used read.got steps fault is;
        by = steps.by ∙ was.by;
        limit = steps.limit ∙ was.limit;
      };
    }
