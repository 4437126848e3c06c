use Rattle.std.proofs.Common.{rules}
use Rattle.git_pkt.proofs.Chunks.{left_of}
use Rattle.git2show_lib.proofs.PrettyTexts.{run_on}
use Rattle.git2show_lib.proofs.pretty.shorten.Goals as goal

pub loop-at-preserved : goal.loop-at-preserved
loop-at-preserved c =
    let left = left_of c.args.text.now c.loop-at.at c.loop-at.invariant.within in
    record {
      within = search rules;
      shorter = search rules;
      shortened = rw c.max-at.ensures (run_on c.args.text.now _ _ c.loop-at.at c.count_digits-run.result c.loop-at-test.true
          (rw left at c.count_digits-run.ensures.count) c.loop-at.invariant.shortened (rw c.run_shown.ensures at c.put_at-end.ensures.put));
    }
