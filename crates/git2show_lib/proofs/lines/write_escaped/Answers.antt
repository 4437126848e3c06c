use Rattle.std.proofs.Common.{rules, ◌∙◌, ◌+◌, ◌*◌, length}
use Rattle.git2show_lib.proofs.LinesEscaped.{escaped_more, escaped_none, still_within}
use Rattle.git2show_lib.proofs.lines.write_escaped.Goals as goal

pub loop-run-init : goal.loop-run-init
loop-run-init c = record { size = search rules; within = search rules; escaped = escaped_none _ _ _ _ (search rules) (search rules) }

pub loop-run-preserved : goal.loop-run-preserved
loop-run-preserved c =
    let so_far = c.loop-run.invariant in
    let steps = c.in-Some.ensures.steps in
    record {
      size = steps.0 ∙ so_far.size;
      within = still_within c.loop-run.end c.write_run-end.result (c.args.at + 4 * length c.args.bytes.now) _ _ steps.1.0
          so_far.within c.write_run-end.ensures.within;
      escaped = escaped_more so_far.escaped _ _ _ steps.1.0 c.write_run-end.ensures.escaped;
    }
