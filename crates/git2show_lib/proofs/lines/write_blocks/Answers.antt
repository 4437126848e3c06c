use Rattle.std.proofs.Common.{rules, ◌∙◌, ◌+◌, ◌*◌, length}
use Rattle.git2show_lib.proofs.LinesEscaped.{escaped_more, escaped_none, still_within}
use Rattle.git2show_lib.proofs.lines.write_blocks.Goals as goal

pub loop-block-init : goal.loop-block-init
loop-block-init c = record { size = search rules; within = search rules; escaped = escaped_none _ _ _ _ (search rules) (search rules) }

pub loop-block-preserved : goal.loop-block-preserved
loop-block-preserved c =
    let so_far = c.loop-block.invariant in
    let steps = c.in-Some.ensures.steps in
    record {
      size = steps.0 ∙ so_far.size;
      within = still_within c.loop-block.end c.write_block-end.result (c.args.at + 4 * length c.args.bytes.now) _ _ steps.1.0
          so_far.within c.write_block-end.ensures.within;
      escaped = escaped_more so_far.escaped _ _ _ steps.1.0 c.write_block-end.ensures.escaped;
    }
