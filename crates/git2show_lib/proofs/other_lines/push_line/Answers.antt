use Rattle.std.proofs.Common.{rules, ◌∙◌}
use Rattle.git2show_lib.proofs.LinesEscaped.{escaped_more, escaped_none}
use Rattle.git2show_lib.proofs.other_lines.push_line.Goals as goal

pub loop-block-init : goal.loop-block-init
loop-block-init g c = record { size = search rules; escaped = escaped_none _ _ _ _ (search rules) (search rules) }

pub loop-block-preserved : goal.loop-block-preserved
loop-block-preserved g c =
    let so_far = c.loop-block.invariant in
    let steps = c.in-Some.ensures.steps in
    record {
      size = steps.0 ∙ so_far.size;
      escaped = escaped_more so_far.escaped _ _ _ steps.1.0 c.in_ok-push_escaped.ensures;
    }
