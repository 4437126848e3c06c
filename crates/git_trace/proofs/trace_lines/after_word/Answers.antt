use Rattle.std.proofs.Common.{◌+◌, ◌≤◌, ◌∙◌, ap, sym, Some, length, drop, arith, rules}
use Rattle.std.proofs.lemmas.List.{length-drop}
use Rattle.git_pkt.proofs.Chunks.{left_of}
use Rattle.git_trace.proofs.Words.{word_here, word_later}
use Rattle.git_trace.proofs.trace_lines.after_word.Goals as goal

pub returns-then-starts_with : goal.returns-then-starts_with
returns-then-starts_with c =
    let line = c.args.line.now in
    let at = c.loop-at.at in
    let left = left_of line at c.loop-at.invariant.within in
    let here = rw left at (sym c.starts_with.ensures.value ∙ c.if-starts_with.true) in
    let long : 8 ≤ length (drop at line) = rw left at (c.starts_with.ensures.bound (search rules)) in
    let within : at + 8 ≤ length line = omega (arith, long, length-drop at line) in
    c.loop-at.invariant.later ∙ word_here line at c.loop-at-test.true here ∙ ap Some (sym (left_of line (at + 8) within))

pub loop-at-preserved : goal.loop-at-preserved
loop-at-preserved c =
    let line = c.args.line.now in
    let at = c.loop-at.at in
    let here = rw (left_of line at c.loop-at.invariant.within) at (sym c.starts_with.ensures.value ∙ c.if-starts_with.false) in
    record {
      within = omega (arith, c.loop-at-test.true);
      later = c.loop-at.invariant.later ∙ word_later line at c.loop-at-test.true here;
    }
