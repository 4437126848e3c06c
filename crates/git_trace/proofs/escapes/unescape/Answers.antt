use Rattle.std.proofs.Common.{◌+◌, ◌∙◌, ap, arith}
use Rattle.git_pkt.proofs.Chunks.{left_of}
use Rattle.git_trace.specs.Escapes.{escape_at}
use Rattle.git_trace.proofs.Reading.{read_escape}
use Rattle.git_trace.proofs.escapes.unescape.Goals as goal

pub loop-at-preserved-then-byte-eq92 : goal.loop-at-preserved-then-byte-eq92
loop-at-preserved-then-byte-eq92 c =
    let text = c.args.text.now in
    let at = c.loop-at.at in
    let escape = c.escape_at-escape.ensures.escape ∙ ap escape_at (left_of text (at + 1) (omega (arith, c.loop-at-test.true))) in
    record {
      near = omega (arith, c.loop-at-test.true, c.escape_at-escape.ensures.within);
      read = rw (c.in_ok-push.ensures.items, escape)
          (read_escape text c.loop-at.out.items at c.loop-at-test.true c.if-byte-eq92.true ∙ c.loop-at.invariant.read);
    }
