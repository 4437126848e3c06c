use Rattle.std.proofs.Common.{arith, Some, ap, refl, ◌++◌, drop, length, List, ℕ}
use Rattle.gitwire.proofs.client.message.Goals as goal

pub returns-then-buffer-message : goal.returns-then-buffer-message
returns-then-buffer-message c = record {
  message = Some c.in-Some.message.now;
  ends = c.in-Some.ensures;
  puts = record {
    small = λ small. (c.of-then-buffer-message.ensures, refl);
    large = λ large. absurd (omega (arith, large, c.if-buffer-message.true));
  };
}

pub returns : goal.returns
returns c = record {
  message = Some c.in-Some.message.now;
  ends = c.in-Some.ensures;
  puts = record {
    small = λ small. absurd (omega (arith, small, c.if-buffer-message.false));
    large = λ large.
        (c.of_packet.ensures, ap (λ (front : List ℕ). front ++ drop (length c.in-Some.message.now) c.args.buffer.now) c.copy_from_slice.ensures.after);
  };
}
