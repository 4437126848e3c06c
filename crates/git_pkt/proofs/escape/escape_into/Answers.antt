use Rattle.std.proofs.Common.{arith, ◌∙◌, ap, drop, length, take, List, ℕ, ◌+◌, ◌*◌}
use Rattle.git_pkt.proofs.Escapes.{escaped_on, others_stay}
use Rattle.git_pkt.proofs.escape.escape_into.Goals as goal

pub loop-byte-preserved : goal.loop-byte-preserved
loop-byte-preserved c = record {
  within = omega (arith, c.loop-byte.invariant.within, c.look_up-one.ensures.within);
  escaped =
      ap (λ (l : List ℕ). take (c.loop-byte.end + c.look_up-one.result.length) l) c.put_at-end.ensures.placed
      ∙ escaped_on c.args.bytes.now c.loop-byte.out c.look_up-one.result.bytes
      (take c.args.at c.args.out.now) c.loop-byte.byte-index c.loop-byte.end c.look_up-one.result.length c.loop-byte-test.true
      (omega (arith, c.loop-byte.invariant.within)) (omega (arith, c.look_up-one.ensures.four, c.look_up-one.ensures.within))
      c.loop-byte.invariant.escaped c.look_up-one.ensures.escaped;
  others =
      ap (λ (l : List ℕ). drop (c.args.at + 4 * length c.args.bytes.now) l) c.put_at-end.ensures.placed
      ∙ others_stay c.loop-byte.out c.look_up-one.result.bytes c.loop-byte.end (c.args.at + 4 * length c.args.bytes.now)
      (omega (arith, c.loop-byte.invariant.within, c.look_up-one.ensures.four)) (omega (arith, c.loop-byte.invariant.within)) ∙ c.loop-byte.invariant.others;
}
