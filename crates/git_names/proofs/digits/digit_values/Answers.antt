use Rattle.std.proofs.Common.{◌<◌, ◌≢◌, length, arith, below_more, get_or-set_other, get_or-set_same, inl, inr}
use Rattle.std.proofs.lemmas.List.{length-set}
use Rattle.git_names.proofs.Joined.{either, neither}
use Rattle.git_names.proofs.digits.digit_values.Goals as goal

pub loop-i-preserved : goal.loop-i-preserved
loop-i-preserved c =
    let value = c.value_of-value.ensures.value in
    let within : c.loop-i.i < length c.loop-i.values = let long = c.loop-i.invariant.long in omega arith in
    record {
      long = let same = length-set c.loop-i.values c.loop-i.i c.value_of-value.result in let long = c.loop-i.invariant.long in omega arith;
      found = below_more _ _
          (λ k lt. let other : k ≢ c.loop-i.i = omega arith in rw get_or-set_other (c.loop-i.invariant.found k lt))
          (rw get_or-set_same value);
      all = λ none. let parts = neither c.loop-i.has_other _ none in
          below_more _ _ (c.loop-i.invariant.all parts.0) (let small = parts.1 in grind arith);
      other = λ some. elim (either c.loop-i.has_other _ some) [
        | inl before ↦ c.loop-i.invariant.other before
        | inr now ↦ λ all. let small = all c.loop-i.i (omega arith) in grind arith
      ];
    }
