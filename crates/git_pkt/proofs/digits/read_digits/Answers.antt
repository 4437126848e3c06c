use Rattle.std.proofs.Common.{arith, rules}
use Rattle.git_pkt.specs.Digits.{digits_value}
use Rattle.git_pkt.proofs.DigitFacts.{digits_below-one, digits_below-two, digits_below-three, digits_below-four}
use Rattle.git_pkt.proofs.digits.read_digits.Goals as goal

pub returns-then-second-gt15 : goal.returns-then-second-gt15
returns-then-second-gt15 c = record {
  digits = record {
    among = omega arith;
    there = omega arith;
    before = digits_below-one _ (omega arith);
    bad = omega arith;
  };
}

pub returns-then-third-gt15 : goal.returns-then-third-gt15
returns-then-third-gt15 c = record {
  digits = record {
    among = omega arith;
    there = omega arith;
    before = digits_below-two _ (omega arith) (omega arith);
    bad = omega arith;
  };
}

pub returns-then-fourth-gt15 : goal.returns-then-fourth-gt15
returns-then-fourth-gt15 c = record {
  digits = record {
    among = omega arith;
    there = omega arith;
    before = digits_below-three _ (omega arith) (omega arith) (omega arith);
    bad = omega arith;
  };
}

pub returns : goal.returns
unfolding digits_value
returns c = record {
  digits = (
    record { four = omega arith; digits = digits_below-four _ (omega arith) (omega arith) (omega arith) (omega arith) },
    search rules,
  );
}
