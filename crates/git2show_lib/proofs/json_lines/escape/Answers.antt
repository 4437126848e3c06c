use Rattle.std.proofs.Common.{arith}
use Rattle.git2show_lib.proofs.JsonTexts.{control}
use Rattle.git2show_lib.proofs.json_lines.escape.Goals as goal

pub returns-then-byte-lt32-clause-escaped : goal.returns-then-byte-lt32-clause-escaped
returns-then-byte-lt32-clause-escaped c =
    control c.args.byte _ _ (omega (arith, c.letter-letter.ensures, c.if-letter-gt0.false)) c.if-byte-lt32.true c.digit.ensures c.digit-then-byte-lt32.ensures
