use Rattle.std.proofs.Common.{◌≢◌, refl}
use Rattle.std.proofs.lemmas.Bool.{iff_false}
use Rattle.git_pkt.specs.Packets.{text_of}
use Rattle.git_msg.specs.Texts.{IsErrorText}
use Rattle.git_client.specs.Machine.Turns.{TakesLines}
use Rattle.git_client.specs.declared.phase.Expected.{Expected}
use Rattle.git_client.specs.declared.phase.Expected.TheVariants.{Packfile, ResponseEnd}
use Rattle.git_client.proofs.JudgedLines.{line_judged}
use Rattle.git_client.proofs.judge.judge_payload.Goals as goal

takes_lines : (expected : Expected) → expected ≢ Packfile → expected ≢ ResponseEnd → TakesLines expected
takes_lines Packfile no_pack no_end = absurd (no_pack refl)
takes_lines ResponseEnd no_pack no_end = absurd (no_end refl)
takes_lines expected no_pack no_end = tt

pub returns-else-is_error-clause-turn : goal.returns-else-is_error-clause-turn
returns-else-is_error-clause-turn c =
    let takes : TakesLines c.args.expected = takes_lines c.args.expected c.in_default.not-Packfile c.in_default.not-ResponseEnd in
    let line = c.text-line.ensures in
    let no_error : ¬ IsErrorText (text_of c.args.payload.now) = rw (← line) (iff_false c.is_error.ensures.error c.if-is_error.false) in
    (λ ending. line_judged c.args.format ending c.args.expected c.args.caps.now c.args.payload.now _ _ _ takes no_error (rw (← line) c.judge_line.ensures.turn))
