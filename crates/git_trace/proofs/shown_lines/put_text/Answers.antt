use Rattle.std.proofs.Common.{◌≡◌, ◌∙◌, ◌-◌, ap, ℕ, take, min, arith, rules}
use Rattle.std.proofs.lemmas.List.{take_min}
use Rattle.git_pkt.specs.Escape.{escaped_of}
use Rattle.git_trace.specs.ShownLines.{bytes_shown}
use Rattle.git_trace.proofs.shown_lines.put_text.Goals as goal

pub returns : goal.returns
returns c =
    let text = bytes_shown c.args.label c.args.bytes.now in
    let front : take c.min.result c.text-text.result.now ≡ take 1024 text =
    rw (c.min.ensures, c.text-text.ensures) (ap (λ (n : ℕ). take n text) (omega arith) ∙ take_min 1024 text) in
    let shown = c.escape_into-end.ensures.escaped ∙ ap escaped_of front in
    let space : c.saturating_sub-space.result ≡ min c.args.width 200 - 28 = search rules in
    rw (← shown, ← space) c.put_in_column.ensures
