use Rattle.std.proofs.Common.{◌≡◌, ◌++◌, ◌∙◌, ap, List, ℕ, take, arith}
use Rattle.std.proofs.lemmas.List.{take_min}
use Rattle.git_pkt.specs.Escape.{escaped_of}
use Rattle.git2show_lib.specs.PrettyLines.{in_column, shortened, text_shown}
use Rattle.git2show_lib.proofs.pretty.put_text.Goals as goal

pub returns-clause-put : goal.returns-clause-put
returns-clause-put c =
    let text = text_shown c.args.label c.args.payload.now in
    let front : take c.min.result c.text-text.result.now ≡ take 1024 text =
    rw (c.min.ensures, c.text-text.ensures) (ap (λ (n : ℕ). take n text) (omega arith) ∙ take_min 1024 text) in
    let shown = c.escape_into-end.ensures.escaped ∙ ap escaped_of (c.shorten-length.ensures.shortened ∙ ap shortened front) in
    c.put_in_column.ensures.put ∙ ap (λ (l : List ℕ). take c.args.at c.args.out.now ++ in_column c.args.label c.args.space l) shown
