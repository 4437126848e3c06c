use Rattle.std.proofs.Common.{◌≡◌, [], ◌∷◌, List, ℕ, Option, Some, unwrap_or, ap, sym, ◌∙◌}
use Rattle.std.specs.Option.{option_copied}
use Rattle.git_client.specs.EventParts.{parts_shown, word_of}
use Rattle.git_client.specs.Machine.LineParts.{part_shown}
use Rattle.git_client.proofs.EventLines.{no_row, row_of, row_shown}
use Rattle.git_client.proofs.RowSpace.{row_space}
use Rattle.git_client.proofs.Writing.{line_same}
use Rattle.git_client.proofs.transcript.event_row.Goals as goal

pub returns-in_default-clause-line : goal.returns-in_default-clause-line
returns-in_default-clause-line c =
    no_row c.args.event.now c.args.pack c.args.progress (parts_shown c.parts-parts.result) c.parts-parts.ensures c.word.result c.word.ensures
    c.in_default.not-Some

pub returns-clause-line : goal.returns-clause-line
returns-clause-line c =
    let p = parts_shown c.parts-parts.result in
    let word = c.in-Some.word in
    let has : option_copied (Some word) ≡ word_of p.kind = ap option_copied (sym c.in-Some.is) ∙ c.word.ensures in
    let kind = ap (λ (o : Option (List ℕ)). unwrap_or o []) has in
    line_same
    (word.now ∷ part_shown c.object_part.result ∷ part_shown c.text_part.result ∷ part_shown c.text_part-2.result ∷ part_shown c.peeled_part.result
    ∷ part_shown c.size_part.result ∷ part_shown c.count_part.result ∷ part_shown c.count_part-2.result ∷ [])
    (row_of p c.args.pack c.args.progress) (
      kind,
      (
        c.object_part.ensures.shown,
        (
          c.text_part.ensures.shown,
          (
            rw (← c.text_word.ensures.word) c.text_part-2.ensures.shown,
            (
              c.peeled_part.ensures.shown,
              (
                c.size_part.ensures.shown,
                (
                  c.count_part.ensures.shown,
                  (c.count_part-2.ensures.shown, tt),
                ),
              ),
            ),
          ),
        ),
      ),
    )
    ∙ row_shown c.args.event.now c.args.pack c.args.progress p c.parts-parts.ensures word has

pub returns-clause-space : goal.returns-clause-space
returns-clause-space c fits =
    let p = parts_shown c.parts-parts.result in
    let word = c.in-Some.word in
    let has : option_copied (Some word) ≡ word_of p.kind = ap option_copied (sym c.in-Some.is) ∙ c.word.ensures in
    row_space c.args.event.now p c.parts-parts.ensures word.now has fits c.object_part.result c.text_part.result c.text_part-2.result c.peeled_part.result
    c.size_part.result c.count_part.result c.count_part-2.result c.text_word.result.now c.object_part.ensures.space c.text_part.ensures.space
    c.text_word.ensures.space c.text_part-2.ensures.space c.peeled_part.ensures.space c.size_part.ensures.space c.count_part.ensures.space
    c.count_part-2.ensures.space
