use Rattle.std.specs.Option.{option_copied}
use Rattle.git_msg.specs.Texts.{parts_left}
use Rattle.git_msg.proofs.ReferenceWords.{one_more_word, word_refused}
use Rattle.git_msg.proofs.reference_lines.read_attributes.Goals as goal
use Rattle.std.proofs.Common.{rules}

pub returns-in-Err-clause-values : goal.returns-in-Err-clause-values
returns-in-Err-clause-values c =
    let h = rw c.in-Some.is at c.words.invariant.read in
    (word_refused c.args.format c.args.text.now (parts_left 32 (option_copied c.args.words)) c.in-Some.rest.now c.split_at_first.result.0.now
    (option_copied c.split_at_first.result.1) c.words.places h c.split_at_first.ensures.parts c.in-Err.kind c.in-Err.ensures.attribute)

pub words-preserved : goal.words-preserved
words-preserved c = search (rules, one_more_word)
