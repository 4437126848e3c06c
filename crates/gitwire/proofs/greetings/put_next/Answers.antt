use Rattle.std.proofs.Common.{◌∙◌, ℕ, ◌+◌, ap, sym, length, length-append}
use Rattle.gitwire.proofs.FilledBuffers.{filled_more}
use Rattle.gitwire.proofs.greetings.put_next.Goals as goal

pub returns-clause-adds : goal.returns-clause-adds
returns-clause-adds c = λ front base at_is placed. (
  c.put_at.ensures.end ∙ ap (λ (n : ℕ). n + length c.args.bytes.now) at_is ∙ sym (length-append front c.args.bytes.now),
  filled_more base front c.args.bytes.now c.args.buffer.now c.put_at.new.slice c.args.at at_is placed c.put_at.ensures.placed,
)
