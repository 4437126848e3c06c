use Rattle.std.proofs.Common.{arith, ◌≡◌, ◌∙◌, ◌+◌, ◌++◌, ℕ, List, drop, length, take, ap, subst, sym}
use Rattle.git_client.specs.EventParts.{Parts}
use Rattle.gitwire.specs.EventAnswers.{bytes_shown, announcing_parts}
use Rattle.gitwire.proofs.ListedEvents.{copied_others, listed_others}
use Rattle.gitwire.proofs.event_list.list.Goals as goal

pub list_texts-requires : goal.list_texts-requires
list_texts-requires c =
    omega (
      arith,
      c.requires.copied,
      ap (λ (p : Parts). length (bytes_shown p)) c.parts.ensures,
      ap length (copied_others c.args.event c.in_default.not-Pack c.in_default.not-Progress),
    )

pub returns-in_default : goal.returns-in_default
returns-in_default c =
    let at = c.args.at in
    let before = c.args.buffer.now in
    let copied = ap bytes_shown c.parts.ensures ∙ sym (copied_others c.args.event c.in_default.not-Pack c.in_default.not-Progress) in
    record {
      event =
          c.list_texts.ensures.event
          ∙ ap (λ (p : Parts). record (announcing_parts c.args.used p) { offset = at }) c.parts.ensures
          ∙ sym (listed_others c.args.event c.args.used at c.in_default.not-Pack c.in_default.not-Progress);
      texts = c.list_texts.ensures.texts ∙ ap (λ (l : List ℕ). at + length l) copied;
      buffer =
          subst (λ (l : List ℕ). c.list_texts.new.buffer ≡ take at before ++ l ++ drop (at + length l) before) copied
          c.list_texts.ensures.buffer;
    }
