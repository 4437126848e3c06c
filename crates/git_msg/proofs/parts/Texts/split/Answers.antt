use Rattle.std.proofs.Common.{ap, ℕ, ◌∙◌}
use Rattle.git_msg.specs.Machine.PlacedLists.{items_at}
use Rattle.git_msg.specs.Machine.TextPools.{text_at, text_place}
use Rattle.git_msg.proofs.PrefixOrder.{parted, split_of_texts}
use Rattle.git_msg.proofs.parts.Texts.split.Goals as goal

pub split_at-requires : goal.split_at-requires
split_at-requires g c =
    let ends = c.at.ensures ∙ ap (λ (n : ℕ). items_at c.args.self.now.ends n) c.place.ensures.value in
    rw (c.deref.ensures.value, ends)
    (parted (text_at c.args.self.now.bytes.items) (items_at c.args.self.now.ends (text_place c.args.word)) c.args.name.now c.requires)

pub returns : goal.returns
returns g c =
    let ends = c.at.ensures ∙ ap (λ (n : ℕ). items_at c.args.self.now.ends n) c.place.ensures.value in
    rw (← c.deref.ensures.value, ← ends)
    (split_of_texts (text_at c.deref.result.now) c.at.result.now c.args.name.now _ 0 c.split_at.ensures.bound c.split_at.ensures.parts)
