use Rattle.std.proofs.Common.{◌∙◌, rules}
use Rattle.std.proofs.lemmas.List.Filters.{All-dedup}
use Rattle.std.proofs.lemmas.List.Sorted.{All-permutation, length_permutation}
use Rattle.git_msg.specs.Machine.TextPools.{IsEnd, text_at}
use Rattle.git_msg.proofs.PrefixOrder.{same, ordered, alike_moved, alike_pruned, prunes_texts}
use Rattle.git_msg.proofs.parts.order.Goals as goal

pub returns-clause-order : goal.returns-clause-order
returns-clause-order g c =
    rw c.prune.ensures.kept
    (record {
      ordered = ordered (text_at c.args.bytes.now) _ 0 c.sort.ensures.sorted;
      alike = λ name. alike_moved (text_at c.args.bytes.now) _ _ c.sort.ensures.permutation name ∙ alike_pruned (text_at c.args.bytes.now) _ name;
      prunes = prunes_texts (text_at c.args.bytes.now) _ _ c.sort.ensures.permutation;
    })

pub returns-clause-fewer : goal.returns-clause-fewer
returns-clause-fewer g c = search (rules, length_permutation)

pub returns-clause-sound : goal.returns-clause-sound
returns-clause-sound g c sound =
    rw c.prune.ensures.kept
    (All-dedup (same (text_at c.args.bytes.now)) (IsEnd c.args.bytes.now) _ (All-permutation (IsEnd c.args.bytes.now) _ _ c.sort.ensures.permutation sound))
