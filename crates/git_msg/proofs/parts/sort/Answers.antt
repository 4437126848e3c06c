use Rattle.std.proofs.Common.{rules, ◌≡◌, List, ℕ, ap}
use Rattle.std.proofs.lemmas.Cmp.{nat_list_cmp_total}
use Rattle.std.proofs.lemmas.Fn.{always_returns_same}
use Rattle.std.proofs.lemmas.List.Sorted.{ranks_by}
use Rattle.std.specs.Ordering.{is_lt}
use Rattle.git_msg.specs.Machine.TextPools.{text_at}
use Rattle.git_msg.specs.Prefixes.{text_cmp}
use Rattle.git_msg.proofs.parts.sort.Goals as goal

pub returns-clause-sorted : goal.returns-clause-sorted
returns-clause-sorted g c =
    let key : ℕ → List ℕ = text_at c.args.bytes.now in
    c.sort_unstable_by.ensures.sorted (λ a b. is_lt (text_cmp (key a) (key b))) (ranks_by nat_list_cmp_total key)
    (always_returns_same _ _ _ (λ a r f' called. (let e : r ≡ text_cmp (key a.0.now) (key a.1.0.now) = search rules in ap is_lt e, search rules)))
