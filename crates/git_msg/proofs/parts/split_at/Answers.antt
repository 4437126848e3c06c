use Rattle.std.proofs.Common.{rules}
use Rattle.std.proofs.lemmas.List.Sorted.{IsPartitionPoint-from_clause}
use Rattle.git_msg.specs.Machine.TextPools.{text_at}
use Rattle.git_msg.specs.Prefixes.{goes_before}
use Rattle.git_msg.proofs.parts.split_at.Goals as goal

pub returns-clause-parts : goal.returns-clause-parts
returns-clause-parts c =
    IsPartitionPoint-from_clause (λ end. goes_before (text_at c.args.bytes.now end) c.args.name.now) c.args.ends.now _
    c.partition_point.ensures.partitioned c.requires (λ a r q k. search rules)
