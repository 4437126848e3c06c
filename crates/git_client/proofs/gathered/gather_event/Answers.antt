use Rattle.git_client.proofs.Announcing.{pack_counted, pack_lines, progress_counted, progress_lines}
use Rattle.git_client.proofs.GatheredRows.{nothing_added}
use Rattle.git_client.proofs.gathered.gather_event.Goals as goal

pub returns-in-Pack-clause-lines : goal.returns-in-Pack-clause-lines
returns-in-Pack-clause-lines c = nothing_added _ (pack_lines c.args.event.now c.in-Pack.bytes c.in-Pack.is _ _)

pub returns-in-Pack-clause-counts : goal.returns-in-Pack-clause-counts
returns-in-Pack-clause-counts c can = pack_counted _ c.in-Pack.bytes c.in-Pack.is c.args.counts.now _ c.saturating_add-counts.ensures can

pub returns-in-Progress-clause-lines : goal.returns-in-Progress-clause-lines
returns-in-Progress-clause-lines c = nothing_added _ (progress_lines c.args.event.now c.in-Progress.bytes c.in-Progress.is _ _)

pub returns-in-Progress-clause-counts : goal.returns-in-Progress-clause-counts
returns-in-Progress-clause-counts c can =
    progress_counted _ c.in-Progress.bytes c.in-Progress.is c.args.counts.now _ c.saturating_add-counts-in-Progress.ensures can
