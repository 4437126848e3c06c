use Rattle.git_client.proofs.Announcing.{left_alone, others_unreported, others_unsent, pack_lines, pack_sent, pack_unreported, pack_counted}
use Rattle.git_client.proofs.Announcing.{progress_lines, progress_unsent, progress_reported, progress_counted}
use Rattle.git_client.proofs.WaitingLines.{put_by}
use Rattle.git_client.proofs.receiving.announce.Goals as goal

pub returns-in-Pack-clause-announced : goal.returns-in-Pack-clause-announced
returns-in-Pack-clause-announced g c = rw (pack_lines c.args.event.now c.in-Pack.bytes c.in-Pack.is _ _) c.send_after.ensures.announced

pub returns-in-Pack-clause-sent : goal.returns-in-Pack-clause-sent
returns-in-Pack-clause-sent g c = rw (pack_sent c.args.event.now c.in-Pack.bytes c.in-Pack.is) c.send_after.ensures.sent

pub returns-in-Pack-clause-reported : goal.returns-in-Pack-clause-reported
returns-in-Pack-clause-reported g c = left_alone _ _ _ (pack_unreported _ c.in-Pack.bytes c.in-Pack.is)

pub returns-in-Pack-clause-counts : goal.returns-in-Pack-clause-counts
returns-in-Pack-clause-counts g c can = pack_counted _ c.in-Pack.bytes c.in-Pack.is c.args.counts.now _ c.saturating_add-counts.ensures can

pub returns-in-Progress-clause-announced : goal.returns-in-Progress-clause-announced
returns-in-Progress-clause-announced g c =
    rw (progress_lines c.args.event.now c.in-Progress.bytes c.in-Progress.is _ _) c.send_after-in-Progress.ensures.announced

pub returns-in-Progress-clause-sent : goal.returns-in-Progress-clause-sent
returns-in-Progress-clause-sent g c = left_alone _ _ _ (progress_unsent _ c.in-Progress.bytes c.in-Progress.is)

pub returns-in-Progress-clause-reported : goal.returns-in-Progress-clause-reported
returns-in-Progress-clause-reported g c =
    rw (progress_reported c.args.event.now c.in-Progress.bytes c.in-Progress.is) c.send_after-in-Progress.ensures.sent

pub returns-in-Progress-clause-counts : goal.returns-in-Progress-clause-counts
returns-in-Progress-clause-counts g c can =
    progress_counted _ c.in-Progress.bytes c.in-Progress.is c.args.counts.now _ c.saturating_add-counts-in-Progress.ensures can

pub returns-in_default-clause-announced : goal.returns-in_default-clause-announced
returns-in_default-clause-announced g c = put_by c.put_event.result c.put_event.ensures

pub returns-in_default-clause-sent : goal.returns-in_default-clause-sent
returns-in_default-clause-sent g c = left_alone _ _ _ (others_unsent c.args.event.now c.in_default.not-Pack c.in_default.not-Progress)

pub returns-in_default-clause-reported : goal.returns-in_default-clause-reported
returns-in_default-clause-reported g c = left_alone _ _ _ (others_unreported c.args.event.now c.in_default.not-Pack c.in_default.not-Progress)
