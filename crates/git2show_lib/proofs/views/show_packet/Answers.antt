use Rattle.std.proofs.Common.{rules, ◌≡◌, ◌&&◌, true, false}
use Rattle.git_pkt.specs.Packets.{seen}
use Rattle.git_pkt.proofs.Sends.{sends_nothing}
use Rattle.git2show_lib.specs.PacketViews.{is_pack}
use Rattle.git2show_lib.specs.PrettyLines.{label_of}
use Rattle.git2show_lib.proofs.views.show_packet.Goals as goal

pub returns-then-is_left_out-clause-shown : goal.returns-then-is_left_out-clause-shown
returns-then-is_left_out-clause-shown g c =
    let left_out : (c.args.no_pack && is_pack (label_of c.args.tally.now.in_pack (seen c.args.packet))) ≡ true = search rules in
    rw left_out sends_nothing

pub returns-clause-shown : goal.returns-clause-shown
returns-clause-shown g c =
    let shown : (c.args.no_pack && is_pack (label_of c.args.tally.now.in_pack (seen c.args.packet))) ≡ false = search rules in
    rw (shown, ← c.write_pretty-end.ensures.line) c.send_marked.ensures
