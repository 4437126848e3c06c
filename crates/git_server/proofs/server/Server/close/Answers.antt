use Rattle.std.proofs.Common.{arith, rules, refl, ap, length, ◌∙◌}
use Rattle.git_pkt.proofs.OpenLengths.{failed_counts_none}
use Rattle.git_pkt.specs.Machine.Credit.{credit_of}
use Rattle.git_pkt.specs.Machine.PacketReader.{position_of}
use Rattle.git_pkt.specs.declared.fault.Kind.TheVariants.{Truncated}
use Rattle.git_server.specs.Machine.LatePacks.{state_with}
use Rattle.git_server.proofs.Closing.{closes_between, closes_open, closes_within}
use Rattle.git_server.proofs.Going.{is_within}
use Rattle.git_server.proofs.server.Server.close.Goals as goal

pub returns-in-Err-clause-closes : goal.returns-in-Err-clause-closes
returns-in-Err-clause-closes g c =
    let old = c.args.self.now in
    closes_open g.R.Repo.state old _ c.in-Err.fault (omega (arith, c.hold.ensures.fits, ap length c.hold.ensures.value)) c.requires
    (record { offer = refl; repo = refl; requests = refl }) c.refusal.ensures
    c.in-Err.ensures.truncated

pub returns-in-Between-clause-closes : goal.returns-in-Between-clause-closes
returns-in-Between-clause-closes g c =
    let between = c.in_default.ensures.between in
    closes_between g.R.Repo.state c.args.self.now _ (omega (arith, c.hold.ensures.fits, ap length c.hold.ensures.value)) c.requires
    (record { offer = refl; repo = refl; requests = refl }) c.in-Between.is refl between.1 between.2

pub returns-clause-closes : goal.returns-clause-closes
returns-clause-closes g c =
    let old = c.args.self.now in
    let between = c.in_default.ensures.between in
    closes_within g.R.Repo.state old _ (record { kind = Truncated; offset = c.position.result })
    (omega (arith, c.hold.ensures.fits, ap length c.hold.ensures.value)) c.requires
    (record { offer = refl; repo = refl; requests = refl })
    (is_within old.phase c.requires c.in_default-phase.not-Between) (search rules) between.1 between.2 refl
    (c.position.ensures ∙ ap position_of between.0)

pub returns-in-Err-clause-credit : goal.returns-in-Err-clause-credit
returns-in-Err-clause-credit g c = let none = failed_counts_none c.close-closed.new.self c.in-Err.fault c.in-Err.ensures.announced in omega (arith, none)

pub returns-in-Between-clause-credit : goal.returns-in-Between-clause-credit
returns-in-Between-clause-credit g c = let same = ap credit_of c.in_default.ensures.between.0 in omega (arith, same)

pub returns-clause-credit : goal.returns-clause-credit
returns-clause-credit g c = let same = ap credit_of c.in_default.ensures.between.0 in omega (arith, same)

pub returns-in-Err-clause-unread : goal.returns-in-Err-clause-unread
returns-in-Err-clause-unread g c packs =
    let old = c.args.self.now in
    closes_open (state_with packs g.R.Repo.state) old _ c.in-Err.fault (omega (arith, c.hold.ensures.fits, ap length c.hold.ensures.value)) c.requires
    (record { offer = refl; repo = refl; requests = refl }) c.refusal.ensures
    c.in-Err.ensures.truncated

pub returns-in-Between-clause-unread : goal.returns-in-Between-clause-unread
returns-in-Between-clause-unread g c packs =
    let between = c.in_default.ensures.between in
    closes_between (state_with packs g.R.Repo.state) c.args.self.now _ (omega (arith, c.hold.ensures.fits, ap length c.hold.ensures.value)) c.requires
    (record { offer = refl; repo = refl; requests = refl }) c.in-Between.is refl between.1 between.2

pub returns-clause-unread : goal.returns-clause-unread
returns-clause-unread g c packs =
    let old = c.args.self.now in
    let between = c.in_default.ensures.between in
    closes_within (state_with packs g.R.Repo.state) old _ (record { kind = Truncated; offset = c.position.result })
    (omega (arith, c.hold.ensures.fits, ap length c.hold.ensures.value)) c.requires
    (record { offer = refl; repo = refl; requests = refl })
    (is_within old.phase c.requires c.in_default-phase.not-Between) (search rules) between.1 between.2 refl
    (c.position.ensures ∙ ap position_of between.0)
