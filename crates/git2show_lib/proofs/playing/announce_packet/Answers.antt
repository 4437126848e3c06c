use Rattle.std.proofs.Common.{rules, arith, ◌≡◌, ◌<◌, ◌≤◌, true, false, length, sym, ◌∙◌}
use Rattle.git_server.specs.Machine.Server.{wants_input}
use Rattle.git2show_lib.proofs.PlayAnnouncing.{announcing_begins, announcing_on, announcing_ends, chunk_fits, chunk_some, fewer_turns}
use Rattle.git2show_lib.proofs.playing.announce_packet.Goals as goal

pub loop-used-init : goal.loop-used-init
loop-used-init g c = record {
  within = search rules;
  announces = λ s content given h. announcing_begins g.R.Repo.state s content given c.args.packet.now c.args.server.now h;
}

pub loop-used-smaller : goal.loop-used-smaller
loop-used-smaller g c =
    let wants : wants_input c.loop-used.server ≡ true = sym c.wants_input.ensures.value ∙ c.if-wants_input.true in
    let less : c.loop-used.used < length c.args.packet.now = search rules in
    let some = chunk_some c.args.packet.now c.loop-used.used c.min.result c.args.cut less c.requires.cut c.min.ensures in
    let fits = chunk_fits c.args.packet.now c.loop-used.used c.min.result c.feed-used.result c.loop-used.invariant.within c.feed-used.ensures.used in
    rw wants (fewer_turns (wants_input c.feed-used.new.self) _ _ (λ on. omega (arith, some, fits, less, c.feed-used.ensures.whole on)))

pub loop-used-preserved : goal.loop-used-preserved
loop-used-preserved g c =
    let wants : wants_input c.loop-used.server ≡ true = sym c.wants_input.ensures.value ∙ c.if-wants_input.true in
    let at = c.loop-used in
    record {
      within = chunk_fits c.args.packet.now at.used c.min.result c.feed-used.result at.invariant.within c.feed-used.ensures.used;
      announces = λ s content given h.
          announcing_on g.R.Repo.state c.args.packet.now at.used c.min.result c.feed-used.result at.invariant.within c.feed-used.ensures.used
          at.server c.feed-used.new.self wants c.feed-used.ensures.goes c.feed-used.ensures.in_time s content given (at.invariant.announces s content given h);
    }

pub returns-else-wants_input : goal.returns-else-wants_input
returns-else-wants_input g c =
    let wants : wants_input c.loop-used.server ≡ false = sym c.wants_input.ensures.value ∙ c.if-wants_input.false in
    record {
      announced = λ s content given h.
          announcing_ends g.R.Repo.state s content given c.args.packet.now c.loop-used.used c.loop-used.server (λ _. wants)
          (c.loop-used.invariant.announces s content given h);
    }

pub returns-after-loop-used : goal.returns-after-loop-used
returns-after-loop-used g c =
    let all : length c.args.packet.now ≤ c.loop-used.used = search rules in
    record {
      announced = λ s content given h.
          announcing_ends g.R.Repo.state s content given c.args.packet.now c.loop-used.used c.loop-used.server (λ less. absurd (omega (arith, less, all)))
          (c.loop-used.invariant.announces s content given h);
    }
