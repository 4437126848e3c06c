use Rattle.std.proofs.Common.{arith, ◌≤◌, ap, inl, inr, List, [], ◌++◌, subst, sym, take, ◌∙◌}
use Rattle.git_msg.specs.Memory.{FaultNeedsRefusal}
use Rattle.git_msg.specs.declared.requests.Request.{Request}
use Rattle.git_msg.specs.Machine.HeldRequest.{kept_of, stored_of}
use Rattle.git_server.specs.declared.outcome.Outcome.TheVariants.{Flush}
use Rattle.git_host.specs.HostSessions.{Facts}
use Rattle.git_host.specs.HostServer.{Hosts, HostsIn, begun_in, credit_in, fault_in, is_answering}
use Rattle.git_host.specs.declared.host_server.Phase.{Phase}
use Rattle.git_host.specs.declared.host_server.Phase.TheVariants.{Asked as Whole, Ended}
use Rattle.git_host.proofs.FeedMoves.{needed_by, some_fault, some_used}
use Rattle.git_host.proofs.HostBytes.{brought_fault, brought_more, brought_request, brought_stop, feeds_none, is_reading_now, none_now}
use Rattle.git_host.proofs.HostBytes.{reading_leads, reads_itself, stopped_hosts, stopped_leads}
use Rattle.git_host.proofs.HostCredits.{pays_at, pays_off, stopped_credit}
use Rattle.git_host.proofs.host_server.HostServer.feed.Goals as goal

pub returns-then-not-wants_input-clause-feeds : goal.returns-then-not-wants_input-clause-feeds
returns-then-not-wants_input-clause-feeds g c = feeds_none c.args.self.now

pub returns-in-More-clause-feeds : goal.returns-in-More-clause-feeds
returns-in-More-clause-feeds g c s so_far over reported given h =
    let old = c.args.self.now in
    let reading = is_reading_now old (sym c.wants_input.ensures ∙ c.if-not-wants_input.false) in
    let stands = subst (λ (p : Phase g.row.A.Denot). HostsIn p s so_far over reported given old.stream old.flush) reading h.stands in
    let used = so_far ++ take c.feed-read.result.used c.args.chunk.now in (
      subst (λ (p : Phase g.row.A.Denot). Hosts s used over (reported ++ begun_in p p) given
          (record { alloc = old.alloc; offer = old.offer; limits = old.limits; stream = c.feed-read.new.self; flush = old.flush; phase = p }))
          (sym reading) (record {
            offer = h.offer;
            limit = h.limit;
            reads_within = c.feed-read.ensures.feeds.limit ∙ h.reads_within;
            stands = brought_more s so_far over reported given old.stream c.feed-read.new.self
                c.args.chunk.now c.feed-read.result c.feed-read.ensures.feeds stands c.in-More.is;
          }),
      reads_itself old.phase,
    )

pub returns-in-Request-clause-feeds : goal.returns-in-Request-clause-feeds
returns-in-Request-clause-feeds g c s so_far over reported given h =
    let old = c.args.self.now in
    let reading = is_reading_now old (sym c.wants_input.ensures ∙ c.if-not-wants_input.false) in
    let stands = subst (λ (p : Phase g.row.A.Denot). HostsIn p s so_far over reported given old.stream old.flush) reading h.stands in
    let used = so_far ++ take c.feed-read.result.used c.args.chunk.now in
    let flush = c.saturating_sub-self.result in
    let request = c.in-Request.request in (
      subst (λ (p : Phase g.row.A.Denot). Hosts s used over (reported ++ begun_in old.phase p) given
          (record { alloc = old.alloc; offer = old.offer; limits = old.limits; stream = c.feed-read.new.self; flush = flush; phase = p }))
          (sym c.move_to.ensures)
          (subst (λ (r : Request g.row.A.Denot). Hosts s used over (reported ++ begun_in old.phase (Whole r)) given
          (record { alloc = old.alloc; offer = old.offer; limits = old.limits; stream = c.feed-read.new.self; flush = flush; phase = Whole r }))
          (sym c.in-Request.request-is)
          (subst (λ (p : Phase g.row.A.Denot). Hosts s used over (reported ++ begun_in p (Whole request)) given
          (record { alloc = old.alloc; offer = old.offer; limits = old.limits; stream = c.feed-read.new.self; flush = flush; phase = Whole request }))
          (sym reading)
          (record {
            offer = h.offer;
            limit = h.limit;
            reads_within = c.feed-read.ensures.feeds.limit ∙ h.reads_within;
            stands = brought_request s so_far over reported given old.stream c.feed-read.new.self c.args.chunk.now c.feed-read.result
                c.feed-read.ensures.feeds stands request flush c.in-Request.is
                (omega (arith, c.saturating_sub-self.ensures, c.position.ensures))
                (subst (λ (r : Request g.row.A.Denot). stored_of r ≤ kept_of r) c.in-Request.request-is c.kept.ensures.stored);
          }))),
      reading_leads old.phase c.move_to.new.self reading (ap is_answering c.move_to.ensures),
    )

pub returns-in-Stop-clause-feeds : goal.returns-in-Stop-clause-feeds
returns-in-Stop-clause-feeds g c s so_far over reported given h =
    let old = c.args.self.now in
    let reading = is_reading_now old (sym c.wants_input.ensures ∙ c.if-not-wants_input.false) in
    let stands = subst (λ (p : Phase g.row.A.Denot). HostsIn p s so_far over reported given old.stream old.flush) reading h.stands in
    let used = so_far ++ take c.feed-read.result.used c.args.chunk.now in (
      subst (λ (p : Phase g.row.A.Denot). Hosts s used over (reported ++ begun_in old.phase p) given
          (record { alloc = old.alloc; offer = old.offer; limits = old.limits; stream = c.feed-read.new.self; flush = old.flush; phase = p }))
          (sym c.move_to-in-Stop.ensures)
          (subst (λ (p : Phase g.row.A.Denot). Hosts s used over (reported ++ begun_in p (Ended Flush)) given
          (record { alloc = old.alloc; offer = old.offer; limits = old.limits; stream = c.feed-read.new.self; flush = old.flush; phase = Ended Flush }))
          (sym reading)
          (record {
            offer = h.offer;
            limit = h.limit;
            reads_within = c.feed-read.ensures.feeds.limit ∙ h.reads_within;
            stands = brought_stop s so_far over reported given old.stream c.feed-read.new.self c.args.chunk.now
                c.feed-read.result c.feed-read.ensures.feeds stands c.in-Stop.is;
          })),
      reading_leads old.phase c.move_to-in-Stop.new.self reading (ap is_answering c.move_to-in-Stop.ensures),
    )

pub returns-in-Failed-clause-feeds : goal.returns-in-Failed-clause-feeds
returns-in-Failed-clause-feeds g c s so_far over reported given h =
    let old = c.args.self.now in
    let reading = is_reading_now old (sym c.wants_input.ensures ∙ c.if-not-wants_input.false) in
    let stands = subst (λ (p : Phase g.row.A.Denot). HostsIn p s so_far over reported given old.stream old.flush) reading h.stands in
    let used = so_far ++ take c.feed-read.result.used c.args.chunk.now in
    let fault = c.in-Failed.fault in (
      subst (λ (fs : List Facts). Hosts s used over fs given c.stop.new.self)
          (sym (none_now _ c.stop.new.self fault c.stop.ensures old reported reading))
          (stopped_hosts _ c.stop.new.self fault c.stop.ensures s used over (reported ++ []) given h.offer h.limit
          (brought_fault s so_far over reported given old.stream c.feed-read.new.self c.args.chunk.now c.feed-read.result c.feed-read.ensures.feeds
          stands fault c.in-Failed.is)),
      stopped_leads old.phase _ c.stop.new.self fault reading c.stop.ensures,
    )

pub returns-in-More-clause-moves : goal.returns-in-More-clause-moves
returns-in-More-clause-moves g c s so_far over reported given h reads some =
    let old = c.args.self.now in
    let reading = is_reading_now old (sym c.wants_input.ensures ∙ c.if-not-wants_input.false) in
    let stands = subst (λ (p : Phase g.row.A.Denot). HostsIn p s so_far over reported given old.stream old.flush) reading h.stands in
    elim (some_used c.args.self.now.stream c.feed-read.new.self c.args.chunk.now c.feed-read.result c.feed-read.ensures.feeds stands.reads.wants
    _ c.in-More.is some) [
      | inl used ↦ inl used
      | inr (fault, is) ↦ absurd (cc)
    ]

pub returns-in-Request-clause-moves : goal.returns-in-Request-clause-moves
returns-in-Request-clause-moves g c s so_far over reported given h reads some = inl (rw c.in-Request.is at c.feed-read.ensures.feeds.leaves).0

pub returns-in-Stop-clause-moves : goal.returns-in-Stop-clause-moves
returns-in-Stop-clause-moves g c s so_far over reported given h reads some = inl (rw c.in-Stop.is at c.feed-read.ensures.feeds.leaves).0

pub returns-in-Failed-clause-moves : goal.returns-in-Failed-clause-moves
returns-in-Failed-clause-moves g c s so_far over reported given h reads some =
    inr (some_fault g.row.A.Denot c.stop.new.self.phase c.in-Failed.fault c.stop.ensures.phase)

pub returns-in-Failed-clause-memory : goal.returns-in-Failed-clause-memory
returns-in-Failed-clause-memory g c s so_far over reported given h needed =
    let old = c.args.self.now in
    let reading = is_reading_now old (sym c.wants_input.ensures ∙ c.if-not-wants_input.false) in
    let stands = subst (λ (p : Phase g.row.A.Denot). HostsIn p s so_far over reported given old.stream old.flush) reading h.stands in
    needed_by old.stream c.feed-read.new.self c.args.chunk.now c.feed-read.result c.feed-read.ensures.feeds stands.reads.wants g.A.Memory.refuses s.limit
    c.stop.new.self.phase c.in-Failed.fault c.in-Failed.is c.stop.ensures.phase stands.reads.limit c.feed-read.ensures.memory

pub returns-then-not-wants_input-clause-moves : goal.returns-then-not-wants_input-clause-moves
returns-then-not-wants_input-clause-moves g c s so_far over reported given h reads some =
    let quiet = sym c.wants_input.ensures ∙ c.if-not-wants_input.true in absurd (cc)

pub returns-then-not-wants_input-clause-cost : goal.returns-then-not-wants_input-clause-cost
returns-then-not-wants_input-clause-cost g c = record { rises = omega arith; within = omega arith }

pub returns-then-not-wants_input-clause-memory : goal.returns-then-not-wants_input-clause-memory
returns-then-not-wants_input-clause-memory g c s so_far over reported given h needed = needed

pub returns-in-More-clause-cost : goal.returns-in-More-clause-cost
returns-in-More-clause-cost g c =
    let old = c.args.self.now in
    pays_at old c.feed-read.new.self _ _ _ (is_reading_now old (sym c.wants_input.ensures ∙ c.if-not-wants_input.false)) c.feed-read.ensures.cost old.phase

pub returns-in-More-clause-memory : goal.returns-in-More-clause-memory
returns-in-More-clause-memory g c s so_far over reported given h needed = needed

pub returns-in-Request-clause-cost : goal.returns-in-Request-clause-cost
returns-in-Request-clause-cost g c =
    let old = c.args.self.now in
    pays_at old c.feed-read.new.self _ _ _ (is_reading_now old (sym c.wants_input.ensures ∙ c.if-not-wants_input.false)) c.feed-read.ensures.cost
    c.move_to.new.self

pub returns-in-Request-clause-memory : goal.returns-in-Request-clause-memory
returns-in-Request-clause-memory g c s so_far over reported given h needed =
    subst (λ (p : Phase g.row.A.Denot). FaultNeedsRefusal g.A.Memory.refuses s.limit (fault_in p)) (sym c.move_to.ensures) tt

pub returns-in-Stop-clause-cost : goal.returns-in-Stop-clause-cost
returns-in-Stop-clause-cost g c =
    let old = c.args.self.now in
    pays_off old c.feed-read.new.self _ _ _ (is_reading_now old (sym c.wants_input.ensures ∙ c.if-not-wants_input.false)) c.feed-read.ensures.cost _
    (ap (λ (p : Phase g.row.A.Denot). credit_in p c.feed-read.new.self) c.move_to-in-Stop.ensures)

pub returns-in-Stop-clause-memory : goal.returns-in-Stop-clause-memory
returns-in-Stop-clause-memory g c s so_far over reported given h needed =
    subst (λ (p : Phase g.row.A.Denot). FaultNeedsRefusal g.A.Memory.refuses s.limit (fault_in p)) (sym c.move_to-in-Stop.ensures) tt

pub returns-in-Failed-clause-cost : goal.returns-in-Failed-clause-cost
returns-in-Failed-clause-cost g c =
    let old = c.args.self.now in
    pays_off old c.feed-read.new.self _ _ _ (is_reading_now old (sym c.wants_input.ensures ∙ c.if-not-wants_input.false)) c.feed-read.ensures.cost _
    (stopped_credit _ c.stop.new.self c.in-Failed.fault c.stop.ensures)
