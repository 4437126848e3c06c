use Rattle.std.proofs.Common.{rules, true, false, ◌≡◌, ◌∙◌, ◌||◌, Bool, refl}
use Rattle.git_server.proofs.Outcomes.{pulls_on}
use Rattle.git_server.proofs.UnsentLemmas.{on_err_at, all_in_part, unread_end, unread_nothing, unread_packet, unread_waits, writes_packet, writes_end}
use Rattle.git_server.proofs.pending.drain.Goals as goal

or_none : (b : Bool) → (b || false) ≡ b
or_none true = refl
or_none false = refl

pub loop-bytes-preserved : goal.loop-bytes-preserved
loop-bytes-preserved g c =
    record {
      sound = c.in_ok-send-in-Packet.ensures.sends.failed ∙ or_none _ ∙ c.loop-bytes.invariant.sound;
      outcome = pulls_on _ _ _ c.loop-bytes.invariant.outcome c.pull.follows.holds-at-none.outcome;
      writes = writes_packet g.R.Repo.state _ _ _ _ _ _ false _ c.in-Packet.bytes
          c.loop-bytes.invariant.writes c.pull.follows.holds-at-none c.in-Packet.is (search rules);
      unread = λ none. unread_packet g.R.Repo.state _ _ _ _ _ _ _ c.in-Packet.bytes
          (c.loop-bytes.invariant.unread none) c.pull.follows.holds-at-none c.in-Packet.is (search rules);
    }

pub loop-bytes-init : goal.loop-bytes-init
loop-bytes-init g c =
    record {
      sound = search rules;
      outcome = search rules;
      writes = search rules;
      unread = λ none. unread_nothing g.R.Repo.state c.args.server.now _ none;
    }

pub returns-in-NeedInput-clause-unread : goal.returns-in-NeedInput-clause-unread
returns-in-NeedInput-clause-unread g c none =
    unread_waits g.R.Repo.state _ _ _ _ _ (c.loop-bytes.invariant.unread none) c.pull.follows.holds-at-none c.in-NeedInput.is

pub returns-in-Finished-clause-unread : goal.returns-in-Finished-clause-unread
returns-in-Finished-clause-unread g c none =
    unread_end g.R.Repo.state _ _ _ _ _ c.in-Finished.outcome (c.loop-bytes.invariant.unread none) c.pull.follows.holds-at-none c.in-Finished.is

pub returns-in-Finished-clause-ok : goal.returns-in-Finished-clause-ok
returns-in-Finished-clause-ok g c =
    writes_end g.R.Repo.state _ _ _ _ _ c.in-Finished.outcome c.loop-bytes.invariant.writes c.pull.follows.holds-at-none c.in-Finished.is
    c.loop-bytes.invariant.outcome

pub returns-in_err-send-in-Packet-clause-front : goal.returns-in_err-send-in-Packet-clause-front
returns-in_err-send-in-Packet-clause-front g c =
    on_err_at _ _ _ c.from_residual.ensures.1
    (all_in_part g.R.Repo.state true _ _ _ _ (writes_packet g.R.Repo.state _ _ _ _ _ _ true _ c.in-Packet.bytes c.loop-bytes.invariant.writes
    c.pull.follows.holds-at-none c.in-Packet.is c.in_err-send-in-Packet.ensures.sends.err))
