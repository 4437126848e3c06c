-- What a server has to send is written, one packet after another, and flushed.
use Rattle.std.proofs.Common.{◌≡◌, ℕ, Bool, true, false, List, [], ◌++◌, Option, Some, None, Result, OnErr, IsErrAnd}
use Rattle.std.proofs.Common.{refl, sym, ap, ◌∙◌, append-nil, subst}
use Rattle.std.specs.Io.KnownBytes.{Keeps}
use Rattle.git_pkt.specs.Streams.{Flow, flow, WrittenAs}
use Rattle.git_pkt.specs.declared.fault.RunFault.{RunFault}
use Rattle.git_pkt.proofs.EngineLemmas.{written_nothing, written_then, written_flushed, at_fault}
use Rattle.git_server.specs.Repository.{RepoState}
use Rattle.git_server.specs.Machine.LatePacks.{state_with}
use Rattle.git_server.specs.Machine.Moved.{goes_join, goes_nowhere}
use Rattle.git_server.specs.Machine.Unsent.{WritesFor, WritesItsEnd, WritesOn, WritesPart, WritesUnread}
use Rattle.git_server.specs.Machine.Server.{outcome_of}
use Rattle.git_server.specs.Machine.ServerCalls.{EndsAs, Goes, IsAfterPull, HasNoPackUnsent, AreUnsentNow, Pulls, AnnouncesPulled, given_by}
use Rattle.git_server.specs.declared.outcome.Outcome.{Outcome}
use Rattle.git_server.specs.declared.server.Pulled.{Pulled}
use Rattle.git_server.specs.declared.server.Pulled.TheVariants.{Packet, NeedInput, Finished}
use Rattle.git_server.specs.declared.server.Server.{Server}
use Rattle.git_server.proofs.Going.{no_outcome}
use Rattle.git_server.proofs.Outcomes.{too_long_before}
use denote.Ref.{Bor}

module _ {R A : Type 0} (state : R → RepoState) where
  -- what was used whole is a front of itself
  pub all_in_part : (broken : Bool) (old new : Server R A) (bytes : List ℕ) (writer : Flow) → WritesOn broken state old new bytes writer
      → WritesPart broken state old new bytes writer
  all_in_part broken old new bytes writer writes = record { used = bytes; unused = []; parts = sym (append-nil bytes); writes = writes }

  module _ (old middle new : Server R A) (held_before held held_after : Option (List ℕ)) where
    -- what a call gave was written after what was written before, as far as that went
    pub writes_more : (broken : Bool) (u v h : List ℕ) → WritesOn false state old middle u (flow held_before held)
        → WrittenAs broken (flow held held_after) h → Goes state v h middle new → WritesOn broken state old new (u ++ v) (flow held_before held_after)
    writes_more broken u v h so_far written goes =
        record {
          given = so_far.given ++ h;
          written = written_then broken held_before held held_after so_far.given h so_far.written written;
          goes = goes_join state old middle new u v so_far.given h so_far.goes goes;
        }

    -- a packet was pulled, and written as far as that went
    pub writes_packet : (broken : Bool) (pulled : Pulled) (bytes : Bor (List ℕ)) → WritesOn false state old middle [] (flow held_before held)
        → Pulls state middle pulled new → pulled ≡ Packet bytes → WrittenAs broken (flow held held_after) bytes.now
        → WritesOn broken state old new [] (flow held_before held_after)
    writes_packet broken pulled bytes so_far pulls is written =
        writes_more broken [] [] bytes.now so_far written (subst (λ (p : Pulled). Goes state [] (given_by p) middle new) is pulls.goes)

  -- the end was pulled
  pub writes_end : (old middle new : Server R A) (writer : Flow) (pulled : Pulled) (outcome : Outcome) → WritesOn false state old middle [] writer
      → Pulls state middle pulled new → pulled ≡ Finished outcome → IsAfterPull (outcome_of old) (outcome_of middle)
      → WritesItsEnd state old new [] writer outcome
  writes_end old middle new writer pulled outcome so_far pulls is after =
      let announces : AnnouncesPulled state middle (Finished outcome) new = subst (λ (p : Pulled). AnnouncesPulled state middle p new) is pulls.announces in
      record {
        part = all_in_part false old new [] writer (record {
          given = so_far.given;
          written = so_far.written;
          goes = subst (Goes state [] so_far.given old) (sym announces.2) so_far.goes;
        });
        ends = ap outcome_of announces.2 ∙ announces.0;
        has_unsent = subst (λ (server : Server R A). AreUnsentNow state server []) (sym announces.2) announces.1;
        session = subst (λ (server : Server R A). EndsAs state server outcome) (sym announces.2) announces.3;
        in_time = λ s used_before over before r wants fault announced too_long.
            let before = too_long_before (outcome_of old) (outcome_of middle) fault after (announces.0 ∙ announced) too_long in
            let none : outcome_of old ≡ None = no_outcome old.phase wants in
            absurd (cc);
      }

-- the same where no byte of a pack is pending, whatever the packs are
module _ {R A : Type 0} (state : R → RepoState) where
  pub unread_nothing : (server : Server R A) (held : Option (List ℕ)) → HasNoPackUnsent state server → WritesUnread false state server server (flow held held)
  unread_nothing server held none =
      record { writes = λ packs. record { given = []; written = written_nothing held; goes = goes_nowhere (state_with packs state) server }; has_unsent = none }

  module _ (old middle new : Server R A) (writer : Flow) (pulled : Pulled) where
    pub unread_waits : WritesUnread false state old middle writer → Pulls state middle pulled new → pulled ≡ NeedInput → WritesUnread false state old new writer
    unread_waits so_far pulls is =
        let announces : AnnouncesPulled state middle NeedInput new = subst (λ (p : Pulled). AnnouncesPulled state middle p new) is pulls.announces in
        subst (λ (server : Server R A). WritesUnread false state old server writer) (sym announces.1) so_far

    pub unread_end : (outcome : Outcome) → WritesUnread false state old middle writer → Pulls state middle pulled new → pulled ≡ Finished outcome
        → WritesUnread false state old new writer
    unread_end outcome so_far pulls is =
        let announces : AnnouncesPulled state middle (Finished outcome) new = subst (λ (p : Pulled). AnnouncesPulled state middle p new) is pulls.announces in
        subst (λ (server : Server R A). WritesUnread false state old server writer) (sym announces.2) so_far

  module _ (old middle new : Server R A) (held_before held held_after : Option (List ℕ)) where
    pub unread_packet : (pulled : Pulled) (bytes : Bor (List ℕ)) → WritesUnread false state old middle (flow held_before held)
        → Pulls state middle pulled new → pulled ≡ Packet bytes → WrittenAs false (flow held held_after) bytes.now
        → WritesUnread false state old new (flow held_before held_after)
    unread_packet pulled bytes so_far pulls is written =
        let given = pulls.unread so_far.has_unsent in
        record {
          writes = λ packs. writes_more (state_with packs state) old middle new held_before held held_after false [] [] bytes.now (so_far.writes packs) written
              (subst (λ (p : Pulled). Goes (state_with packs state) [] (given_by p) middle new) is (given.goes packs));
          has_unsent = given.has_unsent;
        }

  pub unread_flushed : (old new : Server R A) (before held after : Option (List ℕ)) → WritesUnread false state old new (flow before held)
      → Keeps held after → WritesUnread false state old new (flow before after)
  unread_flushed old new before held after so_far kept = record {
    writes = λ packs.
        let writes = so_far.writes packs in
        record { given = writes.given; written = written_flushed false before held after writes.given writes.written kept; goes = writes.goes };
    has_unsent = so_far.has_unsent;
  }

-- the writer was flushed, or failed in that
pub part_flushed : {R A : Type 0} (broken : Bool) (state : R → RepoState) (old new : Server R A) (bytes : List ℕ) (before held after : Option (List ℕ))
    → WritesPart false state old new bytes (flow before held) → Keeps held after → WritesPart broken state old new bytes (flow before after)
part_flushed broken state old new bytes before held after part kept = record {
  used = part.used;
  unused = part.unused;
  parts = part.parts;
  writes = record {
    given = part.writes.given;
    written = written_flushed broken before held after part.writes.given part.writes.written kept;
    goes = part.writes.goes;
  };
}

pub end_flushed : {R A : Type 0} (state : R → RepoState) (old new : Server R A) (bytes : List ℕ) (before held after : Option (List ℕ)) (outcome : Outcome)
    → WritesItsEnd state old new bytes (flow before held) outcome → Keeps held after → WritesItsEnd state old new bytes (flow before after) outcome
unfolding part_flushed
end_flushed state old new bytes before held after outcome end kept = record {
  part = part_flushed false state old new bytes before held after end.part kept;
  ends = end.ends;
  has_unsent = end.has_unsent;
  session = end.session;
  in_time = end.in_time;
}

-- what holds where a write failed
pub on_err_at : {T : Type 0} (r : Result T RunFault) (fault : RunFault) (P : Type 0) → IsErrAnd r (λ e. e ≡ fault) → P → OnErr r P
on_err_at {T} r fault P met holds = at_fault r fault fault (λ (x : Result T RunFault). OnErr x P) refl met holds

-- what is written where a flush follows, or fails
module _ {R A : Type 0} (state : R → RepoState) (old new : Server R A) (before held after : Option (List ℕ)) where
  pub flushed_for : (outcome : Option Outcome) → WritesFor state old new [] (flow before held) outcome → Keeps held after
      → WritesFor state old new [] (flow before after) outcome
  flushed_for None all kept = record {
    writes = record {
      given = all.writes.given;
      written = written_flushed false before held after all.writes.given all.writes.written kept;
      goes = all.writes.goes;
    };
    wants = all.wants;
  }
  flushed_for (Some outcome) end kept = end_flushed state old new [] before held after outcome end kept

  pub written_part : (outcome : Option Outcome) → WritesFor state old new [] (flow before held) outcome → Keeps held after
      → WritesPart true state old new [] (flow before after)
  written_part None all kept = part_flushed true state old new [] before held after (all_in_part state false old new [] (flow before held) all.writes) kept
  written_part (Some outcome) end kept = part_flushed true state old new [] before held after end.part kept
