-- Moves of a host's server and its store: what they make of a session.
use Rattle.std.proofs.Common.{◌≡◌, ℕ, Bool, true, false, List, [], ◌∷◌, ◌++◌}
use Rattle.std.proofs.Common.{refl, sym, ap, ◌∙◌, subst, append_assoc, append-nil}
use Rattle.git_msg.specs.Asked.{Asked}
use Rattle.git_host.specs.HostSessions.{Facts, HostSetting}
use Rattle.git_host.specs.HostServer.{Hosts, given_with, with_last}
use Rattle.git_store.specs.Questions.{Question, Reply}
use Rattle.git_store.specs.StoreMoves.{AllMade, Made, Move, asked, began, closed, facts_after, facts_with, fed, gave, given_by}
use Rattle.git_store.specs.StoreMoves.{given_in, is_taken, over_after, over_with, rested, used_by, used_in, was_none, was_refused, was_taken}
use Rattle.git_host.specs.declared.host_server.HostServer.{HostServer}
use Rattle.git_host.specs.declared.report.HostReported.{HostReported}
use Rattle.git_host.specs.declared.report.HostReported.TheVariants.{Packet, Taken, Hidden, NotAsked, MixedFormats, Unsorted, HeadTwice}
use Rattle.git_host.specs.declared.report.HostReported.TheVariants.{NotShallow, OutOfMemory}
use Rattle.git_host.specs.declared.report.HostStep.TheVariants as Step
use Rattle.git_host.specs.declared.report.Report.{Report}
use Rattle.git_host.specs.declared.report.Report.TheVariants.{Failed}
use Rattle.git_host.specs.HostAnswers.{with_reported}
use Rattle.git_host.proofs.HostCallMoves.{more_given, more_used, same_given}
use Rattle.git_host.proofs.LentStreams.{same_last}

-- a failure, and a report that was refused, change nothing of what was reported
same_failed : (what : HostReported) (facts : List Facts) → with_last (with_reported what Failed) facts ≡ facts
same_failed Packet facts = same_last facts
same_failed Taken facts = same_last facts
same_failed Hidden facts = same_last facts
same_failed NotAsked facts = same_last facts
same_failed MixedFormats facts = same_last facts
same_failed Unsorted facts = same_last facts
same_failed HeadTwice facts = same_last facts
same_failed NotShallow facts = same_last facts
same_failed OutOfMemory facts = same_last facts

same_refused : (why : HostReported) (report : Report) (facts : List Facts) → is_taken why ≡ false → with_last (with_reported why report) facts ≡ facts
same_refused Packet report facts refused = absurd (cc)
same_refused Taken report facts refused = absurd (cc)
same_refused Hidden report facts refused = absurd (cc)
same_refused NotAsked report facts refused = same_last facts
same_refused MixedFormats report facts refused = same_last facts
same_refused Unsorted report facts refused = same_last facts
same_refused HeadTwice report facts refused = same_last facts
same_refused NotShallow report facts refused = same_last facts
same_refused OutOfMemory report facts refused = same_last facts

-- no bytes are sent for a report that was refused
none_given : {A : Type 0} (why : HostReported) (server : HostServer A) → is_taken why ≡ false → given_with why server.stream ≡ []
none_given Packet server refused = absurd (cc)
none_given Taken server refused = absurd (cc)
none_given Hidden server refused = absurd (cc)
none_given NotAsked server refused = refl
none_given MixedFormats server refused = refl
none_given Unsorted server refused = refl
none_given HeadTwice server refused = refl
none_given NotShallow server refused = refl
none_given OutOfMemory server refused = refl

module _ {A S : Type 0} (begins : S → Asked → S → Type 0) (replies : S → Question → Reply → S → Type 0) (s : HostSetting) where
  -- after one move
  pub one_move : (move : Move) (old : HostServer A) (store : S) (new : HostServer A) (left : S) → Made begins replies move old store new left
      → (used : List ℕ) (over : Bool) (facts : List Facts) (given : List ℕ) → Hosts s used over facts given old
      → Hosts s (used ++ used_by move) (over_with move over) (facts_with move facts) (given ++ given_by move) new
  one_move (fed bytes begun) old store new left (feeds, is, kept) used over facts given h =
      more_given s (used ++ bytes) over (facts ++ begun) given [] new refl
      (subst (λ (l : List Facts). Hosts s (used ++ bytes) over (facts ++ l) given new) (sym is) (feeds s used over facts given h).0)
  one_move closed old store new left (closes, kept) used over facts given h =
      more_used s used true facts (given ++ []) new (more_given s used true facts given [] new refl (closes.2 s used over facts given h))
  one_move (gave bytes) old store new left (steps, is, kept) used over facts given h =
      more_used s used over facts (given ++ bytes) new (same_given s used over facts given bytes _ new is (steps s used over facts given h).0)
  one_move rested old store new left (Step.NeedInput, rest, steps, kept) used over facts given h =
      more_used s used over facts (given ++ []) new (more_given s used over facts given [] new refl (steps s used over facts given h).0)
  one_move rested old store new left (Step.Ended outcome, rest, steps, kept) used over facts given h =
      more_used s used over facts (given ++ []) new (more_given s used over facts given [] new refl (steps s used over facts given h).0)
  one_move rested old store new left (Step.Packet, rest, steps, kept) used over facts given h = absurd rest
  one_move rested old store new left (Step.Asked, rest, steps, kept) used over facts given h = absurd rest
  one_move rested old store new left (Step.Need need, rest, steps, kept) used over facts given h = absurd rest
  one_move (began q) old store new left (asking, steps, b, is) used over facts given h =
      more_used s used over facts (given ++ []) new (more_given s used over facts given [] new refl
      (b.accepts.2 s used over facts given (steps s used over facts given h).0))
  one_move (asked need question reply (was_taken report what) bytes) old store new left (asking, steps, answers, is) used over facts given h =
      let (reports, taken, does) = answers.turns_out in
      more_used s used over (with_last (with_reported what report) facts) (given ++ bytes) new
      (same_given s used over (with_last (with_reported what report) facts) given bytes _ new is
      (does s used over facts given (steps s used over facts given h).0).0)
  one_move (asked need question reply (was_none what) bytes) old store new left (asking, steps, answers, is) used over facts given h =
      let (none, does) = answers.turns_out in
      more_used s used over facts (given ++ bytes) new (same_given s used over facts given bytes _ new is
      (subst (λ (fs : List Facts). Hosts s used over fs (given ++ given_with what new.stream) new) (same_failed what facts)
      (does s used over facts given (steps s used over facts given h).0).0))
  one_move (asked need question reply (was_refused report why what) bytes) old store new left (asking, steps, answers, is) used over facts given h =
      let (refusing, reports, refused, does, fails) = answers.turns_out in
      let first = (does s used over facts given (steps s used over facts given h).0).0 in
      let same = subst (λ (fs : List Facts). Hosts s used over fs given refusing) (same_refused why report facts refused)
      (subst (λ (g : List ℕ). Hosts s used over (with_last (with_reported why report) facts) g refusing)
      (ap (λ (l : List ℕ). given ++ l) (none_given why refusing refused) ∙ append-nil given) first) in
      more_used s used over facts (given ++ bytes) new (same_given s used over facts given bytes _ new is
      (subst (λ (fs : List Facts). Hosts s used over fs (given ++ given_with what new.stream) new) (same_failed what facts)
      (fails s used over facts given same).0))

  -- after any moves
  pub any_moves : (moves : List Move) (old : HostServer A) (store : S) (new : HostServer A) (left : S) → AllMade begins replies moves old store new left
      → (used : List ℕ) (over : Bool) (facts : List Facts) (given : List ℕ) → Hosts s used over facts given old
      → Hosts s (used ++ used_in moves) (over_after over moves) (facts_after facts moves) (given ++ given_in moves) new
  any_moves [] old store new left (same, kept) used over facts given h =
      subst (λ (x : HostServer A). Hosts s (used ++ []) over facts (given ++ []) x) (sym same)
      (more_used s used over facts (given ++ []) old (more_given s used over facts given [] old refl h))
  any_moves (move ∷ moves) old store new left (middle, between, made, more) used over facts given h =
      let now = one_move move old store middle between made used over facts given h in
      let later = any_moves moves middle between new left more (used ++ used_by move) (over_with move over) (facts_with move facts)
      (given ++ given_by move) now in
      let over_now = over_after (over_with move over) moves in
      let facts_now = facts_after (facts_with move facts) moves in
      subst (λ (u : List ℕ). Hosts s u over_now facts_now (given ++ given_in (move ∷ moves)) new) (append_assoc used (used_by move) (used_in moves))
      (subst (λ (g : List ℕ). Hosts s ((used ++ used_by move) ++ used_in moves) over_now facts_now g new)
      (append_assoc given (given_by move) (given_in moves)) later)
