-- What a run of a machine that takes one request means for its server.
use Rattle.std.proofs.Common.{◌≡◌, ℕ, Bool, true, false, List, [], ◌∷◌, ◌++◌, append-nil, Result, Ok, Err, OnOk, OnErr, IfErr, IsTrue}
use Rattle.std.proofs.Common.{refl, sym, ap, ◌∙◌, subst}
use Rattle.git_loop.specs.Moves.{Move, closed, used, ended_after, given_to, used_of}
use Rattle.git_loop.specs.Streams.{InputState, one_input}
use Rattle.git_loop.specs.Machines.{Ends, FailsIn, Uses, WaitsFor}
use Rattle.git_pkt.specs.Machine.Engine.{FailsAs, IsShownBy}
use Rattle.git_pkt.specs.declared.fault.RunFault.{RunFault}
use Rattle.git_pkt.specs.declared.fault.RunFault.TheVariants.{ReadFault, WriteFault, ReadLimit, Refused}
use Rattle.git_server.specs.Repository.{RepoState}
use Rattle.git_server.specs.Machine.LatePacks.{setting_with, state_with}
use Rattle.git_server.specs.Machine.OneRequest.{TakesBy, TakesOne}
use Rattle.git_server.specs.Machine.Server.{Running}
use Rattle.git_server.specs.Machine.ServerCalls.{Closes, ClosesUnread, Goes, GoesUnread}
use Rattle.git_server.specs.declared.server.Server.{Server}
use Rattle.git_server.proofs.Machines.{reaches_closed, reaches_used}

module _ {R A : Type 0} (state : R → RepoState) (old new : Server R A) where
  -- ---- the calls

  pub takes_used : (from : ℕ) (bytes : List ℕ) → from ≡ 0 → Goes state bytes [] old new → GoesUnread state bytes [] old new
      → TakesBy state old (used from bytes ∷ []) new
  takes_used from bytes first goes unread = record {
    reaches = reaches_used state old new from bytes first goes;
    unread = λ packs. reaches_used (state_with packs state) old new from bytes first (unread packs);
    quiet = refl;
  }

  pub takes_closed : (from : ℕ) → from ≡ 0 → Closes state old new → ClosesUnread state old new → TakesBy state old (closed from ∷ []) new
  takes_closed from first closes unread = record {
    reaches = reaches_closed state old new from first closes;
    unread = λ packs. reaches_closed (state_with packs state) old new from first (unread packs);
    quiet = refl;
  }

  -- ---- the run

  pub takes_one : {before after : InputState} (trace : List Move) → before.ended ≡ false → TakesBy state old trace new
      → Uses before after (used_of 0 trace) → after.ended ≡ ended_after 0 before.ended trace → TakesOne state old new before after
  takes_one {before} {after} trace open_ended takes uses ended = record {
    used = used_of 0 trace;
    over = ended_after 0 false trace;
    read = uses.left;
    stands = λ s so_far given running.
        subst (λ (l : List ℕ). Running state s (so_far ++ used_of 0 trace) (ended_after 0 false trace) l new) (same given)
        (takes.reaches s so_far false given running);
    unread = λ s so_far given running packs.
        subst (λ (l : List ℕ). Running (state_with packs state) (setting_with packs s) (so_far ++ used_of 0 trace) (ended_after 0 false trace) l new)
        (same given)
        (takes.unread packs (setting_with packs s) so_far false given (running packs));
    whole = λ over.
        let found : after.ended ≡ true = ended ∙ ap (λ (b : Bool). ended_after 0 b trace) open_ended ∙ over in
        (uses.emptied (λ e. let no : true ≡ false = sym e ∙ open_ended in absurd (cc)) found, found);
  }
    where
      same : (given : List ℕ) → given ++ given_to 0 trace ≡ given
      same given = ap (λ (l : List ℕ). given ++ l) takes.quiet ∙ append-nil given

-- ---- how it ends

module _ (wants : Bool) (now : InputState) (spent : Type 0) where
  abbrev EndsTaking : Result (Unit {0}) RunFault → Type 0
  EndsTaking result = Ends result (λ k. (k ≡ 0) × (wants ≡ true)) (wants ≡ false) spent (one_input now)

  abbrev FailsTaking : Result (Unit {0}) RunFault → Type 0
  FailsTaking result = FailsIn result (λ k. k ≡ 0) (one_input now) false

  pub takes_whole : (result : Result (Unit {0}) RunFault) → EndsTaking result → OnOk result (wants ≡ false)
  takes_whole (Ok done) ends = ends
  takes_whole (Err fault) ends = tt

  at_first : (from : ℕ) → WaitsFor (λ k. (k ≡ 0) × (wants ≡ true)) (one_input now) from → WaitsFor (λ k. (k ≡ 0) × (wants ≡ true)) (one_input now) 0
  at_first from waits = subst (λ (n : ℕ). WaitsFor (λ k. (k ≡ 0) × (wants ≡ true)) (one_input now) n) waits.needs.0 waits

  pub takes_on : (result : Result (Unit {0}) RunFault) → EndsTaking result → FailsTaking result
      → OnErr result ((wants ≡ true) × (now.window ≡ []))
  takes_on (Ok done) ends fails = tt
  takes_on (Err ReadFault) (from, waits, failed) fails = (waits.needs.1, (at_first from waits).all)
  takes_on (Err ReadLimit) (from, waits, all) fails = (waits.needs.1, (at_first from waits).all)
  takes_on (Err WriteFault) ends (sound, failed) = let no : false ≡ true = failed in absurd (cc)
  takes_on (Err (Refused fault)) ends fails = absurd ends

  pub takes_failing : (result : Result (Unit {0}) RunFault) → EndsTaking result → FailsTaking result → FailsAs result now.failed false
  takes_failing (Ok done) ends (sound, none) = (sound 0 refl, refl)
  takes_failing (Err ReadFault) ends ((from, alone), none) = (subst (λ (n : ℕ). (one_input now n).failed ≡ true) alone.exists alone.failed, refl)
  takes_failing (Err ReadLimit) ends (sound, none) = (sound 0 refl, refl)
  takes_failing (Err WriteFault) ends (sound, failed) = let no : false ≡ true = failed in absurd (cc)
  takes_failing (Err (Refused fault)) ends fails = absurd ends

  pub takes_shown : (AllRead : Type 0) → (spent → now.ended ≡ false → AllRead) → (result : Result (Unit {0}) RunFault) → EndsTaking result
      → FailsTaking result → IfErr result (IsShownBy (IsTrue now.failed) ⊥ AllRead)
  takes_shown AllRead is (Ok done) ends fails = tt
  takes_shown AllRead is (Err ReadFault) ends fails = (takes_failing (Err ReadFault) ends fails).0
  takes_shown AllRead is (Err ReadLimit) (from, waits, all) fails = is all (at_first from waits).still_open
  takes_shown AllRead is (Err WriteFault) ends (sound, failed) = let no : false ≡ true = failed in absurd (cc)
  takes_shown AllRead is (Err (Refused fault)) ends fails = absurd ends
