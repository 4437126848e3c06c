-- A server that takes only one request of a session.
use Rattle.std.specs.Prelude.{◌≡◌, ℕ, ◌≤◌, Bool, true, false, List, [], ◌++◌}
use Rattle.std.proofs.Common.{refl, ap, ◌∙◌}
use Rattle.std.specs.Io.KnownBytes.{Consumes}
use Rattle.git_loop.specs.Moves.{Move, given_to, given_to-append}
use Rattle.git_loop.specs.Streams.{InputState}
use Rattle.git_pkt.specs.Machine.Recorded.{reads_of, has_ended}
use Rattle.git_pkt.specs.declared.recorded.Recorded.{Recorded}
use Rattle.git_msg.specs.Arguments.{Arg}
use Rattle.git_server.specs.Repository.{RepoState}
use Rattle.git_server.specs.Sessions.{Setting}
use Rattle.git_server.specs.Machine.LatePacks.{state_with}
use Rattle.git_server.specs.Machine.Moved.{ServerReaches, goes_nowhere, reaches_further}
use Rattle.git_server.specs.Machine.Server.{Running}
use Rattle.git_server.specs.Machine.ServerCalls.{RunsUnread}
use Rattle.git_server.specs.declared.server.Server.{Server}

-- the server used the bytes that left the input, and all of them if the input ended, which the reader reported; nothing was sent, and no
-- byte of a pack was looked at
pub record TakesOne {R A : Type 0} (state : R → RepoState) (old new : Server R A) (before after : InputState) : Type 0 where
  pub used : List ℕ
  pub over : Bool
  pub read : Consumes before.left after.left used
  pub stands : (s : Setting) (so_far given : List ℕ) → Running state s so_far false given old → Running state s (so_far ++ used) over given new
  pub unread : (s : Setting) (so_far given : List ℕ) → RunsUnread state s so_far false given old → RunsUnread state s (so_far ++ used) over given new
  pub whole : over ≡ true → (after.window ≡ []) × (after.ended ≡ true)

-- as many reads were made, but the input had not ended
pub record IsAllRead {R : Type 0} (count : ℕ) (reader : Recorded R) : Type 0 where
  pub reads : count ≤ reads_of reader
  pub open_ended : has_ended reader ≡ false

-- these moves led the server from the one state to the other, whatever its packs are, and nothing was sent
pub record TakesBy {R A : Type 0} (state : R → RepoState) (old : Server R A) (trace : List Move) (new : Server R A) : Type 0 where
  pub reaches : ServerReaches state old trace new
  pub unread : (packs : List Arg → List ℕ) → ServerReaches (state_with packs state) old trace new
  pub quiet : given_to 0 trace ≡ []

module _ {R A : Type 0} (state : R → RepoState) where
  pub takes_nowhere : (server : Server R A) → TakesBy state server [] server
  takes_nowhere server = record {
    reaches = goes_nowhere state server;
    unread = λ packs. goes_nowhere (state_with packs state) server;
    quiet = refl;
  }

  pub takes_further : (old middle new : Server R A) (t u : List Move) → TakesBy state old t middle → TakesBy state middle u new
      → TakesBy state old (t ++ u) new
  takes_further old middle new t u first second = record {
    reaches = reaches_further state old middle new t u first.reaches second.reaches;
    unread = λ packs. reaches_further (state_with packs state) old middle new t u (first.unread packs) (second.unread packs);
    quiet = given_to-append 0 t u ∙ ap (λ (l : List ℕ). l ++ given_to 0 u) first.quiet ∙ second.quiet;
  }
