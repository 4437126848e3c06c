-- The server as a machine: what its calls mean for a run.
use Rattle.std.proofs.Common.{◌≡◌, ℕ, true, List, [], ◌∷◌, ◌++◌, append-nil, Option, Some, None, IsSome, inl, inr, refl, sym, ◌∙◌, subst}
use Rattle.git_loop.specs.Machines.{GivesPart}
use Rattle.git_loop.specs.Moves.{closed, gave, used}
use Rattle.git_pkt.specs.Packets.{spelling_of}
use Rattle.git_pkt.specs.Fronts.{HasFront}
use Rattle.git_pkt.specs.Machine.PacketReader.{held_of}
use Rattle.git_pkt.proofs.Written.{spells_written}
use Rattle.git_server.specs.Repository.{RepoState}
use Rattle.git_server.specs.Machine.Moved.{IsOfASession, IsTooLong, LendsPacket, ServerReaches}
use Rattle.git_server.specs.Machine.Phases.{reads_in, turn_in}
use Rattle.git_server.specs.Machine.ServerCalls.{Closes, Gives, Goes, IsAfterPull, IsClosing}
use Rattle.git_server.specs.declared.outcome.Outcome.{Outcome}
use Rattle.git_server.specs.declared.outcome.Outcome.TheVariants.{Closed, Refused}
use Rattle.git_server.specs.Machine.Server.{Running, outcome_of}
use Rattle.git_server.specs.declared.server.Phase.{Phase}
use Rattle.git_server.specs.declared.server.Phase.TheVariants.{Advertising, Between, Within, Answering, Refusing, Ended}
use Rattle.git_server.specs.declared.server.Server.{Server}
use Rattle.git_server.specs.declared.server.Turn.TheVariants.{NeedInput}
use Rattle.git_server.proofs.Outcomes.{too_long_before}

-- a phase whose turn is for input reads
pub reads_now : {A : Type 0} (phase : Phase A) → turn_in phase ≡ NeedInput → reads_in phase ≡ true
reads_now Between turn = refl
reads_now Within turn = refl
reads_now (Advertising line) turn = absurd (cc)
reads_now (Answering answer offset) turn = absurd (cc)
reads_now (Refusing fault) turn = absurd (cc)
reads_now (Ended outcome) turn = absurd (cc)

-- a session that has an outcome keeps one while packets are sent
pub stays_ended : (old now : Option Outcome) → IsAfterPull old now → IsSome old → IsSome now
stays_ended (Some outcome) now after some = subst IsSome (sym after) refl
stays_ended None now after some = absurd (cc)

pub too_long_by_pull : (old now : Option Outcome) → IsAfterPull old now → IsTooLong now → IsTooLong old
too_long_by_pull old now after (fault, is, name) = (fault, too_long_before old now fault after is name, name)

-- the end of the input is never a stream that is too long
pub close_not_too_long : (o : Option Outcome) → IsClosing o → IsTooLong o → ⊥
close_not_too_long o (inl between) (fault, is, name) = let same : Some Closed ≡ Some (Refused fault) = sym between ∙ is in cc
close_not_too_long o (inr (cut, ends, why)) (fault, is, name) = let same : Some (Refused cut) ≡ Some (Refused fault) = sym ends ∙ is in cc

module _ {R A : Type 0} (state : R → RepoState) (old new : Server R A) where
  pub gives_part : (to : ℕ) → to ≡ 0 → Gives state old new → GivesPart (ServerReaches state) LendsPacket old to new
  gives_part to first gives = record {
    bytes = spelling_of gives.packet;
    lent = (gives.packet, spells_written gives.packet gives.fits, gives.held);
    reaches = subst (λ (n : ℕ). ServerReaches state old (gave n (spelling_of gives.packet) ∷ []) new) (sym first)
        (λ s so_far over before r.
        subst (λ (l : List ℕ). Running state s (so_far ++ []) over (before ++ l) new) (sym (append-nil (spelling_of gives.packet)))
        (gives.goes s so_far over before r));
  }

  pub reaches_used : (from : ℕ) (bytes : List ℕ) → from ≡ 0 → Goes state bytes [] old new → ServerReaches state old (used from bytes ∷ []) new
  reaches_used from bytes first goes =
      subst (λ (n : ℕ). ServerReaches state old (used n bytes ∷ []) new) (sym first)
      (λ s so_far over before r.
      subst (λ (l : List ℕ). Running state s (so_far ++ l) over (before ++ []) new) (sym (append-nil bytes)) (goes s so_far over before r))

  pub reaches_closed : (from : ℕ) → from ≡ 0 → Closes state old new → ServerReaches state old (closed from ∷ []) new
  reaches_closed from first closes =
      subst (λ (n : ℕ). ServerReaches state old (closed n ∷ []) new) (sym first)
      (λ s so_far over before r.
      subst (λ (l : List ℕ). Running state s l true (before ++ []) new) (sym (append-nil so_far))
      (subst (λ (l : List ℕ). Running state s so_far true l new) (sym (append-nil before)) (closes s so_far over before r).0))

  pub closes_in_time : Closes state old new → IsOfASession state old → IsTooLong (outcome_of new) → ⊥
  closes_in_time closes h too_long = close_not_too_long (outcome_of new) (closes h.s h.used h.over h.given h.running).1 too_long

pub lent_front : {R A : Type 0} (server : Server R A) → (bytes : List ℕ) × LendsPacket server bytes → HasFront (held_of server.reader)
lent_front server (bytes, (packet, spells, starts)) = record { packet = packet; spelling = bytes; spells = spells; starts = starts }
