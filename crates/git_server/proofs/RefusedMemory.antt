-- Sessions that end for want of memory.
use Rattle.std.proofs.Common.{arith, ◌≡◌, ◌≢◌, ℕ, Bool, false, true, List, [], ◌∷◌, ◌++◌, ◌-◌, length, Option, Some, None, refl, sym, ◌∙◌, ap, subst, inl, inr}
use Rattle.std.proofs.Common.{length-append}
use Rattle.git_pkt.specs.Faults.{StopsBy}
use Rattle.git_pkt.specs.Splits.{Given, SpellsAll}
use Rattle.git_pkt.specs.declared.fault.Fault.{Fault}
use Rattle.git_pkt.specs.declared.fault.Kind.{Kind}
use Rattle.git_pkt.specs.declared.fault.Kind.TheVariants.{OutOfMemory, PackSource, Truncated}
use Rattle.git_msg.specs.Asked.{Asked}
use Rattle.git_msg.specs.Machine.RequestReader.{GotNeedsRefusal, limit_in}
use Rattle.git_msg.specs.Memory.{FaultNeedsRefusal, NeedsRefusal}
use Rattle.git_msg.specs.WholeRequests.{AreRequests}
use Rattle.git_server.specs.Repository.{RepoState}
use Rattle.git_server.specs.Sessions.{IsRefused, Setting}
use Rattle.git_server.specs.Machine.Phases.{outcome_in, phase_after, refusal_in, refused_by}
use Rattle.git_server.specs.Machine.Server.{Running, outcome_of, wants_input}
use Rattle.git_server.specs.Machine.ServerCalls.{EndsByRefusal, IsAfterPull, IsClosing}
use Rattle.git_server.specs.declared.outcome.Outcome.{Outcome}
use Rattle.git_server.specs.declared.outcome.Outcome.TheVariants.{Closed, Flush, Refused}
use Rattle.git_server.specs.declared.server.Phase.{Phase}
use Rattle.git_server.specs.declared.server.Server.{Server}
use Rattle.git_msg.specs.declared.reader.ReadGot.{ReadGot}
use Rattle.git_msg.specs.declared.reader.ReadGot.TheVariants.{Failed, More, Request, Stop}
use Rattle.git_msg.proofs.StreamSteps.{stopped_by}
use Rattle.git_pkt.specs.Machine.PacketReader.{ReadsOn, fault_of}
use Rattle.git_pkt.specs.declared.reader.PacketReader.{PacketReader}
use Rattle.git_server.proofs.Going.{goes_on, no_outcome, refused_outcome_by}
use Rattle.git_server.proofs.SessionLaws.{ending}

not_pack : PackSource ≡ OutOfMemory → ⊥
not_pack e = cc

not_truncated : Truncated ≡ OutOfMemory → ⊥
not_truncated e = cc

-- ---- calls that bring no want of memory

module _ (refuses : ℕ → Type 0) (most : ℕ) where
  abbrev pub Explained : Option Outcome → Type 0
  Explained o = FaultNeedsRefusal refuses most (refusal_in o)

  other_name : (o : Option Outcome) (fault : Fault) → o ≡ Some (Refused fault) → fault.kind ≢ OutOfMemory → Explained o
  other_name o fault is other = subst Explained (sym is) (λ name. absurd (other name))

  pub memory_after_pull : (was now : Option Outcome) → IsAfterPull was now → Explained was → Explained now
  memory_after_pull (Some outcome) now same h = subst Explained (sym same) h
  memory_after_pull None now (inl none) h = subst Explained (sym none) tt
  memory_after_pull None now (inr (fault, is, name)) h = other_name now fault is (λ other. not_pack (sym name ∙ other))

  pub memory_after_close : (now : Option Outcome) → IsClosing now → Explained now
  memory_after_close now (inl closed) = subst Explained (sym closed) tt
  memory_after_close now (inr (fault, is, name)) = other_name now fault is (λ other. not_truncated (sym name ∙ other))

-- ---- bytes that bring some

-- a phase that a fault leads to
after_fault : (A : Type 0) (refuses : ℕ → Type 0) (most : ℕ) (phase : Phase A) (fault : Fault) → phase ≡ refused_by fault.kind fault
    → NeedsRefusal refuses most fault.kind → Explained refuses most (outcome_in phase)
after_fault A refuses most phase fault is h =
    subst (λ (o : Option Outcome). FaultNeedsRefusal refuses most (refusal_in o)) (sym (ap outcome_in is ∙ refused_outcome_by A fault.kind fault)) h

-- what a packet brought
pub after_packet : (A : Type 0) (refuses : ℕ → Type 0) (most offset : ℕ) (phase : Phase A) (got : ReadGot A) → phase ≡ phase_after offset got
    → GotNeedsRefusal refuses most got → Explained refuses most (outcome_in phase)
after_packet A refuses most offset phase More is h = subst (λ (p : Phase A). Explained refuses most (outcome_in p)) (sym is) tt
after_packet A refuses most offset phase (Request request) is h = subst (λ (p : Phase A). Explained refuses most (outcome_in p)) (sym is) tt
after_packet A refuses most offset phase Stop is h = subst (λ (p : Phase A). Explained refuses most (outcome_in p)) (sym is) tt
after_packet A refuses most offset phase (Failed fault) is h = after_fault A refuses most phase fault is h

-- bytes that are no packet are not refused for want of memory
of_bytes : (p : ℕ) (rest : List ℕ) (end : ℕ) (kind : Kind) (offset : ℕ) → StopsBy p rest end kind offset → kind ≢ OutOfMemory
of_bytes p rest end kind offset stops is =
    let refused = subst (λ (k : Kind). StopsBy p rest end k offset) is stops in absurd refused.0

module _ {R A : Type 0} (state : R → RepoState) (refuses : ℕ → Type 0) (old : Server R A) (wants : wants_input old ≡ true) (phase : Phase A) where
  -- a phase that the session may come to
  abbrev pub MayFollow : Type 0
  MayFollow =
      (s : Setting) (so_far : List ℕ) (over : Bool) (before : List ℕ) → Running state s so_far over before old
      → EndsByRefusal refuses s.limit old → Explained refuses s.limit (outcome_in phase)

  pub memory_after_packet : (offset : ℕ) (got : ReadGot A) → GotNeedsRefusal refuses (limit_in old.requests) got → phase ≡ phase_after offset got → MayFollow
  memory_after_packet offset got h is s so_far over before r ends =
      after_packet A refuses s.limit offset phase got is (subst (λ (most : ℕ). GotNeedsRefusal refuses most got) r.limit h)

  pub memory_after_bytes : (u : List ℕ) (reader : PacketReader) (fault : Fault) → ReadsOn old.reader u [] reader → fault_of reader ≡ Some fault
      → phase ≡ refused_by fault.kind fault → MayFollow
  memory_after_bytes u reader fault reads announced is s so_far over before r ends =
      let (not_over, h) = goes_on state old s so_far over before (no_outcome old.phase wants) r in
      let (rest, later) = reads 0 so_far h.packets h.rest h.reads in
      let stops = stopped_by reader (so_far ++ u) (h.packets ++ []) rest fault announced later in
      after_fault A refuses s.limit phase fault is (λ name. absurd (of_bytes _ rest _ fault.kind fault.offset stops name))

-- ---- before the first byte

-- no bytes are no packet
no_packets : (p : ℕ) (packets : List Given) (rest : List ℕ) → SpellsAll p [] packets rest → packets ≡ []
no_packets p [] rest h = refl
no_packets p (g ∷ gs) rest (s, more, whole, at, spells, others) =
    absurd (omega (arith, spells.digits.four, ap length whole, length-append s more))

behind_nothing : {X : Type 0} (front more : List X) → front ++ more ≡ [] → more ≡ []
behind_nothing [] more e = e
behind_nothing (x ∷ front) more e = absurd (cc)

some_left : (left : List Given) (g : Given) → left ++ g ∷ [] ≢ []
some_left [] g e = cc
some_left (x ∷ left) g e = cc

nothing_left : (IsOne : List Given → Asked → Type 0) (packets : List Given) (asked : List Asked) (left : List Given) → packets ≡ []
    → AreRequests IsOne packets asked left → left ≡ []
nothing_left IsOne packets [] left none is = sym is ∙ none
nothing_left IsOne packets (q ∷ qs) left none (front, more, whole, one, others) =
    nothing_left IsOne more qs left (behind_nothing front more (sym whole ∙ none)) others

-- so none of them is refused
not_by_nothing : (s : Setting) (over : Bool) (left : List Given) (rest : List ℕ) (end : ℕ) (fault : Fault) → left ≡ [] → fault.kind ≡ OutOfMemory
    → IsRefused s over left rest end fault → ⊥
not_by_nothing s over left rest end fault none is (inl (inl packet)) = some_left packet.front packet.last (sym packet.whole ∙ none)
not_by_nothing s over left rest end fault none is (inl (inr (inl byte))) =
    let stops = subst (λ (k : Kind). StopsBy (end - length rest) rest end k fault.offset) is byte.stops in absurd stops.0
not_by_nothing s over left rest end fault none is (inl (inr (inr short))) = not_truncated (sym short.name ∙ is)
not_by_nothing s over left rest end fault none is (inr lost) = not_pack (sym lost.name ∙ is)

module _ {R A : Type 0} (state : R → RepoState) (refuses : ℕ → Type 0) (s : Setting) (server : Server R A) (r : Running state s [] false [] server) where
  explained_at : (o : Option Outcome) → outcome_of server ≡ o → FaultNeedsRefusal refuses s.limit (refusal_in o)
  explained_at None is = tt
  explained_at (Some Flush) is = tt
  explained_at (Some Closed) is = tt
  explained_at (Some (Refused fault)) is = λ name.
      let (unsent, h) = ending state server s [] false [] r (Refused fault) is in
      let none = nothing_left _ h.stream.packets h.asked h.left (no_packets 0 h.stream.packets h.rest h.stream.splits.spelled) h.stream.requests in
      absurd (not_by_nothing s false h.left h.rest _ fault none name h.ends)

  pub explained_at_first : EndsByRefusal refuses s.limit server
  explained_at_first = explained_at (outcome_of server) refl
