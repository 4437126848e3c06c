-- The fault that ends a session of a host's server: the host's own, or lack of memory if memory refused a list.
use Rattle.std.proofs.Common.{arith, ◌≡◌, ◌≢◌, ℕ, ◌-◌, Bool, true, false, List, [], ◌++◌, length, Option, Some, None, refl, sym, ap, ◌∙◌, subst, inl, inr}
use Rattle.git_pkt.specs.Splits.{Given, SpellsAll}
use Rattle.git_pkt.specs.Faults.{StopsBy as StopsAt}
use Rattle.git_pkt.specs.declared.fault.Fault.{Fault}
use Rattle.git_pkt.specs.declared.fault.Kind.{Kind}
use Rattle.git_pkt.specs.declared.fault.Kind.TheVariants.{NotOurs, UnknownRef, OutOfMemory, Truncated}
use Rattle.git_msg.specs.Asked.{Asked, fetch, ls_refs, object_info}
use Rattle.git_msg.specs.Memory.{FaultNeedsRefusal}
use Rattle.git_msg.specs.Machine.RequestStreams.{IsOne, IsRefusedAs}
use Rattle.git_msg.specs.declared.streams.RequestStream.{RequestStream}
use Rattle.git_msg.proofs.WholeRequests.{left_at_the_end}
use Rattle.git_server.specs.declared.outcome.Outcome.TheVariants.{Flush, Closed, Refused}
use Rattle.git_host.specs.HostSessions.{Facts, HostSetting, IsLacking, StopsBy, of_fetch, of_references, of_sizes}
use Rattle.git_host.specs.HostAnswers.{IsAnswering, LacksIt}
use Rattle.git_host.specs.HostServer.{HostsIn, IsAtRequest, IsFaultAfter, KeepsFault, fault_in, is_of_host, terms_of}
use Rattle.git_host.specs.declared.host_answer.HostAnswer.{HostAnswer}
use Rattle.git_host.specs.declared.host_server.HostServer.{HostServer}
use Rattle.git_host.specs.declared.host_server.Phase.{Phase}
use Rattle.git_host.specs.declared.host_server.Phase.TheVariants.{Advertising, Reading, Asked as Whole, Answering, Refusing, Ended}
use Rattle.git_host.proofs.HostBytes.{four_bytes, not_none}

pub same_fault : (o : Option Fault) → IsFaultAfter o o
same_fault None = tt
same_fault (Some fault) = refl

pub same_phase : {A : Type 0} (old new : HostServer A) → new.phase ≡ old.phase → KeepsFault old new
same_phase {A = A} old new same s used over reported given h =
    subst (λ (p : Phase A). IsFaultAfter (fault_in old.phase) (fault_in p)) (sym same) (same_fault (fault_in old.phase))

module _ {A : Type 0} (old new : Phase A) (none : fault_in old ≡ None) where
  -- no fault comes of it
  pub quiet_fault : fault_in new ≡ None → IsFaultAfter (fault_in old) (fault_in new)
  quiet_fault now = subst (λ (o : Option Fault). IsFaultAfter o (fault_in new)) (sym none) (subst (IsFaultAfter None) (sym now) tt)

  -- or one by a name of the host's
  pub host_fault : (fault : Fault) → fault_in new ≡ Some fault → is_of_host fault.kind ≡ true → IsFaultAfter (fault_in old) (fault_in new)
  host_fault fault now of = subst (λ (o : Option Fault). IsFaultAfter o (fault_in new)) (sym none) (subst (IsFaultAfter None) (sym now) of)

-- what the store lacks is refused by a name of the host's
lacking_name : (kind : Kind) (q : Asked) (f : Facts) → IsLacking kind q f → is_of_host kind ≡ true
lacking_name NotOurs q f lacks = refl
lacking_name UnknownRef q f lacks = refl
lacking_name kind (fetch q) (of_fetch a t) lacks = absurd lacks
lacking_name kind (fetch q) (of_references t) lacks = absurd lacks
lacking_name kind (fetch q) (of_sizes sizes) lacks = absurd lacks
lacking_name kind (ls_refs q) f lacks = absurd lacks
lacking_name kind (object_info q) f lacks = absurd lacks

pub lacking_fault : {A : Type 0} (s : HostSetting) (used : List ℕ) (over : Bool) (reported : List Facts) (given : List ℕ) (flush : ℕ)
    (stream : RequestStream A) (answer : HostAnswer A) (kind : Kind) → IsAtRequest s used over reported given stream flush (IsAnswering (terms_of s) answer)
    → LacksIt kind answer → is_of_host kind ≡ true
lacking_fault s used over reported given flush stream answer kind h lacks =
    lacking_name kind h.last.q h.last.f (lacks (terms_of s) h.last.q h.last.f h.last.front h.last.last).0

-- ---- want of memory

host_not_memory : (kind : Kind) → is_of_host kind ≡ true → kind ≢ OutOfMemory
host_not_memory kind of is = let other : is_of_host OutOfMemory ≡ true = subst (λ (k : Kind). is_of_host k ≡ true) is of in absurd (cc)

cut_not_memory : (kind : Kind) → kind ≡ Truncated → kind ≢ OutOfMemory
cut_not_memory kind cut is = let other : Truncated ≡ OutOfMemory = sym cut ∙ is in absurd (cc)

module _ (refuses : ℕ → Type 0) (most : ℕ) where
  -- a call that uses no bytes brings none
  pub memory_after : (was now : Option Fault) → IsFaultAfter was now → FaultNeedsRefusal refuses most was → FaultNeedsRefusal refuses most now
  memory_after (Some fault) now same h = subst (FaultNeedsRefusal refuses most) (sym same) h
  memory_after None None after h = tt
  memory_after None (Some fault) of h = λ is. absurd (host_not_memory fault.kind of is)

module _ {A : Type 0} (refuses : ℕ → Type 0) (s : HostSetting) (used : List ℕ) (reported : List Facts) (given : List ℕ) (stream : RequestStream A)
    (flush : ℕ) where
  -- nor does the end of the input
  pub memory_closed : (phase : Phase A) → HostsIn phase s used true reported given stream flush → FaultNeedsRefusal refuses s.limit (fault_in phase)
  memory_closed (Refusing fault) h = λ is. absurd (cut_not_memory fault.kind h.stops.ends.0 is)
  memory_closed (Ended (Refused fault)) (inl h) = λ is. absurd (cut_not_memory fault.kind h.stops.ends.0 is)
  memory_closed (Ended (Refused fault)) (inr h) = absurd (cc)
  memory_closed (Ended Flush) h = tt
  memory_closed (Ended Closed) h = tt
  memory_closed Advertising h = tt
  memory_closed Reading h = tt
  memory_closed (Whole request) h = tt
  memory_closed (Answering answer) h = tt

-- no bytes at all are refused for want of memory
refused_nothing : (s : HostSetting) (packets left : List Given) (rest : List ℕ) (asked : List Asked) (fault : Fault) → SpellsAll 0 [] packets rest
    → (before : List Given) × (packets ≡ before ++ left) → IsRefusedAs s.offer s.limit left rest 0 fault → fault.kind ≢ OutOfMemory
refused_nothing s packets left rest asked fault spelled (before, parts) (inl packet) is =
    let some : packets ≢ [] = subst (λ (gs : List Given). gs ≢ []) (sym (parts ∙ ap (λ (l : List Given). before ++ l) packet.whole))
    (not_none before packet.front packet.last) in
    absurd (omega (arith, four_bytes 0 [] packets rest some spelled))
refused_nothing s packets left rest asked fault spelled parts (inr (inl bytes)) is =
    let refused = subst (λ (k : Kind). StopsAt (0 - length rest) rest 0 k fault.offset) is bytes.stops in absurd refused.0
refused_nothing s packets left rest asked fault spelled parts (inr (inr cut)) is = absurd (cut_not_memory fault.kind cut.kind is)

stopped_by_nothing : (s : HostSetting) (reported : List Facts) (given : List ℕ) (fault : Fault) → StopsBy s [] false reported given (Refused fault)
    → fault.kind ≢ OutOfMemory
stopped_by_nothing s reported given fault h =
    refused_nothing s h.are_asked.packets h.left h.rest h.asked fault h.are_asked.splits.spelled
    (left_at_the_end (IsOne s.offer s.limit) h.are_asked.packets h.asked h.left h.are_asked.requests) h.ends.1

module _ {A : Type 0} (refuses : ℕ → Type 0) (s : HostSetting) (reported : List Facts) (given : List ℕ) (stream : RequestStream A) (flush : ℕ) where
  pub memory_at_first : (phase : Phase A) → HostsIn phase s [] false reported given stream flush → FaultNeedsRefusal refuses s.limit (fault_in phase)
  memory_at_first (Refusing fault) h = λ is. absurd (stopped_by_nothing s reported given fault h.stops is)
  memory_at_first (Ended (Refused fault)) (inl h) = λ is. absurd (stopped_by_nothing s reported h.before fault h.stops is)
  memory_at_first (Ended (Refused fault)) (inr h) = absurd (omega (arith, h.1.at))
  memory_at_first (Ended Flush) h = tt
  memory_at_first (Ended Closed) h = tt
  memory_at_first Advertising h = tt
  memory_at_first Reading h = tt
  memory_at_first (Whole request) h = tt
  memory_at_first (Answering answer) h = tt
