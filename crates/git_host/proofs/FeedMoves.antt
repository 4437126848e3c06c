-- A host's server that reads on uses bytes, and is refused for want of memory only where memory refused a list.
use Rattle.std.proofs.Common.{arith, ◌≡◌, ℕ, ◌<◌, ◌⊎◌, true, List, length, Some, IsSome, refl, sym, ◌∙◌, ap, subst, inl, inr}
use Rattle.git_pkt.specs.declared.fault.Fault.{Fault}
use Rattle.git_pkt.specs.declared.fault.Kind.{Kind}
use Rattle.git_pkt.specs.declared.fault.Kind.TheVariants.{RemoteError}
use Rattle.git_msg.specs.Memory.{FaultNeedsRefusal}
use Rattle.git_msg.specs.Machine.RequestStreams.{Feeds, Leaves, fault_of as stream_fault, limit_of, wants_input}
use Rattle.git_msg.specs.Machine.StreamStages.{fault_in as stage_fault}
use Rattle.git_msg.specs.declared.reader.ReadGot.{ReadGot}
use Rattle.git_msg.specs.declared.reader.ReadGot.TheVariants.{More, Request, Stop, Failed}
use Rattle.git_msg.specs.declared.streams.ReadRequest.{ReadRequest}
use Rattle.git_msg.specs.declared.streams.RequestStream.{RequestStream}
use Rattle.git_msg.proofs.StreamSteps.{reading}
use Rattle.git_host.specs.HostServer.{fault_in, refused_by}
use Rattle.git_host.specs.declared.host_server.Phase.{Phase}

-- the phase that a fault of the input leads to has it
refused_fault : (A : Type 0) (kind : Kind) (fault : Fault) → fault_in {A = A} (refused_by kind fault) ≡ Some fault
refused_fault A RemoteError fault = refl
refused_fault A kind fault = refl

pub some_fault : (A : Type 0) (phase : Phase A) (fault : Fault) → phase ≡ refused_by fault.kind fault → IsSome (fault_in phase)
some_fault A phase fault is = subst IsSome (sym (ap fault_in is ∙ refused_fault A fault.kind fault)) refl

module _ {A : Type 0} (old new : RequestStream A) (chunk : List ℕ) (read : ReadRequest A)
    (feeds : Feeds old chunk read new) (wants : wants_input old ≡ true) where
  left_by : (got : ReadGot A) → read.got ≡ got → Leaves got read.used chunk old new
  left_by got is = subst (λ (o : ReadGot A). Leaves o read.used chunk old new) is feeds.leaves

  -- what brings no fault uses a byte
  pub some_used : (got : ReadGot A) → read.got ≡ got → 0 < length chunk → 0 < read.used ⊎ ((fault : Fault) × (got ≡ Failed fault))
  some_used More is some = inl (omega (arith, (left_by More is wants).0, some))
  some_used (Request request) is some = inl (left_by (Request request) is).0
  some_used Stop is some = inl (left_by Stop is).0
  some_used (Failed fault) is some = inr (fault, refl)

  -- a fault that is brought is of the stream
  pub needed_by : (refuses : ℕ → Type 0) (most : ℕ) (phase : Phase A) (fault : Fault) → read.got ≡ Failed fault → phase ≡ refused_by fault.kind fault
      → limit_of old ≡ most
      → (FaultNeedsRefusal refuses (limit_of old) (stream_fault old) → FaultNeedsRefusal refuses (limit_of old) (stream_fault new))
      → FaultNeedsRefusal refuses most (fault_in phase)
  needed_by refuses most phase fault is phase_is limit keeps =
      let none = reading (λ stage. FaultNeedsRefusal refuses (limit_of old) (stage_fault stage)) tt tt old.stage wants in
      let brought = subst (FaultNeedsRefusal refuses (limit_of old)) (left_by (Failed fault) is) (keeps none) in
      subst (FaultNeedsRefusal refuses most) (sym (ap fault_in phase_is ∙ refused_fault A fault.kind fault))
      (subst (λ (n : ℕ). FaultNeedsRefusal refuses n (Some fault)) limit brought)
