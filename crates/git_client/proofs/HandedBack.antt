-- The client that a run hands back, for each step that may fail.
use Rattle.std.proofs.Common.{◌≡◌, ◌∙◌, ℕ, Bool, true, List, Result, Ok, Err, IfErr, IsErrAnd, inl, inr, sym, ap, subst}
use Rattle.std.proofs.lemmas.Result.{err_from_is_err_and}
use Rattle.git_pkt.specs.Streams.{Flow}
use Rattle.git_pkt.specs.declared.fault.RunFault.{RunFault}
use Rattle.git_pkt.specs.declared.fault.RunFault.TheVariants.{ReadFault, WriteFault, ReadLimit, Refused}
use Rattle.git_msg.specs.declared.requests.Request.{Request}
use Rattle.git_client.specs.Machine.Client.{can_ask}
use Rattle.git_client.specs.Machine.RunSteps.{AsksTo}
use Rattle.git_client.specs.Machine.Messages.{ReceivesMessage}
use Rattle.git_client.specs.Machine.Runs.{IsHandedBack}
use Rattle.git_client.specs.declared.client.Client.{Client}

module _ {A : Type 0} where
  -- what `?` returns is the error that occurred
  pub back_at : (result : Result (Unit {0}) RunFault) (fault : RunFault) (client : Client A) → IsErrAnd result (λ e. e ≡ fault)
      → IsHandedBack (Err fault) client → IsHandedBack result client
  back_at result fault client met back =
      let (e, is, same) = err_from_is_err_and result met in
      subst (λ (r : Result (Unit {0}) RunFault). IsHandedBack r client) (sym (is ∙ ap Err same)) back

  -- a write failed
  pub back_unwritten : (fault : RunFault) (client : Client A) → fault ≡ WriteFault → IsHandedBack (Err fault) client
  back_unwritten fault client named = subst (λ (f : RunFault). IsHandedBack (Err f) client) (sym named) tt

  -- only a write may still fail
  pub back_written : (result : Result (Unit {0}) RunFault) (client : Client A) → IfErr result (λ fault. fault ≡ WriteFault) → IsHandedBack result client
  back_written (Ok done) client named = tt
  back_written (Err fault) client named = back_unwritten fault client named

  -- a response was not received to its end
  pub back_from_receiving : (fault : RunFault) (ended : Bool) (old new : Client A) (waiting unused : List ℕ) (reader out packs progress : Flow)
      → ReceivesMessage (Err fault) ended old new waiting unused reader out packs progress → IsHandedBack (Err fault) new
  back_from_receiving ReadFault ended old new waiting unused reader out packs progress step = step.expected
  back_from_receiving ReadLimit ended old new waiting unused reader out packs progress step = step.expected
  back_from_receiving WriteFault ended old new waiting unused reader out packs progress step = tt
  back_from_receiving (Refused fault) ended old new waiting unused reader out packs progress step = inl step.announced

  -- a request was not asked
  pub back_from_asking : (fault : RunFault) (old new : Client A) (request : Request A) (writer out : Flow) → can_ask old ≡ true
      → AsksTo (Err fault) old new request writer out → IsHandedBack (Err fault) new
  back_from_asking ReadFault old new request writer out ready asks = absurd asks
  back_from_asking ReadLimit old new request writer out ready asks = absurd asks
  back_from_asking WriteFault old new request writer out ready asks = tt
  back_from_asking (Refused fault) old new request writer out ready asks = inr (ap can_ask asks.stays ∙ ready)
