-- Inputs and outputs of a run, by their numbers: how each call changes them.
use Rattle.std.specs.Prelude.{◌≡◌, ◌≢◌, ◌||◌, ℕ, zero, suc, ◌+◌, ◌-◌, ◌^◌, ◌≤◌, ◌<◌, min, Bool, true, false, List, [], length, take, drop}
use Rattle.std.specs.Prelude.{Option, None, Result, Ok, Err, is_err}
use Rattle.std.specs.Io.KnownBytes.{Consumes, IsAtEnd, Keeps, prepend_known}
use Rattle.git_pkt.specs.Streams.{flow, WrittenAs}
use Rattle.git_pkt.specs.declared.fault.RunFault.{RunFault}
use Rattle.git_pkt.specs.declared.recorded.Recorded.{Recorded}
use Rattle.git_pkt.specs.Machine.Recorded.{inner_of, reads_of, has_failed, has_ended, has_wasted}

-- an input: the bytes that are left of it, if known; those of them that were read already, which wait in its window; and what its reads
-- returned
pub record InputState : Type 0 where
  pub left : Option (List ℕ)
  pub window : List ℕ
  pub reads : ℕ
  pub failed : Bool
  pub ended : Bool
  pub wasted : Bool

-- no read failed, and none found the end
pub record IsOpen (input : InputState) : Type 0 where
  pub sound : input.failed ≡ false
  pub unended : input.ended ≡ false

-- if the end was reported, no known byte is left
abbrev pub EndsAtItsEnd : Bool → Option (List ℕ) → Type 0
EndsAtItsEnd ended left = ended ≡ true → IsAtEnd left

-- what a read brought into the window: bytes, or none at the end
abbrev pub Brings : Result Bool RunFault → List ℕ → Type 0
Brings (Ok true) window = 0 < length window
Brings (Ok false) window = window ≡ []
Brings (Err fault) window = window ≡ []

abbrev pub found_end : Result Bool RunFault → Bool
found_end (Ok true) = false
found_end (Ok false) = true
found_end (Err fault) = false

-- one read was made, into an empty window
pub record Fills (result : Result Bool RunFault) (old new : InputState) : Type 0 where
  pub kept : Keeps old.left new.left
  pub brings : Brings result new.window
  pub at_end : EndsAtItsEnd (found_end result) new.left
  pub counted : new.reads ≤ old.reads + 1
  pub failed : new.failed ≡ (old.failed || is_err result)
  pub ended : new.ended ≡ (old.ended || found_end result)
  pub wasted : new.wasted ≡ (old.wasted || old.ended)

-- one more read was counted, of all inputs: each counter stops at `u64::MAX`
pub record CountsOne (old new : ℕ) : Type 0 where
  pub most : new ≤ old + 1
  pub least : min (old + 1) (2 ^ 64 - 1) ≤ new

-- so many bytes of the window were used
pub record Consumed (count : ℕ) (old new : InputState) : Type 0 where
  pub left : Consumes old.left new.left (take count old.window)
  pub window : new.window ≡ drop count old.window
  pub reads : new.reads ≡ old.reads
  pub failed : new.failed ≡ old.failed
  pub ended : new.ended ≡ old.ended
  pub wasted : new.wasted ≡ old.wasted

-- nothing happened to the inputs of other numbers
abbrev pub KeepsOthers : {T : Type 0} → ℕ → (ℕ → T) → (ℕ → T) → Type 0
KeepsOthers n old new = (k : ℕ) → k ≢ n → new k ≡ old k

-- bytes were written to the output of this number, or a prefix of them if that failed
pub record Sends (broken : Bool) (to : ℕ) (bytes : List ℕ) (before after : ℕ → Option (List ℕ)) : Type 0 where
  pub written : WrittenAs broken (flow (before to) (after to)) bytes
  pub others : KeepsOthers to before after

-- ---- one reader or writer alone, of the number 0, and two readers, of the numbers 0 and 1

-- what lies in memory between two indices
abbrev pub window_of : ℕ → ℕ → List ℕ → List ℕ
window_of start end memory = take (end - start) (drop start memory)

-- a reader, and the bytes that were read already
abbrev pub recorded_input : {R : Type 0} → (R → Option (List ℕ)) → Recorded R → List ℕ → InputState
recorded_input remaining reader window = record {
  left = prepend_known window (remaining (inner_of reader));
  window = window;
  reads = reads_of reader;
  failed = has_failed reader;
  ended = has_ended reader;
  wasted = has_wasted reader;
}

-- what is at a number that no input has
abbrev pub no_input : InputState
no_input = record { left = None; window = []; reads = 0; failed = false; ended = false; wasted = false }

abbrev pub one_input : InputState → ℕ → InputState
one_input input zero = input
one_input input (suc k) = no_input

abbrev pub two_inputs : InputState → InputState → ℕ → InputState
two_inputs first second zero = first
two_inputs first second (suc zero) = second
two_inputs first second (suc (suc k)) = no_input

abbrev pub one_output : Option (List ℕ) → ℕ → Option (List ℕ)
one_output contents zero = contents
one_output contents (suc k) = None
