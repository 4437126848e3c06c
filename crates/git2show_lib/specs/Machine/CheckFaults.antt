-- The faults of a check, and which of its streams is at fault.
use Rattle.std.specs.Prelude.{◌≡◌, ◌⊎◌, ℕ, ◌+◌, Bool, false, Result, Ok, Err}
use Rattle.git_pkt.specs.declared.recorded.Recorded.{Recorded}
use Rattle.git_pkt.specs.Machine.Recorded.{reads_of, has_failed, has_ended}
use Rattle.git_pkt.specs.declared.fault.RunFault.{RunFault}
use Rattle.git_pkt.specs.declared.fault.RunFault.TheVariants.{ReadFault as RunReadFault, WriteFault as RunWriteFault, ReadLimit as RunReadLimit, Refused}
use Rattle.git2show_lib.specs.declared.checking.CheckFault.{CheckFault}
use Rattle.git2show_lib.specs.declared.checking.CheckFault.TheVariants.{Requests, Responses, ReadFault, WriteFault, ReadLimit}

-- the same fault, of whichever stream
abbrev pub run_fault : CheckFault → RunFault
run_fault (Requests fault) = Refused fault
run_fault (Responses fault) = Refused fault
run_fault ReadFault = RunReadFault
run_fault WriteFault = RunWriteFault
run_fault ReadLimit = RunReadLimit

-- the same answer, of whichever stream
abbrev pub run_result : {T : Type 0} → Result T CheckFault → Result T RunFault
run_result (Ok done) = Ok done
run_result (Err fault) = Err (run_fault fault)

-- the reads of both streams are spent, and one of them has not ended
abbrev pub AreSpent : {Q R : Type 0} → Recorded Q → Recorded R → ℕ → Type 0
AreSpent requests responses turns =
    (reads_of requests + reads_of responses ≡ turns) × ((has_ended requests ≡ false) ⊎ (has_ended responses ≡ false))

-- how a stream was left: whether it ended, and whether a read of it failed
pub record Standing : Type 0 where
  pub ended : Bool
  pub failed : Bool

abbrev pub standing_of : {R : Type 0} → Recorded R → Standing
standing_of reader = record { ended = has_ended reader; failed = has_failed reader }
