-- The meaning of each end of a run over a reader and a writer.
use Rattle.std.specs.Prelude.{◌≡◌, ℕ, Bool, true, false, Result, Ok, Err}
use Rattle.git_pkt.specs.declared.recorded.Recorded.{Recorded}
use Rattle.git_pkt.specs.declared.fault.RunFault.{RunFault}
use Rattle.git_pkt.specs.declared.fault.RunFault.TheVariants.{ReadFault, WriteFault, ReadLimit, Refused}
use Rattle.git_pkt.specs.Machine.Recorded.{reads_of, has_ended}

-- which of a run's streams failed, by its result: the one that it reports, or else none
abbrev pub FailsAs : {T : Type 0} → Result T RunFault → Bool → Bool → Type 0
FailsAs (Ok outcome) read_failed write_failed = (read_failed ≡ false) × (write_failed ≡ false)
FailsAs (Err ReadFault) read_failed write_failed = (read_failed ≡ true) × (write_failed ≡ false)
FailsAs (Err WriteFault) read_failed write_failed = (read_failed ≡ false) × (write_failed ≡ true)
FailsAs (Err ReadLimit) read_failed write_failed = (read_failed ≡ false) × (write_failed ≡ false)
FailsAs (Err (Refused fault)) read_failed write_failed = (read_failed ≡ false) × (write_failed ≡ false)

-- all reads that were allowed were made, but the input had not ended
pub record IsSpent {R : Type 0} (reader : Recorded R) (turns : ℕ) : Type 0 where
  pub reads : reads_of reader ≡ turns
  pub open_ended : has_ended reader ≡ false

-- what shows each fault of a run: its reader failed, its writer failed, its reads are spent. Each run defines what a refusal means.
abbrev pub IsShownBy : Type 0 → Type 0 → Type 0 → RunFault → Type 0
IsShownBy read_failed write_failed spent ReadFault = read_failed
IsShownBy read_failed write_failed spent WriteFault = write_failed
IsShownBy read_failed write_failed spent ReadLimit = spent
IsShownBy read_failed write_failed spent (Refused fault) = Unit {0}
