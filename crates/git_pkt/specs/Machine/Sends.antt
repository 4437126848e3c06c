-- A call that sends bytes to a writer.
use Rattle.std.specs.Prelude.{◌≡◌, ◌||◌, ◌++◌, ℕ, List, Option, Result, OnOk, OnErr, IfErr, is_err}
use Rattle.std.specs.Io.KnownBytes.{Appends}
use Rattle.git_pkt.specs.declared.fault.RunFault.{RunFault}
use Rattle.git_pkt.specs.declared.fault.RunFault.TheVariants.{WriteFault}
use Rattle.git_pkt.specs.declared.recorded.Recorded.{Recorded}
use Rattle.git_pkt.specs.Machine.Recorded.{inner_of, has_failed, ReadsNothing}
use Rattle.git_pkt.specs.Streams.{AppendsFront}

-- The bytes were appended to what the writer holds. If that failed, a prefix of them was, and the fault is `WriteFault`. The
-- writer has failed if it had before, or if this call failed; nothing was read.
pub record Sends {W T : Type 0} (contents : W → Option (List ℕ)) (old : Recorded W) (bytes : List ℕ) (result : Result T RunFault)
    (new : Recorded W) : Type 0 where
  pub ok : OnOk result (Appends (contents (inner_of old)) (contents (inner_of new)) bytes)
  pub err : OnErr result (AppendsFront (contents (inner_of old)) (contents (inner_of new)) bytes)
  pub fault : IfErr result (λ fault. fault ≡ WriteFault)
  pub failed : has_failed new ≡ (has_failed old || is_err result)
  pub reads : ReadsNothing old new

-- The bytes joined those that waited for the writer: some of all these were sent, and the others wait.
pub record Puts {W T : Type 0} (contents : W → Option (List ℕ)) (old : Recorded W) (before bytes : List ℕ) (result : Result T RunFault) (new : Recorded W)
    (after : List ℕ) : Type 0 where
  pub sent : List ℕ
  pub rest : List ℕ
  pub all : before ++ bytes ≡ sent ++ rest
  pub sends : Sends contents old sent result new
  pub waits : OnOk result (after ≡ rest)
