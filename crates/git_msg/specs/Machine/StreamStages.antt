-- The stage of a reader of requests from bytes.
use Rattle.std.specs.Prelude.{Bool, true, false, Option, None, Some, List}
use Rattle.git_pkt.specs.Splits.{Given}
use Rattle.git_pkt.specs.declared.fault.Fault.{Fault}
use Rattle.git_msg.specs.Machine.RequestReader.{Takes}
use Rattle.git_msg.specs.declared.reader.RequestReader.{RequestReader}
use Rattle.git_msg.specs.declared.reader.ReadGot.{ReadGot}
use Rattle.git_msg.specs.declared.reader.ReadGot.TheVariants.{More, Request, Stop, Failed}
use Rattle.git_msg.specs.declared.streams.Stage.{Stage}
use Rattle.git_msg.specs.declared.streams.Stage.TheVariants.{Between, Within, Stopped, Failed as FailedStage}

-- the fault of a stage
abbrev pub fault_in : Stage → Option Fault
fault_in (FailedStage fault) = Some fault
fault_in stage = None

-- the reader reads on
abbrev pub takes_bytes : Stage → Bool
takes_bytes Between = true
takes_bytes Within = true
takes_bytes stage = false

-- no request has begun
abbrev pub stage_is_between : Stage → Bool
stage_is_between Between = true
stage_is_between stage = false

module _ {A : Type 0} where
  -- the reader has taken some packets since the last request began
  abbrev pub HasTaken : RequestReader A → Type 0
  HasTaken r = (left : List Given) × Takes left r

  -- the stage of a reader after a packet with this result
  abbrev pub stage_brought : ReadGot A → Stage
  stage_brought More = Within
  stage_brought (Request request) = Between
  stage_brought Stop = Stopped
  stage_brought (Failed fault) = FailedStage fault
