-- The line with which the program reports a fault.
use Rattle.std.specs.Prelude.{ℕ, List, ◌++◌, codes, decimal}
use Rattle.git_pkt.specs.FaultNames.{fault_text, run_fault_text}
use Rattle.git2show_lib.specs.declared.reports.ProgramFault.{ProgramFault}
use Rattle.git2show_lib.specs.declared.reports.ProgramFault.TheVariants.{Run, Check, Repo, Script, File, OutOfMemory}
use Rattle.git2show_lib.specs.declared.checking.CheckFault.{CheckFault}
use Rattle.git2show_lib.specs.declared.checking.CheckFault.TheVariants.{Requests, Responses, ReadFault, WriteFault, ReadLimit}

-- a fault of a check, after the stream that it is in
abbrev pub check_fault_text : CheckFault → List ℕ
check_fault_text (Requests fault) = codes "requests: " ++ fault_text fault
check_fault_text (Responses fault) = codes "responses: " ++ fault_text fault
check_fault_text ReadFault = codes "ReadFault"
check_fault_text WriteFault = codes "WriteFault"
check_fault_text ReadLimit = codes "ReadLimit"

abbrev pub program_fault_text : ProgramFault → List ℕ
program_fault_text (Run fault) = run_fault_text fault
program_fault_text (Check fault) = check_fault_text fault
program_fault_text (Repo line) = codes "BadRepo at " ++ decimal line
program_fault_text (Script line) = codes "BadScript at " ++ decimal line
program_fault_text File = codes "File"
program_fault_text OutOfMemory = codes "OutOfMemory"

abbrev pub fault_line : ProgramFault → List ℕ
fault_line fault = codes "git2show: " ++ program_fault_text fault ++ codes "\n"
