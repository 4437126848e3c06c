-- The names and numbers of the refusals.
use Rattle.std.specs.Prelude.{ℕ, List, ◌++◌, codes, decimal}
use Rattle.git_pkt.specs.declared.fault.Fault.{Fault}
use Rattle.git_pkt.specs.declared.fault.RunFault.{RunFault}
use Rattle.git_pkt.specs.declared.fault.RunFault.TheVariants.{ReadFault as ReaderFailed, WriteFault as WriterFailed, ReadLimit as ReadsSpent, Refused}
use Rattle.git_pkt.specs.declared.fault.Kind.{Kind}
use Rattle.git_pkt.specs.declared.fault.Kind.TheVariants.{BadDigit, BadLength, TooLong, Truncated, StreamTooLong, NoBand, BadBand, BadCapability}
use Rattle.git_pkt.specs.declared.fault.Kind.TheVariants.{UnknownCommand, TwoCommands, NoCommand, NotAdvertised, BadObjectName, BadRefName, BadNumber}
use Rattle.git_pkt.specs.declared.fault.Kind.TheVariants.{DeepenConflict, NoWants, NoSize, WrongFormat, UnknownArgument, TooMuchKept}
use Rattle.git_pkt.specs.declared.fault.Kind.TheVariants.{UnexpectedPacket, RemoteError, UnknownRef, NotOurs, PackSource, NotVersion2}
use Rattle.git_pkt.specs.declared.fault.Kind.TheVariants.{UnexpectedSection, BadLine, OutOfMemory, RemoteFatal, ReadFault, WriteFault, ReadLimit}

-- the name that users see
abbrev pub kind_name : Kind → List ℕ
kind_name BadDigit = codes "BadDigit"
kind_name BadLength = codes "BadLength"
kind_name TooLong = codes "TooLong"
kind_name Truncated = codes "Truncated"
kind_name StreamTooLong = codes "StreamTooLong"
kind_name NoBand = codes "NoBand"
kind_name BadBand = codes "BadBand"
kind_name BadCapability = codes "BadCapability"
kind_name UnknownCommand = codes "UnknownCommand"
kind_name TwoCommands = codes "TwoCommands"
kind_name NoCommand = codes "NoCommand"
kind_name NotAdvertised = codes "NotAdvertised"
kind_name BadObjectName = codes "BadObjectName"
kind_name BadRefName = codes "BadRefName"
kind_name BadNumber = codes "BadNumber"
kind_name DeepenConflict = codes "DeepenConflict"
kind_name NoWants = codes "NoWants"
kind_name NoSize = codes "NoSize"
kind_name WrongFormat = codes "WrongFormat"
kind_name UnknownArgument = codes "UnknownArgument"
kind_name TooMuchKept = codes "TooMuchKept"
kind_name UnexpectedPacket = codes "UnexpectedPacket"
kind_name RemoteError = codes "RemoteError"
kind_name UnknownRef = codes "UnknownRef"
kind_name NotOurs = codes "NotOurs"
kind_name PackSource = codes "PackSource"
kind_name NotVersion2 = codes "NotVersion2"
kind_name UnexpectedSection = codes "UnexpectedSection"
kind_name BadLine = codes "BadLine"
kind_name OutOfMemory = codes "OutOfMemory"
kind_name RemoteFatal = codes "RemoteFatal"
kind_name ReadFault = codes "ReadFault"
kind_name WriteFault = codes "WriteFault"
kind_name ReadLimit = codes "ReadLimit"

-- the number, from 1 to 34
abbrev pub kind_number : Kind → ℕ
kind_number BadDigit = 1
kind_number BadLength = 2
kind_number TooLong = 3
kind_number Truncated = 4
kind_number StreamTooLong = 5
kind_number NoBand = 6
kind_number BadBand = 7
kind_number BadCapability = 8
kind_number UnknownCommand = 9
kind_number TwoCommands = 10
kind_number NoCommand = 11
kind_number NotAdvertised = 12
kind_number BadObjectName = 13
kind_number BadRefName = 14
kind_number BadNumber = 15
kind_number DeepenConflict = 16
kind_number NoWants = 17
kind_number NoSize = 18
kind_number WrongFormat = 19
kind_number UnknownArgument = 20
kind_number TooMuchKept = 21
kind_number UnexpectedPacket = 22
kind_number RemoteError = 23
kind_number UnknownRef = 24
kind_number NotOurs = 25
kind_number PackSource = 26
kind_number NotVersion2 = 27
kind_number UnexpectedSection = 28
kind_number BadLine = 29
kind_number OutOfMemory = 30
kind_number RemoteFatal = 31
kind_number ReadFault = 32
kind_number WriteFault = 33
kind_number ReadLimit = 34

-- the text of a fault for users: its name and its offset
abbrev pub fault_text : Fault → List ℕ
fault_text fault = kind_name fault.kind ++ codes " at " ++ decimal fault.offset

-- the text for users if a run ended early
abbrev pub run_fault_text : RunFault → List ℕ
run_fault_text ReaderFailed = codes "ReadFault"
run_fault_text WriterFailed = codes "WriteFault"
run_fault_text ReadsSpent = codes "ReadLimit"
run_fault_text (Refused fault) = fault_text fault
