-- The length of an error's text.
use Rattle.std.proofs.Common.{ℕ, ◌^◌, ◌<◌, ◌≤◌, length, decimal, lit≤, arith}
use Rattle.std.proofs.lemmas.Fmt.{length-decimal-le}
use Rattle.git_pkt.specs.FaultNames.{kind_name}
use Rattle.git_pkt.specs.declared.fault.Kind.{Kind}
use Rattle.git_pkt.specs.declared.fault.Kind.TheVariants.{BadDigit, BadLength, TooLong, Truncated, StreamTooLong, NoBand, BadBand, BadCapability}
use Rattle.git_pkt.specs.declared.fault.Kind.TheVariants.{UnknownCommand, TwoCommands, NoCommand, NotAdvertised, BadObjectName, BadRefName, BadNumber}
use Rattle.git_pkt.specs.declared.fault.Kind.TheVariants.{DeepenConflict, NoWants, NoSize, WrongFormat, UnknownArgument, TooMuchKept}
use Rattle.git_pkt.specs.declared.fault.Kind.TheVariants.{UnexpectedPacket, RemoteError, UnknownRef, NotOurs, PackSource, NotVersion2}
use Rattle.git_pkt.specs.declared.fault.Kind.TheVariants.{UnexpectedSection, BadLine, OutOfMemory, RemoteFatal, ReadFault, WriteFault, ReadLimit}

-- no error's name is longer than UnexpectedSection
pub kind_name_fits : (kind : Kind) → length (kind_name kind) ≤ 17
kind_name_fits BadDigit = lit≤ tt
kind_name_fits BadLength = lit≤ tt
kind_name_fits TooLong = lit≤ tt
kind_name_fits Truncated = lit≤ tt
kind_name_fits StreamTooLong = lit≤ tt
kind_name_fits NoBand = lit≤ tt
kind_name_fits BadBand = lit≤ tt
kind_name_fits BadCapability = lit≤ tt
kind_name_fits UnknownCommand = lit≤ tt
kind_name_fits TwoCommands = lit≤ tt
kind_name_fits NoCommand = lit≤ tt
kind_name_fits NotAdvertised = lit≤ tt
kind_name_fits BadObjectName = lit≤ tt
kind_name_fits BadRefName = lit≤ tt
kind_name_fits BadNumber = lit≤ tt
kind_name_fits DeepenConflict = lit≤ tt
kind_name_fits NoWants = lit≤ tt
kind_name_fits NoSize = lit≤ tt
kind_name_fits WrongFormat = lit≤ tt
kind_name_fits UnknownArgument = lit≤ tt
kind_name_fits TooMuchKept = lit≤ tt
kind_name_fits UnexpectedPacket = lit≤ tt
kind_name_fits RemoteError = lit≤ tt
kind_name_fits UnknownRef = lit≤ tt
kind_name_fits NotOurs = lit≤ tt
kind_name_fits PackSource = lit≤ tt
kind_name_fits NotVersion2 = lit≤ tt
kind_name_fits UnexpectedSection = lit≤ tt
kind_name_fits BadLine = lit≤ tt
kind_name_fits OutOfMemory = lit≤ tt
kind_name_fits RemoteFatal = lit≤ tt
kind_name_fits ReadFault = lit≤ tt
kind_name_fits WriteFault = lit≤ tt
kind_name_fits ReadLimit = lit≤ tt

-- a number of 64 bits has at most twenty digits
pub decimal_fits : (n : ℕ) → n < 2 ^ 64 → length (decimal n) ≤ 20
decimal_fits n h = length-decimal-le 20 n (omega arith) (omega arith) h
