-- Texts of the library's own, each with a NUL at its end.
use Rattle.std.specs.Prelude.{◌≡◌, ℕ, List, [], ◌∷◌, ◌++◌, Option, Some, None, codes}
use Rattle.git_pkt.specs.FaultNames.{kind_name}
use Rattle.git_pkt.specs.declared.fault.Kind.{Kind}
use Rattle.gitwire.specs.FaultAnswers.{IsKindOf}

-- the version of the library
abbrev pub version_text : List ℕ
version_text = codes "0.3.0" ++ 0 ∷ []

-- the meaning of an error, and what to look at
abbrev pub kind_sentence : Kind → List ℕ
kind_sentence Kind.BadDigit =
    codes "a byte of a packet's length is no hexadecimal digit: look at the byte at the offset, and whether the peer sends packets at all"
kind_sentence Kind.BadLength = codes "the length of a packet is 0003, which no packet has: look at the packet at the offset"
kind_sentence Kind.TooLong = codes "a packet, or a payload that is to be written, is longer than a packet can be, which is 65,520 bytes: look at its length"
kind_sentence Kind.Truncated = codes "the input ended inside a packet, or before all that was expected had come: look at why the peer or the connection ended"
kind_sentence Kind.StreamTooLong = codes "the stream has more than 9,223,372,036,854,775,807 bytes: begin a new one"
kind_sentence Kind.NoBand = codes "a packet of the packfile section has no byte that names its side band: look at the packet at the offset"
kind_sentence Kind.BadBand = codes "a packet of the packfile section is on a side band other than 1, 2 and 3: look at its first byte after the length"
kind_sentence Kind.BadCapability = codes "a line is no capability, which is a key, or a key, '=' and a value: look at the packet at the offset"
kind_sentence Kind.UnknownCommand = codes "the request has a command other than ls-refs, fetch and object-info: look at its line 'command='"
kind_sentence Kind.TwoCommands = codes "the request has a second line 'command=': look at the packet at the offset"
kind_sentence Kind.NoCommand = codes "the request has no line 'command=': look at the packets before the offset"
kind_sentence Kind.NotAdvertised =
    codes "a command, a capability or an argument was used that the server did not advertise: compare the request with the advertisement"
kind_sentence Kind.BadObjectName = codes "a text is no object name of the object format, 40 digits for SHA-1 and 64 for SHA-256: look at the line"
kind_sentence Kind.BadRefName = codes "a text is no reference name, by the rules of git check-ref-format: look at the line"
kind_sentence Kind.BadNumber = codes "a text is no decimal number, or one out of its range: look at the line"
kind_sentence Kind.DeepenConflict = codes "the request has 'deepen' beside 'deepen-since' or 'deepen-not': leave one of them out"
kind_sentence Kind.NoWants = codes "the fetch has neither 'want' nor 'want-ref', and is no negotiation alone: add what it wants"
kind_sentence Kind.NoSize = codes "the object-info request has no 'size': add it"
kind_sentence Kind.WrongFormat = codes "the object format is not the one of this side: choose the format that the peer has"
kind_sentence Kind.UnknownArgument = codes "the command of the request has no such argument: look at the line"
kind_sentence Kind.TooMuchKept = codes "the argument lines of the request have more bytes than the limit allows: raise the limit, or refuse such requests"
kind_sentence Kind.UnexpectedPacket =
    codes "a packet of this kind may not come here, as a flush in a section or bytes after the end: look at the packet at the offset"
kind_sentence Kind.RemoteError = codes "the peer sent an error packet: its message says why"
kind_sentence Kind.UnknownRef = codes "a 'want-ref' names a reference that the repository does not have: list the references again"
kind_sentence Kind.NotOurs = codes "a 'want' names an object that the repository does not have, or the host refused the request: list the references again"
kind_sentence Kind.PackSource = codes "the pack could not be read or made: look at the host's store"
kind_sentence Kind.NotVersion2 = codes "the server does not speak version 2 of the protocol: look at how it was asked for, as by GIT_PROTOCOL=version=2"
kind_sentence Kind.UnexpectedSection = codes "a section of the response is unknown, comes twice, or is out of order: look at its header at the offset"
kind_sentence Kind.BadLine = codes "a line is none that may stand there, or has a wrong length: look at the packet at the offset"
kind_sentence Kind.OutOfMemory = codes "there was no memory to keep an argument or a reference: lower the limit, or serve fewer at a time"
kind_sentence Kind.RemoteFatal = codes "the server ended the pack with an error on side band 3: its message says why"
kind_sentence Kind.ReadFault = codes "a read of the input failed: look at what the system reported"
kind_sentence Kind.WriteFault = codes "a write of the output failed: look at what the system reported"
kind_sentence Kind.ReadLimit = codes "all reads that were allowed were made before the input ended: allow more"

-- the name of an error, and its sentence; nothing and nothing if there is none
abbrev pub words_of : Option Kind → List ℕ
words_of None = 0 ∷ 0 ∷ []
words_of (Some kind) = kind_name kind ++ 0 ∷ kind_sentence kind ++ 0 ∷ []

-- the text has the words of the error with this number
abbrev pub HasWords : ℕ → List ℕ → Type 0
HasWords number text = (kind : Option Kind) × IsKindOf number kind × (text ≡ words_of kind)
