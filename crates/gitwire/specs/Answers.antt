-- What is reported to C for a call.
use Rattle.std.specs.Prelude.{ℕ, Bool, true, false}
use Rattle.git_pkt.specs.FaultNames.{kind_number}
use Rattle.git_pkt.specs.declared.fault.Fault.{Fault}
use Rattle.git_client.specs.declared.event_parts.EventKind.{EventKind}
use Rattle.git_server.specs.declared.outcome.Outcome.{Outcome}
use Rattle.gitwire.specs.declared.answer.GitwireAnswer.{GitwireAnswer}
use Rattle.gitwire.specs.declared.answer.What.{What}
use Rattle.gitwire.specs.declared.answer.What.TheVariants.{Done, More, Failed, NoRequest, BufferTooSmall, NotNow, OutOfMemory, BadValue, Nothing}
use Rattle.gitwire.specs.declared.answer.What.TheVariants.{Payload, Flush, Delim, ResponseEnd, Request, Stop, Packet, NeedInput, EndedByFlush}
use Rattle.gitwire.specs.declared.answer.What.TheVariants.{EndedByClose, CanAsk, Finished, Event}
use Rattle.gitwire.specs.declared.answer.What.TheVariants.{Asked, NeedWant, NeedWantRef, NeedHave, NeedReady, NeedBoundary, NeedPack, NeedReference, NeedSize}
use Rattle.gitwire.specs.declared.answer.What.TheVariants.{OutOfOrder, NotShallow, Lines, NeedRequests, NeedResponses, Checked, FailedRequests, FailedResponses}

-- its number in C
abbrev pub what_number : What → ℕ
what_number Done = 0
what_number More = 1
what_number Failed = 2
what_number NoRequest = 3
what_number BufferTooSmall = 4
what_number NotNow = 5
what_number OutOfMemory = 6
what_number BadValue = 7
what_number Nothing = 8
what_number Payload = 9
what_number Flush = 10
what_number Delim = 11
what_number ResponseEnd = 12
what_number Request = 13
what_number Stop = 14
what_number Packet = 15
what_number NeedInput = 16
what_number EndedByFlush = 17
what_number EndedByClose = 18
what_number CanAsk = 19
what_number Finished = 20
what_number (Event EventKind.Capability) = 21
what_number (Event EventKind.Offered) = 22
what_number (Event EventKind.Reference) = 23
what_number (Event EventKind.Ack) = 24
what_number (Event EventKind.Nak) = 25
what_number (Event EventKind.Ready) = 26
what_number (Event EventKind.Shallow) = 27
what_number (Event EventKind.Unshallow) = 28
what_number (Event EventKind.WantedRef) = 29
what_number (Event EventKind.Info) = 30
what_number (Event EventKind.Pack) = 31
what_number (Event EventKind.Progress) = 32
what_number (Event EventKind.Ended) = 33
what_number Asked = 34
what_number NeedWant = 35
what_number NeedWantRef = 36
what_number NeedHave = 37
what_number NeedReady = 38
what_number NeedBoundary = 39
what_number NeedPack = 40
what_number NeedReference = 41
what_number NeedSize = 42
what_number OutOfOrder = 43
what_number NotShallow = 44
what_number (Event EventKind.Section) = 45
what_number Lines = 46
what_number NeedRequests = 47
what_number NeedResponses = 48
what_number Checked = 49
what_number FailedRequests = 50
what_number FailedResponses = 51

-- what is reported for a chunk if nothing else is: more is to come, or none was expected
abbrev pub more_of : Bool → What
more_of true = More
more_of false = NotNow

-- a result, and nothing more
abbrev pub answering : What → GitwireAnswer
answering what = record { used = 0; offset = 0; length = 0; kind = what_number what; fault = 0 }

-- the result of a chunk: this many of its bytes were used, and nothing more
abbrev pub answering_used : ℕ → What → GitwireAnswer
answering_used used what = record { used = used; offset = 0; length = 0; kind = what_number what; fault = 0 }

-- a packet at this offset, with this many bytes in the buffer
abbrev pub answering_packet : ℕ → ℕ → ℕ → What → GitwireAnswer
answering_packet used offset filled what = record { used = used; offset = offset; length = filled; kind = what_number what; fault = 0 }

-- a refusal
abbrev pub answering_fault : ℕ → Fault → GitwireAnswer
answering_fault used fault = record { used = used; offset = fault.offset; length = 0; kind = what_number Failed; fault = kind_number fault.kind }

-- a refusal of this kind
abbrev pub answering_fault_in : What → Fault → GitwireAnswer
answering_fault_in what fault = record { used = 0; offset = fault.offset; length = 0; kind = what_number what; fault = kind_number fault.kind }

-- the end of a session
abbrev pub ending : Outcome → GitwireAnswer
ending Outcome.Flush = answering EndedByFlush
ending Outcome.Closed = answering EndedByClose
ending (Outcome.Refused fault) = answering_fault 0 fault
