-- The names of what is reported, by their numbers.
use Rattle.std.specs.Prelude.{◌≡◌, ◌≢◌, ℕ, List, Option, Some, None, codes}
use Rattle.git_client.specs.declared.event_parts.EventKind.{EventKind}
use Rattle.gitwire.specs.Buffers.{Puts}
use Rattle.gitwire.specs.Answers.{what_number}
use Rattle.gitwire.specs.declared.answer.What.{What}

-- the name that users see
abbrev pub what_name : What → List ℕ
what_name What.Done = codes "Done"
what_name What.More = codes "More"
what_name What.Failed = codes "Failed"
what_name What.NoRequest = codes "NoRequest"
what_name What.BufferTooSmall = codes "BufferTooSmall"
what_name What.NotNow = codes "NotNow"
what_name What.OutOfMemory = codes "OutOfMemory"
what_name What.BadValue = codes "BadValue"
what_name What.Nothing = codes "Nothing"
what_name What.Payload = codes "Payload"
what_name What.Flush = codes "Flush"
what_name What.Delim = codes "Delim"
what_name What.ResponseEnd = codes "ResponseEnd"
what_name What.Request = codes "Request"
what_name What.Stop = codes "Stop"
what_name What.Packet = codes "Packet"
what_name What.NeedInput = codes "NeedInput"
what_name What.EndedByFlush = codes "EndedByFlush"
what_name What.EndedByClose = codes "EndedByClose"
what_name What.CanAsk = codes "CanAsk"
what_name What.Finished = codes "Finished"
what_name (What.Event EventKind.Capability) = codes "Capability"
what_name (What.Event EventKind.Offered) = codes "Offered"
what_name (What.Event EventKind.Reference) = codes "Reference"
what_name (What.Event EventKind.Ack) = codes "Ack"
what_name (What.Event EventKind.Nak) = codes "Nak"
what_name (What.Event EventKind.Ready) = codes "Ready"
what_name (What.Event EventKind.Shallow) = codes "Shallow"
what_name (What.Event EventKind.Unshallow) = codes "Unshallow"
what_name (What.Event EventKind.WantedRef) = codes "WantedRef"
what_name (What.Event EventKind.Info) = codes "Info"
what_name (What.Event EventKind.Pack) = codes "Pack"
what_name (What.Event EventKind.Progress) = codes "Progress"
what_name (What.Event EventKind.Ended) = codes "Ended"
what_name What.Asked = codes "Asked"
what_name What.NeedWant = codes "NeedWant"
what_name What.NeedWantRef = codes "NeedWantRef"
what_name What.NeedHave = codes "NeedHave"
what_name What.NeedReady = codes "NeedReady"
what_name What.NeedBoundary = codes "NeedBoundary"
what_name What.NeedPack = codes "NeedPack"
what_name What.NeedReference = codes "NeedReference"
what_name What.NeedSize = codes "NeedSize"
what_name What.OutOfOrder = codes "OutOfOrder"
what_name What.NotShallow = codes "NotShallow"
what_name (What.Event EventKind.Section) = codes "Section"
what_name What.Lines = codes "Lines"
what_name What.NeedRequests = codes "NeedRequests"
what_name What.NeedResponses = codes "NeedResponses"
what_name What.Checked = codes "Checked"
what_name What.FailedRequests = codes "FailedRequests"
what_name What.FailedResponses = codes "FailedResponses"

-- what has this number, or nothing has it
abbrev pub IsWhatOf : ℕ → Option What → Type 0
IsWhatOf number None = (what : What) → what_number what ≢ number
IsWhatOf number (Some what) = what_number what ≡ number

-- its name is in the buffer; or there is none, and nothing is written
abbrev pub PutsName : Option What → List ℕ → ℕ → List ℕ → Type 0
PutsName None buffer answer filled = (answer ≡ 0) × (filled ≡ buffer)
PutsName (Some what) buffer answer filled = Puts (what_name what) buffer answer filled

-- the name of what has the number
abbrev pub AnnouncesKind : ℕ → List ℕ → ℕ → List ℕ → Type 0
AnnouncesKind number buffer answer filled = (what : Option What) × IsWhatOf number what × PutsName what buffer answer filled
