-- What is reported to C for the calls of a host's server.
use Rattle.std.specs.Prelude.{◌≡◌, ◌≢◌, ◌⊎◌, ℕ, ◌<◌, ◌≤◌, Bool, true, false, List, [], ◌∷◌, length, take, Option, Some, None, Result, Ok, Err}
use Rattle.std.specs.Global.{Global}
use Rattle.git_names.specs.NameBytes.{name_bytes}
use Rattle.git_names.specs.ObjectName.{ObjectName, IsObjectName, IsNoObjectName}
use Rattle.git_names.specs.RefName.{IsRefName}
use Rattle.git_names.specs.declared.object_format.Format.{Format}
use Rattle.git_names.specs.declared.reference.RefName.{RefName}
use Rattle.git_pkt.specs.declared.fault.Kind.{Kind}
use Rattle.git_pkt.specs.declared.fault.Kind.TheVariants.{BadLine, BadObjectName, BadRefName}
use Rattle.git_msg.specs.declared.agent.Agent.{Agent}
use Rattle.git_msg.specs.Arguments.{most_limit}
use Rattle.git_msg.specs.Asked.{Asked, arguments_in, command_asked}
use Rattle.git_msg.specs.Checks.{Check, Refuses}
use Rattle.git_msg.specs.References.{IsMaybeObjectName}
use Rattle.git_msg.specs.declared.offers.Offer.{Offer}
use Rattle.git_msg.specs.declared.words.Word.{Word}
use Rattle.git_server.specs.Repository.{Entry}
use Rattle.git_host.specs.HostAnswers.{part_of}
use Rattle.git_host.specs.HostServer.{AcceptsHost, ClosesHost, FeedsHost, Hosts, RefusesHost, ReportsHost, StepsHost, bytes_of, reads_on, setting_of}
use Rattle.git_host.specs.HostLookups.{request_of}
use Rattle.git_host.specs.declared.host_server.HostServer.{HostServer}
use Rattle.git_host.specs.declared.report.HostReported.{HostReported}
use Rattle.git_host.specs.declared.report.ReferenceFault.{ReferenceFault}
use Rattle.git_host.specs.declared.report.HostStep.{HostStep}
use Rattle.git_host.specs.declared.report.Need.{Need}
use Rattle.git_host.specs.declared.report.Report.{Report}
use Rattle.gitwire.specs.Answers.{answering, answering_fault, answering_packet, answering_used, ending, more_of, what_number}
use Rattle.gitwire.specs.Numbers.{command_number}
use Rattle.gitwire.specs.Offers.{MeansAgent, MeansNoAgent, offer_by, offer_meant}
use Rattle.gitwire.specs.RequestAnswers.{HasOrNone, PutsFrom, is_set, announcing_which}
use Rattle.gitwire.specs.Buffers.{put_before}
use Rattle.gitwire.specs.WrittenForC.{boundary_of, given, object_name_check, ref_name_check, where_given}
use Rattle.gitwire.specs.declared.answer.GitwireAnswer.{GitwireAnswer}
use Rattle.gitwire.specs.declared.answer.What.TheVariants as What
use Rattle.gitwire.specs.declared.host_texts.Unread.{Unread}

-- ---- a session begins

-- the number means no format or a bit no feature, the limit is above the maximum, or the name is no agent's
abbrev pub MeanNoHost : ℕ → ℕ → ℕ → List ℕ → Type 0
MeanNoHost format features limit name = (offer_meant format features ≡ None) ⊎ ((most_limit < limit) ⊎ MeansNoAgent name)

-- a host's server at the beginning of a session, with the offer, the limit and the agent that these values mean
pub record MeanHost (format features limit : ℕ) (advertise : Bool) (name : List ℕ) (host : HostServer Global) : Type 0 where
  pub meant : Offer
  pub offer_is : offer_meant format features ≡ Some meant
  pub in_range : limit ≤ most_limit
  pub agent : Agent
  pub means : MeansAgent name agent
  pub begins : Hosts (setting_of (offer_by agent meant) limit advertise) [] false [] [] host

-- it is made, or nothing changes
abbrev pub MakesHost : ℕ → ℕ → ℕ → Bool → List ℕ → Option (HostServer Global) → ℕ → Option (HostServer Global) → Type 0
MakesHost format features limit advertise name old answer new =
    (MeanNoHost format features limit name × (answer ≡ what_number What.BadValue) × (new ≡ old))
    ⊎ ((host : HostServer Global) × MeanHost format features limit advertise name host × HasOrNone answer host new)

-- ---- the client's bytes

-- the server uses bytes of the chunk, and it is reported to C how many
pub record FeedsAnswers (old : HostServer Global) (chunk : List ℕ) (answer : GitwireAnswer) (new : HostServer Global) : Type 0 where
  pub used : ℕ
  pub answer_is : answer ≡ answering_used used (more_of (reads_on old))
  pub within : used ≤ length chunk
  pub feeds : FeedsHost (take used chunk) old new

-- what is reported to C for a call that does something or changes nothing
abbrev pub done_where : Bool → ℕ
done_where true = what_number What.Done
done_where false = what_number What.NotNow

-- the input ends when the server expects input
pub record ClosesAnswers (old : HostServer Global) (answer : ℕ) (new : HostServer Global) : Type 0 where
  pub closed : Bool
  pub closes : ClosesHost old closed new
  pub answer_is : answer ≡ done_where closed

-- ---- what to do next

-- what is reported to C about a request that came: its command's number
abbrev pub asking : Option Asked → GitwireAnswer
asking (Some asked) = answering_packet 0 (command_number (command_asked asked)) 0 What.Asked
asking None = answering What.Asked

-- what is reported to C about what is needed: its index in a list of the request, if it has one
abbrev pub needing : Need → GitwireAnswer
needing (Need.Want at) = answering_packet 0 at 0 What.NeedWant
needing (Need.WantRef at) = answering_packet 0 at 0 What.NeedWantRef
needing (Need.Have at) = answering_packet 0 at 0 What.NeedHave
needing Need.Ready = answering What.NeedReady
needing Need.Boundary = answering What.NeedBoundary
needing Need.Pack = answering What.NeedPack
needing Need.Reference = answering What.NeedReference
needing (Need.Size at) = answering_packet 0 at 0 What.NeedSize

-- what is reported to C for a step, with this request at hand and the bytes of the packet that was returned last
abbrev pub stepping : HostStep → Option Asked → List ℕ → GitwireAnswer
stepping HostStep.Packet asked bytes = answering_packet 0 0 (length bytes) What.Packet
stepping HostStep.NeedInput asked bytes = answering What.NeedInput
stepping HostStep.Asked asked bytes = asking asked
stepping (HostStep.Need need) asked bytes = needing need
stepping (HostStep.Ended outcome) asked bytes = ending outcome

-- the buffer: a packet is at its front
abbrev pub filled_at : HostStep → List ℕ → List ℕ → List ℕ
filled_at HostStep.Packet bytes buffer = put_before bytes buffer
filled_at step bytes buffer = buffer

-- the server returns a packet or what to do instead, and that is reported to C
pub record PullsAnswers (old : HostServer Global) (buffer : List ℕ) (answer : GitwireAnswer) (filled : List ℕ) (new : HostServer Global) : Type 0 where
  pub step : HostStep
  pub steps : StepsHost old step new
  pub answer_is : answer ≡ stepping step (request_of new) (bytes_of new)
  pub buffer_is : filled ≡ filled_at step (bytes_of new) buffer

-- nothing happens, and it is reported that the buffer is too small
abbrev pub IsTooSmall : HostServer Global → List ℕ → GitwireAnswer → List ℕ → HostServer Global → Type 0
IsTooSmall old buffer answer filled new = (answer ≡ answering What.BufferTooSmall) × (filled ≡ buffer) × (new ≡ old)

-- nothing happens if the buffer is too small for the longest packet
pub record PullsInBuffer (old : HostServer Global) (buffer : List ℕ) (answer : GitwireAnswer) (filled : List ℕ) (new : HostServer Global) : Type 0 where
  pub small : length buffer < 65520 → IsTooSmall old buffer answer filled new
  pub large : 65520 ≤ length buffer → PullsAnswers old buffer answer filled new

-- ---- the request at hand

-- the number of its command, or 0 if there is none
abbrev pub command_shown : Option Asked → ℕ
command_shown None = 0
command_shown (Some asked) = command_number (command_asked asked)

abbrev pub has_flag_at : ℕ → Option Asked → Bool
has_flag_at number None = false
has_flag_at number (Some asked) = is_set number (arguments_in asked)

abbrev pub announcing_given_at : ℕ → Option Asked → GitwireAnswer
announcing_given_at which None = answering What.Nothing
announcing_given_at which (Some asked) = announcing_which which (arguments_in asked)

-- the text at an index of the list, if there is a request
abbrev pub PutsAt : Option Word → ℕ → Option Asked → List ℕ → GitwireAnswer → List ℕ → Type 0
PutsAt list i None buffer answer filled = (answer ≡ answering What.Nothing) × (filled ≡ buffer)
PutsAt list i (Some asked) buffer answer filled = PutsFrom list (arguments_in asked) i buffer answer filled

-- the request is accepted, if one is asked about
pub record AcceptsAnswers (old : HostServer Global) (answer : ℕ) (new : HostServer Global) : Type 0 where
  pub accepted : Bool
  pub accepts : AcceptsHost old accepted new
  pub answer_is : answer ≡ done_where accepted

-- what is reported to C for a refusal, and left in the buffer
abbrev pub refusing : Bool → List ℕ → GitwireAnswer
refusing true bytes = answering_packet 0 0 (length bytes) What.Packet
refusing false bytes = answering What.NotNow

abbrev pub filled_where : Bool → List ℕ → List ℕ → List ℕ
filled_where true bytes buffer = put_before bytes buffer
filled_where false bytes buffer = buffer

-- the request is refused with a text, if one is asked about
pub record RefusesAnswers (text : List ℕ) (old : HostServer Global) (buffer : List ℕ) (answer : GitwireAnswer) (filled : List ℕ)
    (new : HostServer Global) : Type 0 where
  pub refused : Bool
  pub refuses : RefusesHost text old refused new
  pub answer_is : answer ≡ refusing refused (bytes_of new)
  pub buffer_is : filled ≡ filled_where refused (bytes_of new) buffer

-- a refusal by a kind of error, at offset 0
abbrev pub refused_as : Kind → GitwireAnswer
refused_as kind = answering_fault 0 (record { kind = kind; offset = 0 })

-- the same; nothing happens if the buffer is too small, or the text is too long for an error packet
pub record RefusesInBuffer (text : List ℕ) (old : HostServer Global) (buffer : List ℕ) (answer : GitwireAnswer) (filled : List ℕ)
    (new : HostServer Global) : Type 0 where
  pub small : length buffer < 65520 → IsTooSmall old buffer answer filled new
  pub too_long : 65520 ≤ length buffer → 65511 < length text → (answer ≡ refused_as BadLine) × (filled ≡ buffer) × (new ≡ old)
  pub large : 65520 ≤ length buffer → length text ≤ 65511 → RefusesAnswers text old buffer answer filled new

-- ---- what the host reports

-- the bytes of a pack or of progress that are reported
abbrev pub bytes_in : Report → List ℕ
bytes_in (Report.Pack bytes) = bytes.now
bytes_in (Report.Progress bytes) = bytes.now
bytes_in report = []

-- what is reported to C for a report of this many bytes, with how many of them one packet takes, by its result; the packet has this many
-- bytes
abbrev pub reporting : HostReported → ℕ → ℕ → ℕ → GitwireAnswer
reporting HostReported.Packet part whole filled = answering_packet part 0 filled What.Packet
reporting HostReported.Taken part whole filled = answering What.More
reporting HostReported.Hidden part whole filled = answering_used whole What.More
reporting HostReported.NotAsked part whole filled = answering What.NotNow
reporting HostReported.MixedFormats part whole filled = refused_as BadObjectName
reporting HostReported.Unsorted part whole filled = answering What.OutOfOrder
reporting HostReported.HeadTwice part whole filled = answering What.OutOfOrder
reporting HostReported.NotShallow part whole filled = answering What.NotShallow
reporting HostReported.OutOfMemory part whole filled = answering What.OutOfMemory

abbrev pub filled_by : HostReported → List ℕ → List ℕ → List ℕ
filled_by HostReported.Packet bytes buffer = put_before bytes buffer
filled_by reported bytes buffer = buffer

-- the server takes the report, and its packet is at the front of the buffer, if it has one
pub record ReportsAnswers (report : Report) (old : HostServer Global) (buffer : List ℕ) (answer : GitwireAnswer) (filled : List ℕ)
    (new : HostServer Global) : Type 0 where
  pub reported : HostReported
  pub reports : ReportsHost report old reported new
  pub answer_is : answer ≡ reporting reported (length (part_of (bytes_in report))) (length (bytes_in report)) (length (bytes_of new))
  pub buffer_is : filled ≡ filled_by reported (bytes_of new) buffer

-- nothing happens if the buffer is too small for the longest packet
pub record ReportsInBuffer (report : Report) (old : HostServer Global) (buffer : List ℕ) (answer : GitwireAnswer) (filled : List ℕ)
    (new : HostServer Global) : Type 0 where
  pub small : length buffer < 65520 → IsTooSmall old buffer answer filled new
  pub large : 65520 ≤ length buffer → ReportsAnswers report old buffer answer filled new

-- ---- reports whose texts C passes

-- what the texts mean: a report, or why there is none
abbrev pub Meant : Type 0
Meant = Result Report Unread

abbrev pub unread_as : Unread → GitwireAnswer
unread_as (Unread.Refused kind) = refused_as kind
unread_as Unread.OutOfMemory = answering What.OutOfMemory

-- why texts are no reference
abbrev pub unread_by : ReferenceFault → Unread
unread_by ReferenceFault.BadObjectName = Unread.Refused BadObjectName
unread_by ReferenceFault.BadRefName = Unread.Refused BadRefName
unread_by ReferenceFault.OutOfMemory = Unread.OutOfMemory

-- the report that the texts mean is made; or it is reported why there is none, and nothing changes
abbrev pub ReportsBy : Meant → HostServer Global → List ℕ → GitwireAnswer → List ℕ → HostServer Global → Type 0
ReportsBy (Ok report) old buffer answer filled new = ReportsAnswers report old buffer answer filled new
ReportsBy (Err why) old buffer answer filled new = (answer ≡ unread_as why) × (filled ≡ buffer) × (new ≡ old)

pub record ReportsMeant (Means : Meant → Type 0) (old : HostServer Global) (buffer : List ℕ) (answer : GitwireAnswer) (filled : List ℕ)
    (new : HostServer Global) : Type 0 where
  pub meant : Meant
  pub means : Means meant
  pub reports : ReportsBy meant old buffer answer filled new

-- nothing happens if the buffer is too small for the longest packet
pub record ReportsMeantInBuffer (Means : Meant → Type 0) (old : HostServer Global) (buffer : List ℕ) (answer : GitwireAnswer) (filled : List ℕ)
    (new : HostServer Global) : Type 0 where
  pub small : length buffer < 65520 → IsTooSmall old buffer answer filled new
  pub large : 65520 ≤ length buffer → ReportsMeant Means old buffer answer filled new

-- the digits of a wanted reference's object, in the session's format; no digits mean that there is no such reference
abbrev pub MeansWantRef : Format → List ℕ → Meant → Type 0
MeansWantRef format digits (Ok report) = (id : Option ObjectName) × (report ≡ Report.WantRef id) × IsMaybeObjectName format (given digits) id
MeansWantRef format digits (Err why) = (why ≡ Unread.Refused BadObjectName) × (digits ≢ []) × IsNoObjectName format digits

-- a line of the shallow boundary
abbrev pub MeansBoundary : Format → Bool → List ℕ → Meant → Type 0
MeansBoundary format shallow digits (Ok report) = (id : ObjectName) × (report ≡ Report.Boundary (boundary_of shallow id)) × IsObjectName format digits id
MeansBoundary format shallow digits (Err why) = (why ≡ Unread.Refused BadObjectName) × IsNoObjectName format digits

-- the target of an unborn `HEAD`
abbrev pub MeansUnborn : List ℕ → Meant → Type 0
MeansUnborn text (Ok report) = (target : RefName) × (report ≡ Report.Unborn target) × (name_bytes target ≡ text) × IsRefName text
MeansUnborn text (Err why) = (why ≡ Unread.Refused BadRefName) × ¬ IsRefName text

-- the reference with these parts
pub record IsEntryOf (format : Format) (digits name target peeled : List ℕ) (entry : Entry) : Type 0 where
  pub is_id : IsObjectName format digits entry.id
  pub name_is : entry.name ≡ name
  pub is_name : IsRefName name
  pub target_is : entry.target ≡ given target
  pub is_target : target ≢ [] → IsRefName target
  pub is_peeled : IsMaybeObjectName format (given peeled) entry.peeled

-- the checks of its parts, from left to right
abbrev pub entry_checks : Format → List ℕ → List ℕ → List ℕ → List ℕ → List Check
entry_checks format digits name target peeled =
    object_name_check format digits ∷ ref_name_check name ∷ where_given target (ref_name_check target)
    ∷ where_given peeled (object_name_check format peeled) ∷ []

-- a reference that was read, or why there is none: the first part that is refused, or memory ran out
abbrev pub IsEntryRead : Format → List ℕ → List ℕ → List ℕ → List ℕ → Result Entry Unread → Type 0
IsEntryRead format digits name target peeled (Ok entry) = IsEntryOf format digits name target peeled entry
IsEntryRead format digits name target peeled (Err (Unread.Refused kind)) = Refuses (entry_checks format digits name target peeled) kind
IsEntryRead format digits name target peeled (Err Unread.OutOfMemory) = Unit {0}

-- a reference; its parts are checked from left to right
abbrev pub MeansReference : Format → List ℕ → List ℕ → List ℕ → List ℕ → Meant → Type 0
MeansReference format digits name target peeled (Ok report) =
    (entry : Entry) × (report ≡ Report.Reference entry) × IsEntryOf format digits name target peeled entry
MeansReference format digits name target peeled (Err why) = IsEntryRead format digits name target peeled (Err why)

-- the size of an object, if the store has it
abbrev pub size_given : Bool → ℕ → Option ℕ
size_given true size = Some size
size_given false size = None
