-- What a host's store is asked for a request, and what it replies. No machine is named here.
use Rattle.std.specs.Prelude.{◌≡◌, ◌≤◌, ℕ, Bool, List, Option, Some, None, Result, Ok, Err, slice_get, take}
use Rattle.std.specs.Option.{option_map}
use Rattle.git_names.specs.ObjectName.{ObjectName}
use Rattle.git_names.specs.NameBytes.{name_bytes}
use Rattle.git_names.specs.RefName.{IsRefName}
use Rattle.git_msg.specs.declared.Boundary.{Boundary}
use Rattle.git_msg.specs.Arguments.{Arg}
use Rattle.git_msg.specs.Asked.{Asked, arguments_in, fetch, ls_refs, haves_in, oids_in, want_refs_in, wants_in}
use Rattle.git_server.specs.Repository.{Entry}
use Rattle.git_store.specs.declared.store.Part.{Part}
use Rattle.git_store.specs.declared.store.Part.TheVariants as Parts
use Rattle.git_store.specs.declared.store.Listed.{Listed}
use Rattle.git_store.specs.declared.store.Listed.TheVariants as Lists
use Rattle.git_host.specs.declared.report.Need.{Need}
use Rattle.git_host.specs.declared.report.Need.TheVariants.{Want as NeedWant, WantRef as NeedWantRef, Have as NeedHave, Ready as NeedReady}
use Rattle.git_host.specs.declared.report.Need.TheVariants.{Boundary as NeedBoundary, Pack as NeedPack, Reference as NeedReference, Size as NeedSize}
use Rattle.git_host.specs.declared.report.Report.{Report}
use Rattle.git_host.specs.declared.report.Report.TheVariants.{Want, WantRef, Have, Ready, Boundary as BoundaryLine, BoundaryEnd, Pack, Progress}
use Rattle.git_host.specs.declared.report.Report.TheVariants.{PackEnd, Reference, Unborn, ReferencesEnd, Size}

-- what a store is asked: whether the client may have the object, the object of the reference, whether it has the object, whether it is ready
-- to send a pack, the next line of the boundary, the next of the pack, the next of the references, and the size of the object
pub data Question : Type 0 where
  ask_want : ObjectName → Question
  ask_want_ref : List ℕ → Question
  ask_have : ObjectName → Question
  ready : List Arg → Question
  ask_boundary : List Arg → Question
  ask_pack : List Arg → Question
  ask_reference : Question
  ask_size : ObjectName → Question

-- what it replies: yes or no, an object, a line of the boundary or its end, bytes of the pack or of the progress or the pack's end, a
-- reference, the name that an unborn `HEAD` points to, the end of the references, a size; or that it cannot answer
pub data Reply : Type 0 where
  has : Bool → Reply
  found : Option ObjectName → Reply
  line : Option Boundary → Reply
  part : List ℕ → Reply
  progress : List ℕ → Reply
  pack_end : Reply
  entry : Entry → Reply
  unborn : List ℕ → Reply
  references_end : Reply
  size_is : Option ℕ → Reply
  failed : Reply

-- the reply of a call that may fail
abbrev pub replied : {T E : Type 0} → (T → Reply) → Result T E → Reply
replied reply (Ok value) = reply value
replied reply (Err fault) = failed

-- what is asked for a request where this is needed, if it has something at that place
abbrev pub question_of : Asked → Need → Option Question
question_of asked (NeedWant at) = option_map ask_want (slice_get (wants_in (arguments_in asked)) at)
question_of asked (NeedWantRef at) = option_map ask_want_ref (slice_get (want_refs_in (arguments_in asked)) at)
question_of asked (NeedHave at) = option_map ask_have (slice_get (haves_in (arguments_in asked)) at)
question_of (fetch q) NeedReady = Some (ready q)
question_of (fetch q) NeedBoundary = Some (ask_boundary q)
question_of (fetch q) NeedPack = Some (ask_pack q)
question_of (ls_refs q) NeedReference = Some ask_reference
question_of asked (NeedSize at) = option_map ask_size (slice_get (oids_in (arguments_in asked)) at)
question_of asked need = None

-- the report of the reply, where this is needed
abbrev pub IsReportOf : Need → Reply → Report → Type 0
IsReportOf (NeedWant at) (has b) report = report ≡ Want b
IsReportOf (NeedWantRef at) (found id) report = report ≡ WantRef id
IsReportOf (NeedHave at) (has b) report = report ≡ Have b
IsReportOf NeedReady (has b) report = report ≡ Ready b
IsReportOf NeedBoundary (line (Some l)) report = report ≡ BoundaryLine l
IsReportOf NeedBoundary (line None) report = report ≡ BoundaryEnd
IsReportOf NeedPack (part bytes) (Pack lent) = lent.now ≡ bytes
IsReportOf NeedPack (progress bytes) (Progress lent) = lent.now ≡ bytes
IsReportOf NeedPack pack_end report = report ≡ PackEnd
IsReportOf NeedReference (entry e) report = report ≡ Reference e
IsReportOf NeedReference (unborn target) (Unborn name) = name_bytes name ≡ target
IsReportOf NeedReference references_end report = report ≡ ReferencesEnd
IsReportOf (NeedSize at) (size_is size) report = report ≡ Size size
IsReportOf need reply report = ⊥

-- a reply that makes no report: that the store cannot answer, and that `HEAD` points to something that is no name of a reference
abbrev pub IsNoReport : Reply → Type 0
IsNoReport failed = Unit {0}
IsNoReport (unborn target) = ¬ IsRefName target
IsNoReport reply = ⊥

-- what a call replied of a pack or of the references, whose bytes are at the front of this buffer
abbrev pub part_in : List ℕ → Part → Reply
part_in buffer (Parts.Pack count) = part (take count buffer)
part_in buffer (Parts.Progress count) = progress (take count buffer)
part_in buffer Parts.End = pack_end

abbrev pub listed_in : List ℕ → Listed → Reply
listed_in buffer (Lists.Reference e) = entry e
listed_in buffer (Lists.Unborn count) = unborn (take count buffer)
listed_in buffer Lists.End = references_end

-- no more bytes are stated to be there than a buffer of this length has
abbrev pub IsPartWithin : ℕ → Part → Type 0
IsPartWithin space (Parts.Pack count) = count ≤ space
IsPartWithin space (Parts.Progress count) = count ≤ space
IsPartWithin space Parts.End = Unit {0}

abbrev pub IsListedWithin : ℕ → Listed → Type 0
IsListedWithin space (Lists.Unborn count) = count ≤ space
IsListedWithin space listed = Unit {0}
