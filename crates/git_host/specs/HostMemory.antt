-- How many bytes a host's server holds, and what bounds them.
use Rattle.std.specs.Prelude.{◌≡◌, ℕ, ◌+◌, ◌*◌, length}
use Rattle.git_msg.specs.Asked.{want_refs_in}
use Rattle.git_msg.specs.Machine.HeldRequest.{kept_of, stored_of}
use Rattle.git_msg.specs.Memory.{HasRefused}
use Rattle.git_msg.specs.Machine.RequestStreams.{bytes_held as stream_held}
use Rattle.git_host.specs.LastNames.{last_bytes}
use Rattle.git_host.specs.declared.admission.Admission.{Admission as AdmissionMachine}
use Rattle.git_host.specs.declared.fetch_answer.FetchAnswer.{FetchAnswer}
use Rattle.git_host.specs.declared.references_answer.ReferencesAnswer.{ReferencesAnswer}
use Rattle.git_host.specs.declared.sizes_answer.SizesAnswer.{SizesAnswer}
use Rattle.git_host.specs.declared.host_answer.HostAnswer.{HostAnswer}
use Rattle.git_host.specs.declared.host_answer.HostAnswer.TheVariants.{Admission, Fetch, References, Sizes, Whole}
use Rattle.git_host.specs.declared.host_server.Phase.{Phase}
use Rattle.git_host.specs.declared.host_server.Phase.TheVariants.{Asked as WholeRequest, Answering}
use Rattle.git_host.specs.declared.host_server.HostServer.{HostServer}
use Rattle.git_host.specs.declared.report.HostReported.{HostReported}
use Rattle.git_host.specs.declared.report.HostReported.TheVariants.{OutOfMemory}

module _ {A : Type 0} where
  -- the bytes counted of the lines of the request that is asked about or answered, and those stored of their values
  abbrev pub kept_for : HostAnswer A → ℕ
  kept_for (Admission answer) = answer.request.kept
  kept_for (Fetch answer) = answer.request.kept
  kept_for (References answer) = answer.listing.kept
  kept_for (Sizes answer) = answer.request.kept
  kept_for Whole = 0

  abbrev pub kept_in : Phase A → ℕ
  kept_in (WholeRequest request) = kept_of request
  kept_in (Answering answer) = kept_for answer
  kept_in phase = 0

  abbrev pub kept_by : HostServer A → ℕ
  kept_by server = kept_in server.phase

  abbrev pub stored_for : HostAnswer A → ℕ
  stored_for (Admission answer) = answer.request.stored
  stored_for (Fetch answer) = answer.request.stored
  stored_for (References answer) = answer.listing.stored
  stored_for (Sizes answer) = answer.request.stored
  stored_for Whole = 0

  abbrev pub stored_in : Phase A → ℕ
  stored_in (WholeRequest request) = stored_of request
  stored_in (Answering answer) = stored_for answer
  stored_in phase = 0

  abbrev pub stored_by : HostServer A → ℕ
  stored_by server = stored_in server.phase

  -- how many objects of wanted references are kept, and how many references the request wants by name
  abbrev pub objects_for : HostAnswer A → ℕ
  objects_for (Admission answer) = length answer.wanted.items
  objects_for (Fetch answer) = length answer.wanted.items
  objects_for answer = 0

  abbrev pub objects_in : Phase A → ℕ
  objects_in (Answering answer) = objects_for answer
  objects_in phase = 0

  abbrev pub objects_by : HostServer A → ℕ
  objects_by server = objects_in server.phase

  -- memory ran out at a report only if a list was refused of no more bytes than the objects that are kept and one more have
  abbrev pub AnswerNeedsRefusal : (ℕ → Type 0) → HostAnswer A → HostReported → Type 0
  AnswerNeedsRefusal refuses old reported = reported ≡ OutOfMemory → HasRefused refuses (33 * (objects_for old + 1))

  abbrev pub ReportNeedsRefusal : (ℕ → Type 0) → HostServer A → HostReported → Type 0
  ReportNeedsRefusal refuses old reported = reported ≡ OutOfMemory → HasRefused refuses (33 * (objects_by old + 1))

  abbrev pub wanted_for : HostAnswer A → ℕ
  wanted_for (Admission answer) = length (want_refs_in answer.request.asked)
  wanted_for (Fetch answer) = length (want_refs_in answer.request.asked)
  wanted_for answer = 0

  abbrev pub wanted_in : Phase A → ℕ
  wanted_in (Answering answer) = wanted_for answer
  wanted_in phase = 0

  abbrev pub wanted_by : HostServer A → ℕ
  wanted_by server = wanted_in server.phase

  -- the bytes that the name of the reference that was reported last takes
  abbrev pub last_for : HostAnswer A → ℕ
  last_for (References answer) = last_bytes answer.last
  last_for answer = 0

  abbrev pub last_in : Phase A → ℕ
  last_in (Answering answer) = last_for answer
  last_in phase = 0

  abbrev pub last_by : HostServer A → ℕ
  last_by server = last_in server.phase

  -- all bytes of the server: those of the buffer and of the request that is read, those stored of the one that is answered, 33 of each object that
  -- is kept, and those of the last reference
  abbrev pub bytes_held : HostServer A → ℕ
  bytes_held server = stream_held server.stream + (stored_by server + 33 * objects_by server + last_by server)

  -- the same with each field named, so that none can be added without being counted
  abbrev pub admission_by_fields : AdmissionMachine A → ℕ
  admission_by_fields answer =
      let record { request = request; format = format; wanted = wanted; step = step } = answer in
      request.stored + 33 * length wanted.items + 0

  abbrev pub fetch_by_fields : FetchAnswer A → ℕ
  fetch_by_fields answer =
      let record { request = request; format = format; wanted = wanted; place = place } = answer in
      request.stored + 33 * length wanted.items + 0

  abbrev pub references_by_fields : ReferencesAnswer A → ℕ
  references_by_fields answer =
      let record { listing = listing; format = format; last = last; place = place } = answer in
      listing.stored + 33 * 0 + last_bytes last

  abbrev pub sizes_by_fields : SizesAnswer A → ℕ
  sizes_by_fields answer =
      let record { request = request; place = place } = answer in
      request.stored + 33 * 0 + 0

  abbrev pub answer_by_fields : HostAnswer A → ℕ
  answer_by_fields (Admission answer) = admission_by_fields answer
  answer_by_fields (Fetch answer) = fetch_by_fields answer
  answer_by_fields (References answer) = references_by_fields answer
  answer_by_fields (Sizes answer) = sizes_by_fields answer
  answer_by_fields Whole = 0

  abbrev pub phase_by_fields : Phase A → ℕ
  phase_by_fields (WholeRequest request) = stored_of request + 33 * 0 + 0
  phase_by_fields (Answering answer) = answer_by_fields answer
  phase_by_fields phase = 0

  abbrev pub bytes_held_by_fields : HostServer A → ℕ
  bytes_held_by_fields server =
      let record { alloc = alloc; offer = offer; limits = limits; stream = stream; flush = flush; phase = phase } = server in
      stream_held stream + phase_by_fields phase
