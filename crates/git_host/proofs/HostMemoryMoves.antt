-- What a host's server holds is bounded.
use Rattle.std.proofs.Common.{arith, ◌≡◌, ℕ, ◌+◌, ◌*◌, ◌≤◌, Bool, List, length, refl, ap}
use Rattle.git_names.specs.ObjectName.{ObjectName}
use Rattle.git_names.specs.declared.object_format.Format.{Format}
use Rattle.git_pkt.specs.Packets.{Pkt}
use Rattle.git_msg.specs.declared.streams.RequestStream.{RequestStream}
use Rattle.git_msg.specs.Arguments.{Arg}
use Rattle.git_msg.specs.Asked.{Asked, fetch, ls_refs, object_info, want_refs_in}
use Rattle.git_msg.specs.Machine.RequestStreams.{bytes_held as stream_held}
use Rattle.git_host.specs.Admissions.{AdmissionFacts, StandsAtStep}
use Rattle.git_host.specs.HostSessions.{Facts, HostSetting, of_fetch, of_references, of_sizes}
use Rattle.git_host.specs.HostAnswers.{IsAnswering, Terms}
use Rattle.git_host.specs.HostServer.{Hosts, HostsIn, bytes_of, terms_of}
use Rattle.git_host.specs.HostMemory.{answer_by_fields, bytes_held, bytes_held_by_fields, kept_by, kept_for, kept_in, last_by, last_for, last_in, objects_by}
use Rattle.git_host.specs.HostMemory.{objects_for, objects_in, phase_by_fields, stored_by, stored_for, stored_in, wanted_by, wanted_for, wanted_in}
use Rattle.git_host.specs.declared.admission.AdmissionStep.{AdmissionStep}
use Rattle.git_host.specs.declared.admission.AdmissionStep.TheVariants.{AskWant, AskWantRef, Admitted, Refused}
use Rattle.git_host.specs.declared.host_answer.HostAnswer.{HostAnswer}
use Rattle.git_host.specs.declared.host_answer.HostAnswer.TheVariants.{Admission, Fetch, References, Sizes, Whole}
use Rattle.git_host.specs.declared.host_server.Phase.{Phase}
use Rattle.git_host.specs.declared.host_server.Phase.TheVariants.{Advertising, Reading, Asked as WholeRequest, Answering, Refusing, Ended}
use Rattle.git_host.specs.declared.host_server.HostServer.{HostServer}

objects_at : (step : AdmissionStep) (format : Format) (q : List Arg) (a : AdmissionFacts) (ids : List ObjectName) → StandsAtStep step format q a ids
    → length ids ≤ length (want_refs_in q)
objects_at (AskWant at) format q a ids h = omega (arith, ap length h.none_kept)
objects_at (AskWantRef at) format q a ids h = omega (arith, h.within, h.so_far)
objects_at Admitted format q a ids h = omega (arith, h.all)
objects_at (Refused kind) format q a ids h = h.0

module _ {A : Type 0} where
  -- what is stored is counted, what is counted is within the limit, and no more objects are kept than references are wanted
  abbrev AnswerBounded : ℕ → HostAnswer A → Type 0
  AnswerBounded limit answer = (stored_for answer ≤ kept_for answer) × (kept_for answer ≤ limit) × (objects_for answer ≤ wanted_for answer)

  answer_bounded : (m : Terms) (answer : HostAnswer A) (q : Asked) (f : Facts) (front : List Pkt) → IsAnswering m answer q f front
      → AnswerBounded m.limit answer
  answer_bounded m (Admission answer) (fetch q) (of_fetch a t) front h =
      (h.bounded.covered, h.bounded.within, objects_at answer.step answer.format answer.request.asked a answer.wanted.items h.represents)
  answer_bounded m (Fetch answer) (fetch q) (of_fetch a t) front h =
      (h.bounded.covered, h.bounded.within, omega (arith, ap length h.represents.wanted, h.represents.all))
  answer_bounded m (References answer) (ls_refs q) (of_references t) front h = (h.bounded.covered, h.bounded.within, omega arith)
  answer_bounded m (Sizes answer) (object_info q) (of_sizes sizes) front h = (h.bounded.covered, h.bounded.within, omega arith)
  answer_bounded m Whole q f front h = (omega arith, omega arith, omega arith)
  answer_bounded m (Admission answer) (fetch q) (of_references t) front h = absurd h
  answer_bounded m (Admission answer) (fetch q) (of_sizes sizes) front h = absurd h
  answer_bounded m (Admission answer) (ls_refs q) f front h = absurd h
  answer_bounded m (Admission answer) (object_info q) f front h = absurd h
  answer_bounded m (Fetch answer) (fetch q) (of_references t) front h = absurd h
  answer_bounded m (Fetch answer) (fetch q) (of_sizes sizes) front h = absurd h
  answer_bounded m (Fetch answer) (ls_refs q) f front h = absurd h
  answer_bounded m (Fetch answer) (object_info q) f front h = absurd h
  answer_bounded m (References answer) (ls_refs q) (of_fetch a t) front h = absurd h
  answer_bounded m (References answer) (ls_refs q) (of_sizes sizes) front h = absurd h
  answer_bounded m (References answer) (fetch q) f front h = absurd h
  answer_bounded m (References answer) (object_info q) f front h = absurd h
  answer_bounded m (Sizes answer) (object_info q) (of_references t) front h = absurd h
  answer_bounded m (Sizes answer) (object_info q) (of_fetch a t) front h = absurd h
  answer_bounded m (Sizes answer) (ls_refs q) f front h = absurd h
  answer_bounded m (Sizes answer) (fetch q) f front h = absurd h

  phase_bounded : (phase : Phase A) (s : HostSetting) (used : List ℕ) (over : Bool) (reported : List Facts) (given : List ℕ) (stream : RequestStream A)
      (flush : ℕ) → HostsIn phase s used over reported given stream flush
      → (stored_in phase ≤ kept_in phase) × (kept_in phase ≤ s.limit) × (objects_in phase ≤ wanted_in phase)
  phase_bounded (WholeRequest request) s used over reported given stream flush h =
      (h.last.last.bounded.covered, h.last.last.bounded.within, omega arith)
  phase_bounded (Answering answer) s used over reported given stream flush h =
      answer_bounded (terms_of s) answer h.last.q h.last.f h.last.front h.last.last
  phase_bounded Advertising s used over reported given stream flush h = (omega arith, omega arith, omega arith)
  phase_bounded Reading s used over reported given stream flush h = (omega arith, omega arith, omega arith)
  phase_bounded (Refusing fault) s used over reported given stream flush h = (omega arith, omega arith, omega arith)
  phase_bounded (Ended outcome) s used over reported given stream flush h = (omega arith, omega arith, omega arith)

  module _ (s : HostSetting) (used : List ℕ) (over : Bool) (reported : List Facts) (given : List ℕ) (server : HostServer A)
      (h : Hosts s used over reported given server) where
    pub host_bounded : (stored_by server ≤ kept_by server) × (kept_by server ≤ s.limit) × (objects_by server ≤ wanted_by server)
    host_bounded = phase_bounded server.phase s used over reported given server.stream server.flush h.stands

    pub host_holds : length (bytes_of server) ≤ 65520 → bytes_held server ≤ 65520 + 2 * s.limit + 33 * wanted_by server + last_by server
    host_holds fits =
        let (covered, within, named) = host_bounded in
        omega (arith, fits, server.stream.requests.bounded.covered, server.stream.requests.bounded.within, h.reads_within, covered, within, named)

  answer_counted : (answer : HostAnswer A) → answer_by_fields answer ≡ stored_for answer + 33 * objects_for answer + last_for answer
  answer_counted (Admission answer) = refl
  answer_counted (Fetch answer) = refl
  answer_counted (References answer) = refl
  answer_counted (Sizes answer) = refl
  answer_counted Whole = refl

  phase_counted : (phase : Phase A) → phase_by_fields phase ≡ stored_in phase + 33 * objects_in phase + last_in phase
  phase_counted (WholeRequest request) = refl
  phase_counted (Answering answer) = answer_counted answer
  phase_counted Advertising = refl
  phase_counted Reading = refl
  phase_counted (Refusing fault) = refl
  phase_counted (Ended outcome) = refl

  pub fields_counted : (server : HostServer A) → bytes_held_by_fields server ≡ bytes_held server
  fields_counted server = ap (λ (n : ℕ). stream_held server.stream + n) (phase_counted server.phase)
