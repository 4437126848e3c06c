-- What the bytes used so far ask for, and what is left after the whole requests, for each stage of a reader.
use Rattle.std.proofs.Common.{[], ◌≡◌, ℕ, true, false, List, length, Some, None, refl, rules}
use Rattle.git_pkt.specs.Splits.{Given}
use Rattle.git_pkt.specs.Faults.{IsOpen}
use Rattle.git_pkt.specs.declared.fault.Fault.{Fault}
use Rattle.git_pkt.proofs.KnownRest.{sound_rest}
use Rattle.git_msg.specs.declared.offers.Offer.{Offer}
use Rattle.git_msg.specs.Asked.{Asked}
use Rattle.git_msg.specs.Requests.{AreBegun, IsStop}
use Rattle.git_msg.specs.Machine.StreamStages.{fault_in, takes_bytes, stage_is_between}
use Rattle.git_msg.specs.Machine.RequestStreams.{AreAsked, HasRead, IsLeftIn, IsRefusedAs, fault_of}
use Rattle.git_msg.specs.Machine.RequestStreams.{is_between, is_within_packet, limit_of, offer_of, wants_input}
use Rattle.git_msg.specs.declared.streams.RequestStream.{RequestStream}
use Rattle.git_msg.specs.declared.streams.Stage.{Stage}
use Rattle.git_msg.specs.declared.streams.Stage.TheVariants.{Between, Stopped, Failed}
use Rattle.git_msg.proofs.StreamEnds.{nothing_left}
use Rattle.git_msg.proofs.StreamSteps.{left_begins}

-- only one stage is before a request
between_requests : (stage : Stage) → stage_is_between stage ≡ true → stage ≡ Between
between_requests Between is = refl
between_requests stage is = absurd (cc)

-- in that stage the reader reads on
pub reads_between : (stage : Stage) → stage_is_between stage ≡ true → takes_bytes stage ≡ true
reads_between Between is = refl
reads_between stage is = absurd (cc)

-- a stage without an error that reads no further: only a flush is left
left_stopped : (offer : Offer) (limit : ℕ) (left : List Given) (rest : List ℕ) (end : ℕ) (stage : Stage)
    → takes_bytes stage ≡ false → fault_in stage ≡ None → IsLeftIn stage offer limit left rest end → IsStop left × (rest ≡ [])
left_stopped offer limit left rest end Stopped quiet sound h = h
left_stopped offer limit left rest end stage quiet sound h = absurd (cc)

-- a stage with an error: the packets left are refused with it
left_refused : (offer : Offer) (limit : ℕ) (left : List Given) (rest : List ℕ) (end : ℕ) (fault : Fault) (stage : Stage)
    → fault_in stage ≡ Some fault → IsLeftIn stage offer limit left rest end → IsRefusedAs offer limit left rest end fault
left_refused offer limit left rest end fault (Failed other) announced h = search rules
left_refused offer limit left rest end fault stage announced h = absurd (cc)

module _ {A : Type 0} {used : List ℕ} {asked : List Asked} {s : RequestStream A} (h : HasRead used asked s) where
  -- the bytes used are whole requests and what is left
  pub asked_so_far : AreAsked (offer_of s) (limit_of s) used asked h.left h.rest
  asked_so_far = record { packets = h.packets; splits = h.reads.splits; requests = h.requests }

  -- if the reader reads on, the packets left are lines that begin a request, and a packet may come from the bytes after them
  pub begun_so_far : wants_input s ≡ true → AreBegun (offer_of s) (limit_of s) h.left × IsOpen h.rest
  begun_so_far wants = search (rules, left_begins, sound_rest)

  -- between two requests, if no packet has begun, nothing is left
  pub nothing_begun : is_between s ≡ true → is_within_packet s ≡ false → (h.left ≡ []) × (h.rest ≡ [])
  nothing_begun is shut = nothing_left s (between_requests s.stage is) (h.onward (reads_between s.stage is)).sound shut h

  -- after a flush instead of a request, that flush is left
  pub stopped_at : wants_input s ≡ false → fault_of s ≡ None → IsStop h.left × (h.rest ≡ [])
  stopped_at quiet sound = left_stopped (offer_of s) (limit_of s) h.left h.rest (length used) s.stage quiet sound h.left_is

  -- after an error, what is left is refused with it
  pub refused_as : {fault : Fault} → fault_of s ≡ Some fault → IsRefusedAs (offer_of s) (limit_of s) h.left h.rest (length used) fault
  refused_as {fault = fault} announced = left_refused (offer_of s) (limit_of s) h.left h.rest (length used) fault s.stage announced h.left_is
