-- What the bytes used so far ask for, and what is left after the whole requests, by the stage of a reader of them.
use Rattle.std.proofs.Common.{[], ◌≡◌, ◌≢◌, ◌⊎◌, ℕ, ◌+◌, true, false, List, ◌++◌, length, Some, None, refl, subst, append-nil, inl, inr, arith}
use Rattle.git_pkt.specs.Splits.{Given}
use Rattle.git_pkt.specs.Faults.{IsOpen}
use Rattle.git_pkt.specs.Machine.PacketReader.{ReadsOn, fault_of as packet_fault, is_open, open_length, position_of}
use Rattle.git_pkt.specs.declared.fault.Fault.{Fault}
use Rattle.git_pkt.specs.declared.fault.Kind.TheVariants.{Truncated}
use Rattle.git_pkt.proofs.KnownRest.{rest_length, some_inside, sound_rest}
use Rattle.git_msg.specs.Requests.{IsStop}
use Rattle.git_msg.proofs.StreamSteps.{rest_behind}
use Rattle.git2show_lib.specs.Others.{Advertised, judged_of}
use Rattle.git2show_lib.specs.OtherLines.{Question}
use Rattle.git2show_lib.specs.Machine.JudgedRequests.{AreAskedBy, HasRead, IsBegun, IsLeft, IsReady, IsRefused, advertised_by, fault_in, fault_of, is_between}
use Rattle.git2show_lib.specs.Machine.JudgedRequests.{is_within_packet, limit_of, stage_is_between, takes_bytes, wants_input}
use Rattle.git2show_lib.specs.declared.judged_requests.JudgedRequests.{JudgedRequests}
use Rattle.git2show_lib.specs.declared.judged_requests.Stage.{Stage}
use Rattle.git2show_lib.specs.declared.judged_requests.Stage.TheVariants.{Between, Within, Passing, Stopped, Failed}
use Rattle.git2show_lib.proofs.JudgedStages.{left_begun}
use Rattle.git2show_lib.proofs.JudgedSteps.{cut_read}

module _ (by : Advertised) (limit : ℕ) (left : List Given) (rest : List ℕ) (end : ℕ) where
  -- before a request nothing is left
  none_between : (stage : Stage) → stage_is_between stage ≡ true → IsLeft stage by limit left rest end → left ≡ []
  none_between Between is h = h
  none_between Within is h = absurd (cc)
  none_between Passing is h = absurd (cc)
  none_between Stopped is h = absurd (cc)
  none_between (Failed fault) is h = absurd (cc)

  -- a stage that reads no further, with no fault: what is left is a flush alone
  left_stopped : (stage : Stage) → takes_bytes stage ≡ false → fault_in stage ≡ None → IsLeft stage by limit left rest end
      → IsStop (judged_of by.text left) × (rest ≡ [])
  left_stopped Between quiet sound h = absurd (cc)
  left_stopped Within quiet sound h = absurd (cc)
  left_stopped Passing quiet sound h = absurd (cc)
  left_stopped Stopped quiet sound h = h
  left_stopped (Failed fault) quiet sound h = absurd (cc)

  -- a stage with a fault: what is left is refused by it
  left_refused_as : (fault : Fault) (stage : Stage) → fault_in stage ≡ Some fault → IsLeft stage by limit left rest end → IsRefused by limit left rest end fault
  left_refused_as fault Between announced h = absurd (cc)
  left_refused_as fault Within announced h = absurd (cc)
  left_refused_as fault Passing announced h = absurd (cc)
  left_refused_as fault Stopped announced h = absurd (cc)
  left_refused_as fault (Failed other) announced h = subst (λ (f : Fault). IsRefused by limit left rest end f) (cc) h

module _ {A : Type 0} {used : List ℕ} {asked : List Question} {s : JudgedRequests A} (h : HasRead used asked s) where
  -- what was used is whole requests, and what is left
  pub asked_so_far : AreAskedBy (advertised_by s) (limit_of s) used asked h.left h.rest
  asked_so_far = record { packets = h.packets; splits = h.reads.splits; requests = h.requests }

  -- where more is read, that begins a request, and bytes that a packet may begin with
  pub begun_so_far : IsReady s
      → IsBegun (advertised_by s) (limit_of s) h.left × IsOpen h.rest
  begun_so_far ready = (
    left_begun (advertised_by s) (limit_of s) h.left h.rest (length used) s.judge.stage ready.judging.wants h.left_is,
    (sound_rest s.packets 0 used h.packets h.rest ready.sound h.reads).1,
  )

  -- between two requests, where no packet has begun, nothing is left
  pub nothing_begun : is_between s ≡ true → is_within_packet s ≡ false → packet_fault s.packets ≡ None → (h.left ≡ []) × (h.rest ≡ [])
  nothing_begun is shut sound = (
    none_between (advertised_by s) (limit_of s) h.left h.rest (length used) s.judge.stage is h.left_is,
    rest_behind s.packets used h.packets h.rest sound shut h.reads,
  )

  -- and all that was used is whole requests
  pub all_whole : is_between s ≡ true → is_within_packet s ≡ false → packet_fault s.packets ≡ None
      → AreAskedBy (advertised_by s) (limit_of s) used asked [] []
  all_whole is shut sound =
      let (nothing, none) = nothing_begun is shut sound in
      subst (λ (left : List Given). AreAskedBy (advertised_by s) (limit_of s) used asked left []) nothing
      (subst (λ (rest : List ℕ). AreAskedBy (advertised_by s) (limit_of s) used asked h.left rest) none asked_so_far)

  -- after a flush instead of a request, that flush is left
  pub stopped_at : wants_input s ≡ false → fault_of s ≡ None → IsStop (judged_of (advertised_by s).text h.left) × (h.rest ≡ [])
  stopped_at quiet sound = left_stopped (advertised_by s) (limit_of s) h.left h.rest (length used) s.judge.stage quiet sound h.left_is

  -- after a fault, what is left is refused by it
  pub refused_as : {fault : Fault} → fault_of s ≡ Some fault → IsRefused (advertised_by s) (limit_of s) h.left h.rest (length used) fault
  refused_as {fault = fault} announced = left_refused_as (advertised_by s) (limit_of s) h.left h.rest (length used) fault s.judge.stage announced h.left_is

-- the input ends inside a request
module _ {A : Type 0} (old new : JudgedRequests A) (fault : Fault) (ready : IsReady old)
    (by : advertised_by new ≡ advertised_by old) (limit : limit_of new ≡ limit_of old) (is : new.judge.stage ≡ Failed fault)
    (name : fault.kind ≡ Truncated) (reads : ReadsOn old.packets [] [] new.packets) where
  closed_read : (used : List ℕ) (asked : List Question) (h : HasRead used asked old) → fault.offset + length h.rest ≡ position_of old.packets
      → (stage_is_between old.judge.stage ≡ false) ⊎ (h.rest ≢ []) → HasRead used asked new
  closed_read used asked h at inside =
      subst (λ (l : List ℕ). HasRead l asked new) (append-nil used)
      (subst (λ (qs : List Question). HasRead (used ++ []) qs new) (append-nil asked)
      (cut_read old new [] ready.judging.wants by limit used asked h fault is name ready.sound at inside refl reads))

  -- and inside a packet
  pub closed_open : is_open old.packets ≡ true → fault.offset + open_length old.packets ≡ position_of old.packets
      → (used : List ℕ) (asked : List Question) → HasRead used asked old → HasRead used asked new
  closed_open opened at used asked h =
      let held = (sound_rest old.packets 0 used h.packets h.rest ready.sound h.reads).0 in
      closed_read used asked h (omega (arith, at, rest_length old.packets h.rest held)) (inr (some_inside old.packets h.rest held opened))

  -- or between two
  pub closed_within : is_open old.packets ≡ false → is_between old ≡ false → fault.offset ≡ position_of old.packets
      → (used : List ℕ) (asked : List Question) → HasRead used asked old → HasRead used asked new
  closed_within shut within at used asked h =
      let none = rest_behind old.packets used h.packets h.rest ready.sound shut h.reads in
      closed_read used asked h (rw none (omega (arith, at))) (inl within)
