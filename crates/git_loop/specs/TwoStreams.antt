-- Two readers as the inputs of a run, and one writer as its output.
use Rattle.std.specs.Prelude.{◌≡◌, ◌≢◌, ◌⊎◌, ℕ, true, false, List, [], ◌∷◌, ◌++◌, Option, Result, Ok, Err}
use Rattle.std.specs.Borrow.{MutBor}
use Rattle.git_pkt.specs.Streams.{flow, is_broken, Moves}
use Rattle.git_pkt.specs.Machine.Recorded.{inner_of}
use Rattle.git_pkt.specs.declared.recorded.Recorded.{Recorded}
use Rattle.git_pkt.specs.declared.fault.RunFault.{RunFault}
use Rattle.git_pkt.specs.declared.fault.RunFault.TheVariants.{ReadFault, WriteFault, ReadLimit, Refused}
use Rattle.git_loop.specs.Moves.{Move, ended_after, given_to, used_of}
use Rattle.git_loop.specs.Streams.{InputState, recorded_input, two_inputs, window_of}
use Rattle.git_loop.specs.Machines.{States, WaitsFor}
use Rattle.git_loop.specs.declared.two_inputs.TwoInputs.{TwoInputs}

-- the numbers of two inputs
abbrev pub IsOneOfTwo : ℕ → Type 0
IsOneOfTwo k = (k ≡ 0) ⊎ (k ≡ 1)

module _ {Q R : Type 0} where
  -- the reader of the input of the number 0
  abbrev pub first_reader_of : TwoInputs Q R → Recorded Q
  first_reader_of two = two.first.now

  -- the reader of the input of the number 1
  abbrev pub second_reader_of : TwoInputs Q R → Recorded R
  second_reader_of two = two.second.now

  -- the bytes that were read of the input of the number 0 and not used yet
  abbrev pub first_waiting : TwoInputs Q R → List ℕ
  first_waiting two = window_of two.first_start two.first_end two.first_buffer.now

  -- the bytes that were read of the input of the number 1 and not used yet
  abbrev pub second_waiting : TwoInputs Q R → List ℕ
  second_waiting two = window_of two.second_start two.second_end two.second_buffer.now

  -- the first input is read through this borrow of a reader
  abbrev pub ReadsFirstFrom : TwoInputs Q R → MutBor (Recorded Q) → Type 0
  ReadsFirstFrom two reader = two.first.ghost_name ≡ reader.ghost_name

  -- what is read of the first input goes into this borrow of memory
  abbrev pub ReadsFirstInto : TwoInputs Q R → MutBor (List ℕ) → Type 0
  ReadsFirstInto two buffer = two.first_buffer.ghost_name ≡ buffer.ghost_name

  -- the second input is read through this borrow of a reader
  abbrev pub ReadsSecondFrom : TwoInputs Q R → MutBor (Recorded R) → Type 0
  ReadsSecondFrom two reader = two.second.ghost_name ≡ reader.ghost_name

  -- what is read of the second input goes into this borrow of memory
  abbrev pub ReadsSecondInto : TwoInputs Q R → MutBor (List ℕ) → Type 0
  ReadsSecondInto two buffer = two.second_buffer.ghost_name ≡ buffer.ghost_name

  -- both have the same two readers and the same two buffers
  abbrev pub HaveSameReaders : TwoInputs Q R → TwoInputs Q R → Type 0
  HaveSameReaders old new =
      ((new.first.ghost_name ≡ old.first.ghost_name) × (new.first_buffer.ghost_name ≡ old.first_buffer.ghost_name))
      × ((new.second.ghost_name ≡ old.second.ghost_name) × (new.second_buffer.ghost_name ≡ old.second_buffer.ghost_name))

-- ---- a run over two readers and one writer

-- of one of the two inputs
abbrev pub OfEither : (ℕ → Type 0) → Type 0
OfEither P = P 0 ⊎ P 1

-- the meaning of each result of a run
abbrev pub EndsTwo : Result (Unit {0}) RunFault → (ℕ → Type 0) → Type 0 → (ℕ → InputState) → Type 0
EndsTwo (Ok done) needs_input finished inputs = finished
EndsTwo (Err ReadFault) needs_input finished inputs = OfEither (λ k. WaitsFor needs_input inputs k × ((inputs k).failed ≡ true))
EndsTwo (Err ReadLimit) needs_input finished inputs = OfEither (λ k. WaitsFor needs_input inputs k)
EndsTwo (Err WriteFault) needs_input finished inputs = Unit {0}
EndsTwo (Err (Refused fault)) needs_input finished inputs = ⊥

-- how the input of a number was left, which had not ended before: it was closed if it ended, and then all its bytes were used. If the machine
-- stopped short of a byte of it, that waits, or the machine had stopped short of it before the run.
pub record IsLeft {M : Type 0} (states : States M) (old new : M) (trace : List Move) (k : ℕ) (input : InputState) : Type 0 where
  pub closed : input.ended ≡ ended_after k false trace
  pub whole : input.ended ≡ true → input.window ≡ []
  pub short : states.reachable old → states.stopped_short new k → (input.window ≢ []) ⊎ states.stopped_short old k

-- how the bytes read and written relate to the machine: it used a prefix of those read of each input, and its output was written
pub record RanBoth {M : Type 0} (states : States M) (needs_input : ℕ → Type 0) (finished : Type 0) (result : Result (Unit {0}) RunFault) (old new : M)
    (first second : InputState) (read written : List (List ℕ)) : Type 0 where
  pub trace : List Move
  pub received : read ≡ (used_of 0 trace ++ first.window) ∷ (used_of 1 trace ++ second.window) ∷ []
  pub sent : written ≡ given_to 0 trace ∷ []
  pub reaches : states.reaches old trace new
  pub first_left : IsLeft states old new trace 0 first
  pub second_left : IsLeft states old new trace 1 second
  pub ends : EndsTwo result needs_input finished (two_inputs first second)

-- the same of two readers, whose windows hold what was read and not used, and of a writer, as far as it is known what the readers have
-- left and what the writer holds
abbrev pub RanTwo : {M Q R W : Type 0} → (Q → Option (List ℕ)) → (R → Option (List ℕ)) → (W → Option (List ℕ)) → States M
    → (needs_input : ℕ → Type 0) → (finished : Type 0) → Result (Unit {0}) RunFault → M → M → Recorded Q → Recorded Q → Recorded R → Recorded R
    → (window other_window : List ℕ) → Recorded W → Recorded W → Type 0
RanTwo of_first of_second contents states needs_input finished result old new first first_after second second_after window other_window writer
    writer_after =
    Moves (is_broken result)
    (RanBoth states needs_input finished result old new (recorded_input of_first first_after window)
    (recorded_input of_second second_after other_window))
    (flow (of_first (inner_of first)) (of_first (inner_of first_after))
    ∷ flow (of_second (inner_of second)) (of_second (inner_of second_after)) ∷ [])
    (flow (contents (inner_of writer)) (contents (inner_of writer_after)) ∷ [])
