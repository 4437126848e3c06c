-- One loop over any machine: it reads, feeds the machine, and writes what the machine gives.
use Rattle.std.specs.Prelude.{◌≡◌, ◌≢◌, ◌⊎◌, ℕ, ◌+◌, ◌≤◌, Bool, true, false, List, [], ◌∷◌, ◌++◌, length, Option, Some, None, Result, Ok, Err}
use Rattle.std.specs.Io.KnownBytes.{Consumes}
use Rattle.git_pkt.specs.Streams.{flow, is_broken, Moves, WrittenAs}
use Rattle.git_pkt.specs.Machine.Recorded.{inner_of, has_ended}
use Rattle.git_pkt.specs.declared.recorded.Recorded.{Recorded}
use Rattle.git_pkt.specs.declared.fault.RunFault.{RunFault}
use Rattle.git_pkt.specs.declared.fault.RunFault.TheVariants.{ReadFault, WriteFault, ReadLimit, Refused}
use Rattle.git_loop.specs.Moves.{Move, gave, ended_after, given_to, used_of}
use Rattle.git_loop.specs.Streams.{EndsAtItsEnd, InputState, IsOpen}

-- calls lead from the first state to the last, with these moves
abbrev pub StateRelation : Type 0 → Type 1
StateRelation M = M → List Move → M → Type 0

-- what an implementation of `Machine` names of its states, as far as a run's clauses speak of it
pub record States (M : Type 0) : Type 1 where
  pub reaches : StateRelation M
  pub needs_input : M → ℕ → Type 0
  pub done_with : M → ℕ → Type 0
  pub stopped_short : M → ℕ → Type 0
  pub reachable : M → Type 0

-- those of a machine, from its ghost items
abbrev pub states_of : {M : Type 0} → StateRelation M → (M → ℕ → Type 0) → (M → ℕ → Type 0) → (M → ℕ → Type 0) → (M → Type 0) → States M
states_of reaches needs_input done_with stopped_short reachable = record {
  reaches = reaches;
  needs_input = needs_input;
  done_with = done_with;
  stopped_short = stopped_short;
  reachable = reachable;
}

-- the last call gave these bytes as the next part of the output of this number, and the machine lends them
pub record GivesPart {M : Type 0} (Reaches : StateRelation M) (Lends : M → List ℕ → Type 0) (old : M) (to : ℕ) (new : M) : Type 0 where
  pub bytes : List ℕ
  pub lent : Lends new bytes
  pub reaches : Reaches old (gave to bytes ∷ []) new

-- ---- some calls of a run

-- These bytes of an input were used, and no read of it was wasted. If it is still open, it was open before, and its reads brought no fewer bytes
-- than there were reads. If no bytes waited of it where it had ended before, none wait where it has ended now.
pub record Uses (old new : InputState) (bytes : List ℕ) : Type 0 where
  pub left : Consumes old.left new.left bytes
  pub useful : new.wasted ≡ old.wasted
  pub enough : IsOpen new → IsOpen old × (new.reads + length old.window ≤ old.reads + length bytes + length new.window)
  pub emptied : (old.ended ≡ true → old.window ≡ []) → new.ended ≡ true → new.window ≡ []

-- Moves led the machine from the one state to the other. What they used left the inputs, what they gave was written to the outputs (a prefix of
-- that, if a write or a flush failed: `broken`), and the inputs that they closed have ended. The machine stays done with what it was done with. If it
-- stopped short of a byte of an input, bytes of that wait, or it had stopped short of it before and what waits is as it was.
pub record Went {M : Type 0} (states : States M) (broken : Bool) (old new : M) (first now : ℕ → InputState) (before after : ℕ → Option (List ℕ))
    : Type 0 where
  pub trace : List Move
  pub reaches : states.reaches old trace new
  pub used : (k : ℕ) → Uses (first k) (now k) (used_of k trace)
  pub ended : (k : ℕ) → (now k).ended ≡ ended_after k (first k).ended trace
  pub written : (k : ℕ) → WrittenAs broken (flow (before k) (after k)) (given_to k trace)
  pub done : (k : ℕ) → states.done_with old k → states.done_with new k
  pub short : states.reachable old → (k : ℕ) → states.stopped_short new k
      → ((now k).window ≢ []) ⊎ (states.stopped_short old k × ((now k).window ≡ (first k).window))

-- the state of a machine when all that it gave was written: it needs an input, or it has finished
abbrev pub IsAt : Option ℕ → (ℕ → Type 0) → Type 0 → Type 0
IsAt (Some from) needs_input finished = needs_input from
IsAt None needs_input finished = finished

-- no bytes wait of the input that it needs, if it needs one
abbrev pub HasNothing : Option ℕ → (ℕ → InputState) → Type 0
HasNothing (Some from) inputs = (inputs from).window ≡ []
HasNothing None inputs = Unit {0}

-- an input stays as it is if no bytes of it wait
abbrev pub KeepsEmptyOnes : (ℕ → InputState) → (ℕ → InputState) → Type 0
KeepsEmptyOnes old new = (k : ℕ) → (old k).window ≡ [] → new k ≡ old k

-- no read was made
pub record SameCalls (old new : InputState) : Type 0 where
  pub reads : new.reads ≡ old.reads
  pub failed : new.failed ≡ old.failed
  pub ended : new.ended ≡ old.ended

-- ---- the reads of a run

-- what a run's clauses see of its inputs and outputs
pub record Views (I O : Type 0) : Type 0 where
  pub input : I → ℕ → InputState
  pub contents : O → ℕ → Option (List ℕ)
  pub flushed : O → Bool

-- a moment of a run: the machine, the inputs and the outputs as they then were
pub record Moment (M I O : Type 0) : Type 0 where
  pub machine : M
  pub inputs : I
  pub outputs : O

-- a read of the input of this number, and the moment just before it
pub record Reading (M I O : Type 0) : Type 0 where
  pub at : Moment M I O
  pub from : ℕ

-- no read was made of an input, and nothing happened to it if no bytes of it waited
pub record IsUnread (old new : InputState) : Type 0 where
  pub reads : new.reads ≡ old.reads
  pub empty : old.window ≡ [] → new ≡ old

-- at most one read was made, of the input of this number
pub record ReadsOnce (from : ℕ) (old new : ℕ → InputState) : Type 0 where
  pub once : (new from).reads ≤ (old from).reads + 1
  pub others : (k : ℕ) → k ≢ from → IsUnread (old k) (new k)

abbrev pub ReadsNone : (ℕ → InputState) → (ℕ → InputState) → Type 0
ReadsNone old new = (k : ℕ) → IsUnread (old k) (new k)

module _ {M I O : Type 0} (states : States M) (views : Views I O) where
  abbrev pub WentOn : Bool → Moment M I O → Moment M I O → Type 0
  WentOn broken old new = Went states broken old.machine new.machine (views.input old.inputs) (views.input new.inputs) (views.contents old.outputs)
      (views.contents new.outputs)

  -- the machine needs the input that is read, no bytes of that wait, and all that was sent was flushed
  pub record IsNeeded (reading : Reading M I O) : Type 0 where
    pub needs : states.needs_input reading.at.machine reading.from
    pub empty : (views.input reading.at.inputs reading.from).window ≡ []
    pub flushed : views.flushed reading.at.outputs ≡ true

  -- A run led from the first moment to the last, and these are its reads, the last one first. Each was needed at its moment; from there to the
  -- moment of the next one, or to the end, that one read was made and no other; and before the first one none was.
  abbrev pub LeadBy : Bool → Moment M I O → List (Reading M I O) → Moment M I O → Type 0
  LeadBy broken first [] now = WentOn broken first now × ReadsNone (views.input first.inputs) (views.input now.inputs)
  LeadBy broken first (reading ∷ earlier) now =
      LeadBy false first earlier reading.at × IsNeeded reading × WentOn broken reading.at now
      × ReadsOnce reading.from (views.input reading.at.inputs) (views.input now.inputs)

  -- each read of a run was made at a moment at which it was needed
  pub record ReadsAsNeeded (broken : Bool) (first now : Moment M I O) : Type 0 where
    pub readings : List (Reading M I O)
    pub lead : LeadBy broken first readings now

-- ---- the end of a run

-- the machine is done with each input that has ended
abbrev pub KnowsEnds : (ℕ → Type 0) → (ℕ → InputState) → (ℕ → Type 0) → Type 0
KnowsEnds has inputs done = (k : ℕ) → has k → (inputs k).ended ≡ true → done k

-- where an input has reported its end, no known byte is left of it
abbrev pub AreReadToTheEnd : (ℕ → Type 0) → (ℕ → InputState) → Type 0
AreReadToTheEnd has inputs = (k : ℕ) → has k → EndsAtItsEnd (inputs k).ended (inputs k).left

-- all that was sent was flushed, unless a write or a flush failed
abbrev pub EndsFlushed : Result (Unit {0}) RunFault → Bool → Type 0
EndsFlushed (Err WriteFault) flushed = Unit {0}
EndsFlushed (Err ReadFault) flushed = flushed ≡ true
EndsFlushed (Err ReadLimit) flushed = flushed ≡ true
EndsFlushed (Err (Refused fault)) flushed = flushed ≡ true
EndsFlushed (Ok done) flushed = flushed ≡ true

-- the machine needs the input of this number, which has not ended, and has used all that was read of it
pub record WaitsFor (needs_input : ℕ → Type 0) (inputs : ℕ → InputState) (from : ℕ) : Type 0 where
  pub needs : needs_input from
  pub all : (inputs from).window ≡ []
  pub still_open : (inputs from).ended ≡ false

-- the state of the machine, by the result of the run; `spent` states that all reads were made
abbrev pub Ends : Result (Unit {0}) RunFault → (ℕ → Type 0) → Type 0 → Type 0 → (ℕ → InputState) → Type 0
Ends (Ok done) needs_input finished spent inputs = finished
Ends (Err ReadFault) needs_input finished spent inputs = (from : ℕ) × WaitsFor needs_input inputs from × ((inputs from).failed ≡ true)
Ends (Err ReadLimit) needs_input finished spent inputs = (from : ℕ) × WaitsFor needs_input inputs from × spent
Ends (Err WriteFault) needs_input finished spent inputs = Unit {0}
Ends (Err (Refused fault)) needs_input finished spent inputs = ⊥

abbrev pub AreSound : (ℕ → Type 0) → (ℕ → InputState) → Type 0
AreSound has inputs = (k : ℕ) → has k → (inputs k).failed ≡ false

-- of all inputs the one of this number failed
pub record FailedAlone (has : ℕ → Type 0) (inputs : ℕ → InputState) (from : ℕ) : Type 0 where
  pub exists : has from
  pub failed : (inputs from).failed ≡ true
  pub others : (k : ℕ) → has k → k ≢ from → (inputs k).failed ≡ false

-- which streams failed, by the result of the run: an input or the outputs, as it reports, or else none
abbrev pub FailsIn : Result (Unit {0}) RunFault → (ℕ → Type 0) → (ℕ → InputState) → Bool → Type 0
FailsIn (Ok done) has inputs write_failed = AreSound has inputs × (write_failed ≡ false)
FailsIn (Err ReadFault) has inputs write_failed = ((from : ℕ) × FailedAlone has inputs from) × (write_failed ≡ false)
FailsIn (Err WriteFault) has inputs write_failed = AreSound has inputs × (write_failed ≡ true)
FailsIn (Err ReadLimit) has inputs write_failed = AreSound has inputs × (write_failed ≡ false)
FailsIn (Err (Refused fault)) has inputs write_failed = AreSound has inputs × (write_failed ≡ false)

-- what a run's clauses state at its end: whether its machine needs an input, or has finished, whether all reads were made, and whether a
-- write failed
pub record EndStates : Type 1 where
  pub needs_input : ℕ → Type 0
  pub finished : Type 0
  pub spent : Type 0
  pub write_failed : Bool

-- a run led its machine from the one state to the other, over its inputs and outputs, and ended with this result
pub record RanOver {M : Type 0} (states : States M) (at_end : EndStates) (has : ℕ → Type 0) (result : Result (Unit {0}) RunFault) (old new : M)
    (first now : ℕ → InputState) (before after : ℕ → Option (List ℕ)) : Type 0 where
  pub went : Went states (is_broken result) old new first now before after
  pub ends : Ends result at_end.needs_input at_end.finished at_end.spent now
  pub failed : FailsIn result has now at_end.write_failed

-- ---- a run over one reader and one writer

-- the facts about its machine that a run's clauses state: those after the run, and whether it had stopped short before the run
pub record RunStates : Type 1 where
  pub needs_input : Type 0
  pub finished : Type 0
  pub stopped_short : Type 0
  pub stopped_short_before : Type 0

-- it has finished; if it stopped short, a byte that it did not use was read, or it had stopped short before the run
pub record HasFinished (states : RunStates) (unused : List ℕ) : Type 0 where
  pub finished : states.finished
  pub short : states.stopped_short → (unused ≢ []) ⊎ states.stopped_short_before

-- it used all that was read, and needs more
pub record IsWaiting (states : RunStates) (unused : List ℕ) (closed : Bool) : Type 0 where
  pub needs_input : states.needs_input
  pub all : unused ≡ []
  pub still_open : closed ≡ false

-- the meaning of each result of a run. After `ReadLimit` there were at least as many bytes as reads.
abbrev pub EndsRun : Result (Unit {0}) RunFault → RunStates → ℕ → List ℕ → List ℕ → Bool → Type 0
EndsRun (Ok done) states turns used unused closed = HasFinished states unused
EndsRun (Err ReadFault) states turns used unused closed = IsWaiting states unused closed
EndsRun (Err ReadLimit) states turns used unused closed = IsWaiting states unused closed × (turns ≤ length used)
EndsRun (Err WriteFault) states turns used unused closed = Unit {0}
EndsRun (Err (Refused fault)) states turns used unused closed = ⊥

-- how the bytes read and written relate to the machine: it used a prefix of those read, and its output was written. If its
-- input was closed, all bytes were used, and the reader had reported the end.
pub record Ran {M : Type 0} (Reaches : StateRelation M) (old new : M) (states : RunStates)
    (result : Result (Unit {0}) RunFault) (ended : Bool) (turns : ℕ) (read written : List (List ℕ)) : Type 0 where
  pub trace : List Move
  pub unused : List ℕ
  pub received : read ≡ (used_of 0 trace ++ unused) ∷ []
  pub sent : written ≡ given_to 0 trace ∷ []
  pub reaches : Reaches old trace new
  pub whole : ended_after 0 false trace ≡ true → (unused ≡ []) × (ended ≡ true)
  pub ends : EndsRun result states turns (used_of 0 trace) unused (ended_after 0 false trace)

-- the same of a reader and a writer, as far as it is known what the reader has left and what the writer holds
abbrev pub RanOne : {M R W : Type 0} → (R → Option (List ℕ)) → (W → Option (List ℕ)) → StateRelation M → M → M → RunStates
    → Result (Unit {0}) RunFault → ℕ → Recorded R → Recorded R → Recorded W → Recorded W → Type 0
RanOne remaining contents Reaches old new states result turns reader reader_after writer writer_after =
    Moves (is_broken result) (Ran Reaches old new states result (has_ended reader_after) turns)
    (flow (remaining (inner_of reader)) (remaining (inner_of reader_after)) ∷ [])
    (flow (contents (inner_of writer)) (contents (inner_of writer_after)) ∷ [])
