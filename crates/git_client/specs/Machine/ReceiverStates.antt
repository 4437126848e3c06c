-- The states of a receiver in a run, and the laws that join its calls.
use Rattle.std.specs.Prelude.{◌≡◌, ℕ, Bool, true, false, List, [], ◌++◌, length, Option, Some, None}
use Rattle.std.proofs.Common.{refl, sym, ap, ◌∙◌, subst, append_assoc, append-nil}
use Rattle.git_loop.specs.InChunks.{LiesIn, bytes_in}
use Rattle.git_loop.specs.Moves.{Move, ended_after, given_to, used_of, ended_after-append, given_to-append, used_of-append}
use Rattle.git_loop.specs.declared.in_chunk.InChunk.{InChunk}
use Rattle.git_pkt.specs.Streams.{Flow, flow}
use Rattle.git_pkt.specs.declared.fault.Fault.{Fault}
use Rattle.git_pkt.specs.declared.fault.Kind.TheVariants.{StreamTooLong, Truncated}
use Rattle.git_client.specs.Machine.Client.{can_ask, fault_of, wants_input}
use Rattle.git_client.specs.Machine.RunSteps.{ReceivesBytes}
use Rattle.git_client.specs.Machine.Turns.{fault_in, takes_packets}
use Rattle.git_client.specs.declared.client.Client.{Client}
use Rattle.git_client.specs.declared.phase.Phase.{Phase}
use Rattle.git_client.specs.declared.phase.Phase.TheVariants.{Receiving}
use Rattle.git_client.specs.declared.events.Event.{Event}
use Rattle.git_client.specs.declared.events.Event.TheVariants.{Pack as PackEvent, Progress as ProgressEvent}
use Rattle.git_client.specs.declared.receiver.Passing.{Passing}
use Rattle.git_client.specs.declared.receiver.Passing.TheVariants.{Nothing, Pack, Progress}
use Rattle.git_client.specs.declared.receiver.Receiver.{Receiver}
use Rattle.git_client.specs.declared.receiving.Counts.{Counts}

-- ---- the bytes in the chunk that are still to be given

-- those of the pack
abbrev pub pack_in : Passing → List ℕ → List ℕ
pack_in Nothing bytes = []
pack_in Pack bytes = bytes
pack_in Progress bytes = []

-- those of the progress
abbrev pub progress_in : Passing → List ℕ → List ℕ
progress_in Nothing bytes = []
progress_in Pack bytes = []
progress_in Progress bytes = bytes

-- one if there are some
abbrev pub parts_in : Passing → ℕ
parts_in Nothing = 0
parts_in Pack = 1
parts_in Progress = 1

-- they lie in this chunk
abbrev pub PassesIn : Passing → InChunk → List ℕ → Type 0
PassesIn Nothing passed chunk = Unit {0}
PassesIn Pack passed chunk = LiesIn passed chunk
PassesIn Progress passed chunk = LiesIn passed chunk

-- ---- the lines

-- those that wait: all, unless they are lent
abbrev pub lines_in : Bool → List ℕ → List ℕ
lines_in true lines = []
lines_in false lines = lines

-- the part that is lent: lines, or bytes of the chunk
abbrev pub IsLent : Bool → List ℕ → InChunk → List ℕ → List ℕ → Type 0
IsLent true lines passed chunk bytes = bytes ≡ lines
IsLent false lines passed chunk bytes = LiesIn passed chunk × (bytes ≡ bytes_in passed)

-- which bytes of an event pass, and how many
abbrev pub PassesOn : Event → Passing → ℕ → Type 0
PassesOn (PackEvent bytes) passing count = (passing ≡ Pack) × (count ≡ length bytes.now)
PassesOn (ProgressEvent bytes) passing count = (passing ≡ Progress) × (count ≡ length bytes.now)
PassesOn event passing count = passing ≡ Nothing

-- ---- the client's error

abbrev pub IsTooLong : Option Fault → Type 0
IsTooLong None = ⊥
IsTooLong (Some fault) = fault.kind ≡ StreamTooLong

sound_where_expected : (phase : Phase) → takes_packets phase ≡ true → fault_in phase ≡ None
sound_where_expected (Receiving expected) e = refl
sound_where_expected phase e = absurd (cc)

module _ {A : Type 0} where
  -- it has lent all, and none of it is lent now
  pub record HasGivenAll (r : Receiver A) : Type 0 where
    pub lines : r.lines.now ≡ []
    pub unlent : r.lends_lines ≡ false
    pub passed : r.passing ≡ Nothing

  -- the client needs more
  pub record Waits (r : Receiver A) : Type 0 where
    pub expected : wants_input r.client.now ≡ true
    pub given : HasGivenAll r

  -- the client can ask or has failed
  pub record HasFinished (r : Receiver A) : Type 0 where
    pub over : wants_input r.client.now ≡ false
    pub given : HasGivenAll r

-- ---- the calls of a run

-- an output that was empty, and now has these bytes
abbrev pub held : List ℕ → Flow
held bytes = flow (Some []) (Some bytes)

-- what a receiver has used and given since it began, and whether its input has ended
pub record Received (A : Type 0) : Type 0 where
  pub client : Client A
  pub counts : Counts
  pub used : List ℕ
  pub over : Bool
  pub lines : List ℕ
  pub packed : List ℕ
  pub reported : List ℕ

given_further : (k : ℕ) (before : List ℕ) (t u : List Move) → (before ++ given_to k t) ++ given_to k u ≡ before ++ given_to k (t ++ u)
given_further k before t u = append_assoc before (given_to k t) (given_to k u) ∙ ap (λ (l : List ℕ). before ++ l) (sym (given_to-append k t u))

module _ {A : Type 0} where
  -- it has just begun with this client and these counts
  abbrev pub received_first : Client A → Counts → Received A
  received_first client counts =
      record { client = client; counts = counts; used = []; over = false; lines = []; packed = []; reported = [] }

  abbrev pub received_with : Received A → List ℕ → Bool → List ℕ → List ℕ → List ℕ → Received A
  received_with so_far used over lines packed reported =
      record { client = so_far.client; counts = so_far.counts; used = used; over = over; lines = lines; packed = packed; reported = reported }

  -- the same after these moves
  abbrev pub received_after : Received A → List Move → Received A
  received_after h trace =
      received_with h (h.used ++ used_of 0 trace) (ended_after 0 h.over trace) (h.lines ++ given_to 0 trace) (h.packed ++ given_to 1 trace)
      (h.reported ++ given_to 2 trace)

  -- The client received the bytes used. What they add to each output went out or waits. The client has an error if the input has ended, and one of
  -- truncation only then.
  pub record HasReceived (h : Received A) (r : Receiver A) : Type 0 where
    pub bytes : ReceivesBytes false h.client r.client.now h.counts r.counts h.used (held (h.lines ++ lines_in r.lends_lines r.lines.now))
        (held (h.packed ++ pack_in r.passing (bytes_in r.passed))) (held (h.reported ++ progress_in r.passing (bytes_in r.passed)))
    pub whole : wants_input r.client.now ≡ false → fault_of r.client.now ≡ None → can_ask r.client.now ≡ true
    pub truncated : (fault : Fault) → fault_of r.client.now ≡ Some fault → fault.kind ≡ Truncated → h.over ≡ true
    pub closed : h.over ≡ true → (fault : Fault) × (fault_of r.client.now ≡ Some fault)

  -- what held before these moves holds after them, with what they used and gave
  abbrev pub ReceiverReaches : Receiver A → List Move → Receiver A → Type 0
  ReceiverReaches old trace new = (h : Received A) → HasReceived h old → HasReceived (received_after h trace) new

  with_nothing : (h : Received A) → received_after h [] ≡ h
  with_nothing h =
      ap (λ (l : List ℕ). received_with h l h.over (h.lines ++ []) (h.packed ++ []) (h.reported ++ [])) (append-nil h.used)
      ∙ ap (λ (l : List ℕ). received_with h h.used h.over l (h.packed ++ []) (h.reported ++ [])) (append-nil h.lines)
      ∙ ap (λ (l : List ℕ). received_with h h.used h.over h.lines l (h.reported ++ [])) (append-nil h.packed)
      ∙ ap (λ (l : List ℕ). received_with h h.used h.over h.lines h.packed l) (append-nil h.reported)

  with_more : (h : Received A) (t u : List Move) → received_after (received_after h t) u ≡ received_after h (t ++ u)
  with_more h t u =
      let used = append_assoc h.used (used_of 0 t) (used_of 0 u) ∙ ap (λ (l : List ℕ). h.used ++ l) (sym (used_of-append 0 t u)) in
      let over = ended_after 0 (ended_after 0 h.over t) u in
      let lines = (h.lines ++ given_to 0 t) ++ given_to 0 u in
      let packed = (h.packed ++ given_to 1 t) ++ given_to 1 u in
      let reported = (h.reported ++ given_to 2 t) ++ given_to 2 u in
      let all = h.used ++ used_of 0 (t ++ u) in
      let ended = ended_after 0 h.over (t ++ u) in
      ap (λ (l : List ℕ). received_with h l over lines packed reported) used
      ∙ ap (λ (b : Bool). received_with h all b lines packed reported) (sym (ended_after-append 0 h.over t u))
      ∙ ap (λ (l : List ℕ). received_with h all ended l packed reported) (given_further 0 h.lines t u)
      ∙ ap (λ (l : List ℕ). received_with h all ended (h.lines ++ given_to 0 (t ++ u)) l reported) (given_further 1 h.packed t u)
      ∙ ap (λ (l : List ℕ). received_with h all ended (h.lines ++ given_to 0 (t ++ u)) (h.packed ++ given_to 1 (t ++ u)) l)
      (given_further 2 h.reported t u)

  pub reaches_itself : (r : Receiver A) → ReceiverReaches r [] r
  reaches_itself r h has = subst (λ (x : Received A). HasReceived x r) (sym (with_nothing h)) has

  pub reaches_further : (old middle new : Receiver A) (t u : List Move) → ReceiverReaches old t middle → ReceiverReaches middle u new
      → ReceiverReaches old (t ++ u) new
  reaches_further old middle new t u first second h has =
      subst (λ (x : Received A). HasReceived x new) (with_more h t u) (second (received_after h t) (first h has))

  pub waits_open : (r : Receiver A) → Waits r → wants_input r.client.now ≡ false → ⊥
  waits_open r waits over = let no : false ≡ true = sym over ∙ waits.expected in absurd (cc)

  pub waits_in_time : (r : Receiver A) → Waits r → IsTooLong (fault_of r.client.now) → ⊥
  waits_in_time r waits too_long = subst IsTooLong (sound_where_expected r.client.now.phase waits.expected) too_long

  pub passes_none : (r : Receiver A) → Waits r → PassesIn r.passing r.passed []
  passes_none r waits = subst (λ (p : Passing). PassesIn p r.passed []) (sym waits.given.passed) tt
