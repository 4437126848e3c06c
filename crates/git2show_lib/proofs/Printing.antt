-- What is shown of packets, call by call of a shower, and what a run of it means for its streams.
use Rattle.std.proofs.Common.{◌≡◌, ◌≢◌, ◌⊎◌, inl, inr, ℕ, ◌+◌, ◌-◌, ◌<◌, ◌≤◌, Bool, true, false, List, [], ◌∷◌, ◌++◌, length, take, drop}
use Rattle.std.proofs.Common.{IsSome, Option, Some, None, Result, Ok, Err, IsErrAnd, arith, ap, sym, ◌∙◌, refl, subst}
use Rattle.std.proofs.Common.{append_assoc, append-nil, length-drop, zero-add}
use Rattle.git_pkt.specs.Splits.{Given}
use Rattle.git_pkt.specs.Machine.PacketReader.{Reads, ReadsOn, StandsAt, Feeds, Announces, fault_of, given_by}
use Rattle.git_pkt.proofs.KnownRest.{none_between}
use Rattle.git_pkt.specs.Packets.{seen}
use Rattle.git_pkt.specs.declared.packet.Packet.{Packet}
use Rattle.git_pkt.specs.declared.reader.Fed.{Fed}
use Rattle.git_pkt.specs.declared.reader.Got.{Got}
use Rattle.git_pkt.specs.declared.reader.Got.TheVariants.{Failed, Packet as GotPacket}
use Rattle.git_pkt.proofs.Chunks.{take_joined, left_of}
use Rattle.git_pkt.specs.Streams.{Flow, AreWritten, IsTimely, WrittenAs, Moves, is_broken}
use Rattle.git_pkt.specs.declared.fault.Kind.{Kind}
use Rattle.git_pkt.specs.declared.fault.Kind.TheVariants.{StreamTooLong, Truncated}
use Rattle.git_pkt.specs.declared.fault.Fault.{Fault}
use Rattle.git_pkt.specs.declared.fault.RunFault.{RunFault}
use Rattle.git_pkt.specs.declared.fault.RunFault.TheVariants.{ReadFault, WriteFault, ReadLimit, Refused}
use Rattle.git_pkt.specs.declared.reader.PacketReader.{PacketReader}
use Rattle.git_pkt.proofs.EngineLemmas.{AppendsFront-longer, at_fault}
use Rattle.git_loop.specs.Carried.{carries_itself}
use Rattle.git_loop.specs.Machines.{GivesPart, HasFinished, Ran, RunStates}
use Rattle.git_loop.specs.Moves.{closed, gave, used, ended_after, given_to, used_of}
use Rattle.git2show_lib.specs.PacketLines.{line_of, lines_of}
use Rattle.git2show_lib.specs.PacketViews.{after, shown, tally_of, viewed}
use Rattle.git2show_lib.specs.declared.views.Tally.{Tally}
use Rattle.git2show_lib.specs.declared.views.View.{View}
use Rattle.git2show_lib.specs.Machine.HeldLines.{HeldLines}
use Rattle.git2show_lib.specs.Machine.ShowerStates.{Beginning, Gathers, HasShown, IsTooLong, ShowerReaches, StandsIn, Waits, fault_in, is_over, waits_in_time}
use Rattle.git2show_lib.specs.Machine.ShownStream.{EndsAs, Shows, ShowsView}
use Rattle.git2show_lib.specs.declared.shower.Phase.{Phase}
use Rattle.git2show_lib.specs.declared.shower.Phase.TheVariants.{Gathering, Stopped, Closed}
use Rattle.git2show_lib.specs.declared.shower.Shower.{Shower}

-- without a view the lines are the plain ones
pub plain : (t : Tally) (gs : List Given) → shown None t gs ≡ lines_of gs
plain t [] = refl
plain t (g ∷ gs) = ap (λ (l : List ℕ). line_of g ++ l) (plain t gs)

module _ (view : Option View) where
  shown-append : (t : Tally) (gs hs : List Given) → shown view t (gs ++ hs) ≡ shown view t gs ++ shown view (tally_of view t gs) hs
  shown-append t [] hs = refl
  shown-append t (g ∷ gs) hs =
      ap (λ (l : List ℕ). viewed view t g ++ l) (shown-append (after view t g) gs hs)
      ∙ sym (append_assoc (viewed view t g) (shown view (after view t g) gs) (shown view (tally_of view (after view t g) gs) hs))

  tally-append : (t : Tally) (gs hs : List Given) → tally_of view t (gs ++ hs) ≡ tally_of view (tally_of view t gs) hs
  tally-append t [] hs = refl
  tally-append t (g ∷ gs) hs = tally-append (after view t g) gs hs

  -- packets after others
  shown-then : (t : Tally) {middle : Tally} (gs hs : List Given) → middle ≡ tally_of view t gs
      → shown view t (gs ++ hs) ≡ shown view t gs ++ shown view middle hs
  shown-then t gs hs is = rw is (shown-append t gs hs)

  tally-then : (t : Tally) {middle final : Tally} (gs hs : List Given) → middle ≡ tally_of view t gs → final ≡ tally_of view middle hs
      → final ≡ tally_of view t (gs ++ hs)
  tally-then t gs hs is later = later ∙ ap (λ (m : Tally). tally_of view m hs) is ∙ sym (tally-append t gs hs)

  shown-one : (t : Tally) {middle : Tally} (gs : List Given) (g : Given) → middle ≡ tally_of view t gs
      → shown view t (gs ++ g ∷ []) ≡ shown view t gs ++ viewed view middle g
  shown-one t {middle} gs g is = shown-then t gs (g ∷ []) is ∙ ap (λ (l : List ℕ). shown view t gs ++ l) (append-nil (viewed view middle g))

-- where no bytes were used, a reader has gone on over none
pub none_read : (r : PacketReader) → ReadsOn r [] [] r
none_read r start bytes given rest h = (
  rest,
  rw (append-nil bytes, append-nil given) h,
)

pub reads_on_then : (a b c : PacketReader) (u v : List ℕ) (gs hs : List Given) → ReadsOn a u gs b → ReadsOn b v hs c → ReadsOn a (u ++ v) (gs ++ hs) c
reads_on_then a b c u v gs hs one two start bytes given rest reads =
    let (middle, first) = one start bytes given rest reads in
    let (last, second) = two start (bytes ++ u) (given ++ gs) middle first in
    (last, rw (append_assoc bytes u v, append_assoc given gs hs) at second)

-- ---- one call of `feed` of the reader, over what is left of a chunk

-- before the first one
pub gathers_none : {view : Option View} (t : Tally) (r : PacketReader) (before : List ℕ) → Gathers view t t r r [] before before
gathers_none t r before = record { packets = []; reads = none_read r; lines = sym (append-nil before); tally = refl }

-- one more packet was read, and its line was put behind the others
pub gathers_packet : {view : Option View} {start middle final : Tally} {a b : PacketReader} {u before w x : List ℕ} (c : PacketReader) (v : List ℕ)
    (g : Given) → Gathers view start middle a b u before w → ReadsOn b v (g ∷ []) c → x ≡ w ++ viewed view middle g → final ≡ after view middle g
    → Gathers view start final a c (u ++ v) before x
gathers_packet {view} {start} {middle} {final} {a} {b} {u} {before} {w} c v g so_far reads line counts = record {
  packets = so_far.packets ++ g ∷ [];
  reads = reads_on_then a b c u v so_far.packets (g ∷ []) so_far.reads reads;
  lines = line ∙ ap (λ (l : List ℕ). l ++ viewed view middle g) so_far.lines
      ∙ append_assoc before (shown view start so_far.packets) (viewed view middle g)
      ∙ ap (λ (l : List ℕ). before ++ l) (sym (shown-one view start so_far.packets g so_far.tally));
  tally = tally-then view start so_far.packets (g ∷ []) so_far.tally counts;
}

-- bytes were read that make no packet whole
gathers_quiet : {view : Option View} {start middle : Tally} {a b : PacketReader} {u before w : List ℕ} (c : PacketReader) (v : List ℕ)
    → Gathers view start middle a b u before w → ReadsOn b v [] c → Gathers view start middle a c (u ++ v) before w
gathers_quiet {a = a} {b = b} {u = u} c v so_far reads = record {
  packets = so_far.packets;
  reads = rw (append-nil so_far.packets) at (reads_on_then a b c u v so_far.packets [] so_far.reads reads);
  lines = so_far.lines;
  tally = so_far.tally;
}

-- what is left of a chunk after `done` bytes, as a slice shows it
abbrev pub left : List ℕ → ℕ → List ℕ
left chunk done = take (length chunk - done) (drop done chunk)

module _ {b c : PacketReader} (chunk : List ℕ) (done : ℕ) {fed : Fed} (within : done ≤ length chunk) (feeds : Feeds b (left chunk done) fed c) where
  reads_by : (got : Got) → fed.got ≡ got → ReadsOn b (take fed.used (left chunk done)) (given_by got) c
  reads_by got is = rw is at feeds.reads

  pub announces_by : (got : Got) → fed.got ≡ got → Announces got fed.used (left chunk done) c
  announces_by got is = rw is at feeds.announces

  pub left_length : length (left chunk done) ≡ length chunk - done
  left_length = ap length (left_of chunk done within) ∙ length-drop done chunk

  module _ {view : Option View} {start middle : Tally} {old : PacketReader} {before w : List ℕ}
      (so_far : Gathers view start middle old b (take done chunk) before w) where
    pub fed_failed : (f : Fault) → fed.got ≡ Failed f → Gathers view start middle old c (take (done + fed.used) chunk) before w
    fed_failed f is =
        rw (take_joined chunk done fed.used within) at (gathers_quiet c (take fed.used (left chunk done)) so_far (reads_by (Failed f) is))

    pub fed_packet : (p : Packet) (offset : ℕ) {final : Tally} {x : List ℕ} → fed.got ≡ GotPacket p offset
        → x ≡ w ++ viewed view middle (record { packet = seen p; offset = offset })
        → final ≡ after view middle (record { packet = seen p; offset = offset })
        → Gathers view start final old c (take (done + fed.used) chunk) before x
    fed_packet p offset is line counts =
        rw (take_joined chunk done fed.used within) at (gathers_packet c (take fed.used (left chunk done)) (record { packet = seen p; offset = offset })
        so_far (reads_by (GotPacket p offset) is) line counts)

-- ---- the calls of a shower

pub used_some : {fault : Option Fault} (count : ℕ) → fault ≡ None → (0 < count) ⊎ IsSome fault → 0 < count
used_some count none (inl uses) = uses
used_some count none (inr some) = let no : IsSome {T = Fault} None = subst IsSome none some in absurd (cc)

pub over_in : {phase : Phase} → ((f : Fault) × (phase ≡ Stopped f)) ⊎ (phase ≡ Closed) → is_over phase ≡ true
over_in (inl (f, at)) = ap is_over at
over_in (inr at) = ap is_over at

module _ {V : Type 0} (view_of : V → Option View) (s : Shower V) where
  -- no line waited
  pub stays : (lines : HeldLines) → lines ≡ s.lines
      → ShowerReaches view_of s [] (record { packets = s.packets; lines = lines; renderer = s.renderer; tally = s.tally; phase = s.phase })
  stays lines same =
      subst (λ (l : HeldLines).
      ShowerReaches view_of s [] (record { packets = s.packets; lines = l; renderer = s.renderer; tally = s.tally; phase = s.phase }))
      (sym same) (carries_itself (HasShown view_of) s)

  -- the lines were lent
  pub gives_part : (to : ℕ) (lines : HeldLines) → to ≡ 0 → lines.waiting ≡ [] → lines.lent ≡ s.lines.waiting
      → GivesPart (ShowerReaches view_of) (λ (m : Shower V) (bytes : List ℕ). bytes ≡ m.lines.lent) s to
      (record { packets = s.packets; lines = lines; renderer = s.renderer; tally = s.tally; phase = s.phase })
  gives_part to lines first empty lent =
      let w = s.lines.waiting in
      let new : Shower V = record { packets = s.packets; lines = lines; renderer = s.renderer; tally = s.tally; phase = s.phase } in
      record {
        bytes = w;
        lent = sym lent;
        reaches = subst (λ (n : ℕ). ShowerReaches view_of s (gave n w ∷ []) new) (sym first) (λ begun so_far over given h.
            subst (λ (l : List ℕ). HasShown view_of begun l over (given ++ (w ++ [])) new) (sym (append-nil so_far)) (record {
              packets = h.packets;
              rest = h.rest;
              by = h.by;
              reads = h.reads;
              lines = ap (λ (l : List ℕ). (given ++ l) ++ lines.waiting) (append-nil w) ∙ ap (λ (l : List ℕ). (given ++ w) ++ l) empty
                  ∙ append-nil (given ++ w) ∙ h.lines;
              tally = h.tally;
              stands = h.stands;
            }));
      }

  module _ {final : Tally} {packets : PacketReader} {bytes : List ℕ} (lines : HeldLines) (phase : Phase)
      (gathers : Gathers (view_of s.renderer) s.tally final s.packets packets bytes s.lines.waiting lines.waiting) where
    abbrev after_it : Shower V
    after_it = record { packets = packets; lines = lines; renderer = s.renderer; tally = final; phase = phase }

    -- it went on over these bytes
    went_on : (begun : Beginning) (so_far : List ℕ) (over now : Bool) (given : List ℕ) → StandsIn phase packets now
        → HasShown view_of begun so_far over given s → HasShown view_of begun (so_far ++ bytes) now given after_it
    went_on begun so_far over now given stands h =
        let more : Gathers begun.view s.tally final s.packets packets bytes s.lines.waiting lines.waiting =
        subst (λ (v : Option View). Gathers v s.tally final s.packets packets bytes s.lines.waiting lines.waiting) h.by gathers in
        let (rest, reads) = more.reads 0 so_far h.packets h.rest h.reads in
        record {
          packets = h.packets ++ more.packets;
          rest = rest;
          by = h.by;
          reads = reads;
          lines = ap (λ (l : List ℕ). given ++ l) more.lines
              ∙ sym (append_assoc given s.lines.waiting (shown begun.view s.tally more.packets))
              ∙ ap (λ (l : List ℕ). l ++ shown begun.view s.tally more.packets) h.lines
              ∙ sym (shown-then begun.view begun.tally h.packets more.packets h.tally);
          tally = tally-then begun.view begun.tally h.packets more.packets h.tally more.tally;
          stands = stands;
        }

    pub reaches_used : (from : ℕ) → from ≡ 0 → ((over : Bool) → StandsIn phase packets over)
        → ShowerReaches view_of s (used from bytes ∷ []) after_it
    reaches_used from first stands =
        subst (λ (n : ℕ). ShowerReaches view_of s (used n bytes ∷ []) after_it) (sym first) (λ begun so_far over given h.
        subst (λ (l : List ℕ). HasShown view_of begun (so_far ++ l) over (given ++ []) after_it) (sym (append-nil bytes))
        (subst (λ (l : List ℕ). HasShown view_of begun (so_far ++ bytes) over l after_it) (sym (append-nil given))
        (went_on begun so_far over over given (stands over) h)))

  -- the input ended
  pub reaches_closed : (from : ℕ) (packets : PacketReader) (phase : Phase) → from ≡ 0 → ReadsOn s.packets [] [] packets → StandsIn phase packets true
      → ShowerReaches view_of s (closed from ∷ [])
      (record { packets = packets; lines = s.lines; renderer = s.renderer; tally = s.tally; phase = phase })
  reaches_closed from packets phase first carries stands =
      let new : Shower V = record { packets = packets; lines = s.lines; renderer = s.renderer; tally = s.tally; phase = phase } in
      let none : Gathers (view_of s.renderer) s.tally s.tally s.packets packets [] s.lines.waiting s.lines.waiting =
      record { packets = []; reads = carries; lines = sym (append-nil s.lines.waiting); tally = refl } in
      subst (λ (n : ℕ). ShowerReaches view_of s (closed n ∷ []) new) (sym first) (λ begun so_far over given h.
      subst (λ (l : List ℕ). HasShown view_of begun (so_far ++ []) true l new) (sym (append-nil given))
      (went_on s.lines phase none begun so_far over true given stands h))

-- ---- the run

closed_phase : (p : Phase) → is_over p ≡ true → fault_in p ≡ None → p ≡ Closed
closed_phase Gathering over sound = absurd (cc)
closed_phase (Stopped f) over sound = absurd (cc)
closed_phase Closed over sound = refl

stopped_phase : (p : Phase) (f : Fault) → fault_in p ≡ Some f → p ≡ Stopped f
stopped_phase Gathering f is = absurd (cc)
stopped_phase (Stopped g) f is = let same : g ≡ f = cc in ap Stopped same
stopped_phase Closed f is = absurd (cc)

some_left : (l : List ℕ) → l ≢ [] → 0 < length l
some_left [] some = absurd (some refl)
some_left (b ∷ l) some = omega arith

-- a fault is reported in time
in_time : (kind : Kind) (ended : Bool) (unused : List ℕ) → (kind ≡ Truncated → (unused ≡ []) × (ended ≡ true))
    → (kind ≡ StreamTooLong → 0 < length unused) → IsTimely kind ended unused
in_time Truncated ended unused last more = last refl
in_time StreamTooLong ended unused last more = more refl
in_time kind ended unused last more = tt

-- the parts were written, and with them what waits, if that is nothing or a write failed
all_written : (broken : Bool) (writer : Flow) (given waiting : List ℕ) → WrittenAs broken writer given → (broken ≡ false → waiting ≡ [])
    → WrittenAs broken writer (given ++ waiting)
all_written false writer given waiting written none =
    subst (λ (l : List ℕ). WrittenAs false writer (given ++ l)) (sym (none refl))
    (subst (λ (l : List ℕ). WrittenAs false writer l) (sym (append-nil given)) written)
all_written true writer given waiting written none = AppendsFront-longer writer.before writer.after given waiting written

-- the state of a reader with this fault, or with none
state_of : (reader : PacketReader) (fault : Option Fault) (bytes : List ℕ) (packets : List Given) (rest : List ℕ) → fault_of reader ≡ fault
    → Reads reader 0 bytes packets rest → StandsAt fault (length bytes - length rest) (length bytes) rest reader
state_of reader fault bytes packets rest announced reads = rw (zero-add (length bytes), announced) at reads.state

module _ {V : Type 0} {view_of : V → Option View} {begun : Beginning} {old : Shower V} (new : Shower V) (ended : Bool) (turns : ℕ)
    (fresh : HasShown view_of begun [] false [] old) (waits : Waits old) where
  -- what a run's clauses state of the shower
  abbrev pub run_states : RunStates
  run_states = record {
    needs_input = (◌≡◌ {A = ℕ} 0 0) × Waits new;
    finished = (is_over new.phase ≡ true) × (new.lines.waiting ≡ []);
    stopped_short = Unit {0} × ((◌≡◌ {A = ℕ} 0 0) × IsTooLong new.phase);
    stopped_short_before = (◌≡◌ {A = ℕ} 0 0) × IsTooLong old.phase;
  }

  abbrev RanWith : Result (Unit {0}) RunFault → List (List ℕ) → List (List ℕ) → Type 0
  RanWith result = Ran (ShowerReaches view_of) old new run_states result ended turns

  abbrev pub RanSo : Result (Unit {0}) RunFault → Flow → Flow → Type 0
  RanSo result reader writer = Moves (is_broken result) (RanWith result) (reader ∷ []) (writer ∷ [])

  abbrev pub ShowsSo : Result (Unit {0}) RunFault → Flow → Flow → Type 0
  ShowsSo answer reader writer = Moves (is_broken answer) (ShowsView begun.view begun.tally new.tally answer ended turns) (reader ∷ []) (writer ∷ [])

  -- what the shower used is these packets and a rest, and the run ended so
  abbrev EndsSo : Result (Unit {0}) RunFault → List ℕ → List ℕ → Bool → Type 0
  EndsSo answer bytes unused over =
      (given : List ℕ) (h : HasShown view_of begun bytes over given new) → EndsAs answer ended turns bytes h.rest unused

  moved_so : (broken : Bool) (result answer : Result (Unit {0}) RunFault) {reader writer : Flow}
      → (ran : Moves broken (RanWith result) (reader ∷ []) (writer ∷ [])) → (broken ≡ false → new.lines.waiting ≡ [])
      → EndsSo answer (used_of 0 ran.related.trace) ran.related.unused (ended_after 0 false ran.related.trace)
      → Moves broken (ShowsView begun.view begun.tally new.tally answer ended turns) (reader ∷ []) (writer ∷ [])
  moved_so broken result answer {reader} {writer} ran none ends =
      let x = ran.related in
      let given = given_to 0 x.trace in
      let h = x.reaches begun [] false [] fresh in
      let sent = subst (λ (l : List (List ℕ)). AreWritten broken (writer ∷ []) l) x.sent ran.written in
      record {
        used = ran.used;
        given = shown begun.view begun.tally h.packets ∷ [];
        read = ran.read;
        written = (
          subst (λ (l : List ℕ). WrittenAs broken writer l) h.lines (all_written broken writer given new.lines.waiting sent.0 none),
          tt,
        );
        related = record {
          shows = record {
            used = used_of 0 x.trace;
            unused = x.unused;
            packets = h.packets;
            rest = h.rest;
            cut = x.received;
            splits = h.reads.splits;
            lines = refl;
            ends = ends given h;
          };
          tally = h.tally;
        };
      }

  -- the input ended, between two packets
  pub shows_closed : {reader writer : Flow} → RanSo (Ok tt) reader writer → fault_in new.phase ≡ None → ShowsSo (Ok tt) reader writer
  shows_closed ran sound =
      let x = ran.related in
      let phase = closed_phase new.phase x.ends.finished.0 sound in
      moved_so false (Ok tt) (Ok tt) ran (λ e. x.ends.finished.1) (λ given h.
      let (none, shut, over) = subst (λ (p : Phase). StandsIn p new.packets (ended_after 0 false x.trace)) phase h.stands in
      let state = state_of new.packets None (used_of 0 x.trace) h.packets h.rest none h.reads in
      let whole = x.whole over in
      (none_between new.packets h.rest state.0 shut, whole.0, whole.1))

  -- a fault of the input stopped it
  pub shows_stopped : (f : Fault) {reader writer : Flow} → RanSo (Ok tt) reader writer → fault_in new.phase ≡ Some f
      → ShowsSo (Err (Refused f)) reader writer
  shows_stopped f ran is =
      let x = ran.related in
      let phase = stopped_phase new.phase f is in
      moved_so false (Ok tt) (Err (Refused f)) ran (λ e. x.ends.finished.1) (λ given h.
      let stands = subst (λ (p : Phase). StandsIn p new.packets (ended_after 0 false x.trace)) phase h.stands in
      let state = state_of new.packets (Some f) (used_of 0 x.trace) h.packets h.rest stands.0 h.reads in
      (state.1, in_time f.kind ended x.unused (λ e. x.whole (stands.1 e)) (λ e. more_left x.unused x.ends (subst IsTooLong (sym phase) e))))
    where
      more_left : (unused : List ℕ) → HasFinished run_states unused → IsTooLong new.phase → 0 < length unused
      more_left unused rests too_long =
          elim (rests.short (tt, (refl, too_long))) [
            | inl more ↦ some_left unused more
            | inr before ↦ absurd (waits_in_time old waits before.1)
          ]

  -- a read or a write failed, or the reads were spent
  breaks : (fault : RunFault) {reader writer : Flow} → RanSo (Err fault) reader writer → ShowsSo (Err fault) reader writer
  breaks ReadFault ran =
      let x = ran.related in
      let waiting = x.ends.needs_input.1 in
      moved_so false (Err ReadFault) (Err ReadFault) ran (λ e. waiting.all_given) (λ given h. (
        (state_of new.packets None (used_of 0 x.trace) h.packets h.rest (waiting.sound.sound waiting.gathering) h.reads).1,
        x.ends.all,
      ))
  breaks WriteFault ran = moved_so true (Err WriteFault) (Err WriteFault) ran (λ e. absurd (cc)) (λ given h. tt)
  breaks ReadLimit ran =
      let x = ran.related in
      let waiting = x.ends.0.needs_input.1 in
      moved_so false (Err ReadLimit) (Err ReadLimit) ran (λ e. waiting.all_given) (λ given h. (
        (state_of new.packets None (used_of 0 x.trace) h.packets h.rest (waiting.sound.sound waiting.gathering) h.reads).1,
        x.ends.0.all,
        x.ends.1,
      ))
  breaks (Refused f) ran = absurd ran.related.ends

  -- the fault that `?` returns is the one that it met
  pub shows_at : (answer : Result (Unit {0}) RunFault) (fault : RunFault) {reader writer : Flow} → IsErrAnd answer (λ e. e ≡ fault)
      → RanSo (Err fault) reader writer → ShowsSo answer reader writer
  shows_at answer fault {reader} {writer} answered ran =
      at_fault answer fault fault (λ (x : Result (Unit {0}) RunFault). ShowsSo x reader writer) refl answered (breaks fault ran)

-- without a view the run is that of `show`
pub without_view : {broken ended : Bool} {turns : ℕ} {start final : Tally} {result : Result (Unit {0}) RunFault} {readers writers : List Flow}
    → Moves broken (ShowsView None start final result ended turns) readers writers → Moves broken (Shows result ended turns) readers writers
without_view {start = start} ran =
    let shows = ran.related.shows in
    record {
      used = ran.used;
      given = ran.given;
      read = ran.read;
      written = ran.written;
      related = record {
        used = shows.used;
        unused = shows.unused;
        packets = shows.packets;
        rest = shows.rest;
        cut = shows.cut;
        splits = shows.splits;
        lines = shows.lines ∙ ap (λ (l : List ℕ). l ∷ []) (plain start shows.packets);
        ends = shows.ends;
      };
    }
