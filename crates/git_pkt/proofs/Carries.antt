-- A step of the reader keeps its relation to the stream.
use Rattle.std.proofs.Common.{arith, ◌≡◌, ℕ, ◌+◌, ◌-◌, ◌≤◌, List, [], ◌∷◌, ◌++◌, length, Option, None, false, ap, sym, ◌∙◌, subst, length-append}
use Rattle.std.proofs.lemmas.List.{append-nil}
use Rattle.git_pkt.specs.Packets.{Spells}
use Rattle.git_pkt.specs.Splits.{Given, NoneBegins}
use Rattle.git_pkt.specs.Faults.{IsOpen, StopsBy}
use Rattle.git_pkt.specs.Machine.PacketReader.{bytes_held, position_of, passes_of, held_of, rest_of, fault_of, Reads, StandsAt, ReadsOn}
use Rattle.git_pkt.specs.Machine.PacketReaderSteps.{Moves}
use Rattle.git_pkt.specs.declared.fault.Fault.{Fault}
use Rattle.git_pkt.specs.declared.reader.PacketReader.{PacketReader}
use Rattle.git_pkt.specs.declared.progress.Progress.TheVariants.{Open, Whole, Failed}
use Rattle.git_pkt.proofs.Spelling.{none_begins_nothing}
use Rattle.git_pkt.proofs.Streams.{spells_all_more, spells_all_whole}
use Rattle.git_pkt.proofs.ReaderMoves.{rest_of_shut, gathers_between, rest_is_open, rest_is_partial}
use Rattle.git_pkt.proofs.KnownRest.{sound_rest, gathered_rest, held_rest}

pub stands_open : (r : PacketReader) (p end : ℕ) (rest : List ℕ) → fault_of r ≡ None → passes_of r ≡ false → rest_of r ≡ rest
    → StandsAt (fault_of r) p end rest r
stands_open r p end rest sound gathers same =
    subst (λ (o : Option Fault). StandsAt o p end rest r) (sym sound)
    (held_rest r rest gathers same, subst (λ (l : List ℕ). IsOpen l) same (rest_is_open r))

-- the part of a stream's rest that the hold has, if no bytes pass
pub was_held : (old : PacketReader) (start : ℕ) (bytes : List ℕ) (given : List Given) (rest : List ℕ) → fault_of old ≡ None → passes_of old ≡ false
    → Reads old start bytes given rest → rest_of old ≡ rest
was_held old start bytes given rest sound gathers r = gathered_rest old rest gathers (sound_rest old start bytes given rest sound r).0

-- the rest gets longer
pub reads_open : (old new : PacketReader) (u : List ℕ) → bytes_held new ≤ 65520 → fault_of old ≡ None → passes_of old ≡ false → Moves old u Open new
    → (start : ℕ) (bytes : List ℕ) (given : List Given) (rest : List ℕ) → Reads old start bytes given rest
    → Reads new start (bytes ++ u) (given ++ []) (rest ++ u)
reads_open old new u fits sound gathers m start bytes given rest r =
    let was = was_held old start bytes given rest sound gathers r in
    let same : rest_of new ≡ rest ++ u = m.arrives.rest_is ∙ ap (λ (l : List ℕ). l ++ u) was in
    record {
      position = omega (arith, m.position, r.position, length-append bytes u);
      within = omega (arith, m.position, r.position, length-append bytes u, new.within);
      fits = fits;
      splits = record {
        spelled = rw (append-nil given) (spells_all_more start bytes given rest u r.splits.spelled);
        ends = subst (λ (l : List ℕ). NoneBegins l) same (rest_is_partial new);
      };
      state = stands_open new _ _ (rest ++ u) m.arrives.no_fault m.arrives.gathers same;
    }

-- the rest is now a packet
pub reads_whole : (old new : PacketReader) (u : List ℕ) (g : Given)
    → bytes_held new ≤ 65520 → fault_of old ≡ None → passes_of old ≡ false → Moves old u Whole new → Spells g.packet (held_of new)
    → g.offset + length (held_of new) ≡ position_of new
    → (start : ℕ) (bytes : List ℕ) (given : List Given) (rest : List ℕ) → Reads old start bytes given rest
    → Reads new start (bytes ++ u) (given ++ g ∷ []) []
reads_whole old new u g fits sound gathers m spells at start bytes given rest r =
    let was = was_held old start bytes given rest sound gathers r in
    let same : held_of new ≡ rest ++ u = m.arrives.held ∙ ap (λ (l : List ℕ). l ++ u) was in
    let spelled : Spells g.packet (rest ++ u) = subst (λ (l : List ℕ). Spells g.packet l) same spells in
    record {
      position = omega (arith, m.position, r.position, length-append bytes u);
      within = omega (arith, m.position, r.position, length-append bytes u, new.within);
      fits = fits;
      splits = record {
        spelled = spells_all_whole start (bytes ++ u) given (rest ++ u) g (spells_all_more start bytes given rest u r.splits.spelled) spelled
            (omega (arith, at, m.position, r.position, ap length same, length-append bytes u));
        ends = none_begins_nothing;
      };
      state = stands_open new _ _ [] m.arrives.no_fault (gathers_between new m.arrives.closed) (rest_of_shut new m.arrives.closed);
    }

-- the rest has an error
pub reads_failed : (old new : PacketReader) (u : List ℕ) (f : Fault) → bytes_held new ≤ 65520 → fault_of old ≡ None → passes_of old ≡ false
    → Moves old u (Failed f) new → (start : ℕ) (bytes : List ℕ) (given : List Given) (rest : List ℕ) → Reads old start bytes given rest
    → Reads new start (bytes ++ u) (given ++ []) (rest ++ u)
reads_failed old new u f fits sound gathers m start bytes given rest r =
    let was = was_held old start bytes given rest sound gathers r in
    let same : rest_of old ++ u ≡ rest ++ u = ap (λ (l : List ℕ). l ++ u) was in
    let end : position_of new ≡ start + length (bytes ++ u) = omega (arith, m.position, r.position, length-append bytes u) in
    let by : StopsBy (start + length (bytes ++ u) - length (rest ++ u)) (rest ++ u) (start + length (bytes ++ u)) f.kind f.offset =
    subst (λ (n : ℕ). StopsBy (n - length (rest ++ u)) (rest ++ u) n f.kind f.offset) end
    (subst (λ (l : List ℕ). StopsBy (position_of new - length l) l (position_of new) f.kind f.offset) same m.arrives.by) in
    record {
      position = end;
      within = omega (arith, end, new.within);
      fits = fits;
      splits = record {
        spelled = rw (append-nil given) (spells_all_more start bytes given rest u r.splits.spelled);
        ends = subst (λ (l : List ℕ). NoneBegins l) same m.arrives.none;
      };
      state = subst (λ (o : Option Fault). StandsAt o (start + length (bytes ++ u) - length (rest ++ u)) (start + length (bytes ++ u)) (rest ++ u) new)
          (sym m.arrives.announced) (m.arrives.closed, by);
    }

pub carry_open : (old new : PacketReader) (u : List ℕ) → bytes_held new ≤ 65520 → fault_of old ≡ None → passes_of old ≡ false → Moves old u Open new
    → ReadsOn old u [] new
carry_open old new u fits sound gathers m start bytes given rest r =
    (rest ++ u, reads_open old new u fits sound gathers m start bytes given rest r)

pub carry_whole : (old new : PacketReader) (u : List ℕ) (g : Given)
    → bytes_held new ≤ 65520 → fault_of old ≡ None → passes_of old ≡ false → Moves old u Whole new → Spells g.packet (held_of new)
    → g.offset + length (held_of new) ≡ position_of new → ReadsOn old u (g ∷ []) new
carry_whole old new u g fits sound gathers m spells at start bytes given rest r =
    ([], reads_whole old new u g fits sound gathers m spells at start bytes given rest r)

pub carry_failed : (old new : PacketReader) (u : List ℕ) (f : Fault) → bytes_held new ≤ 65520 → fault_of old ≡ None → passes_of old ≡ false
    → Moves old u (Failed f) new → ReadsOn old u [] new
carry_failed old new u f fits sound gathers m start bytes given rest r =
    (rest ++ u, reads_failed old new u f fits sound gathers m start bytes given rest r)
