-- Lines that are buffered for their writer while a chunk is received.
use Rattle.std.proofs.Common.{◌≡◌, ℕ, Bool, true, false, List, [], ◌++◌, take, Option, Some, None, Result, Ok, Err, OnOk, IfErr, IsErrAnd}
use Rattle.std.proofs.Common.{refl, sym, ap, ◌∙◌, subst, append_assoc, append-nil}
use Rattle.git_pkt.specs.Machine.Sends.{Puts, Sends}
use Rattle.git_pkt.specs.Streams.{Flow, flow, is_broken, WrittenAs}
use Rattle.git_pkt.specs.Machine.Recorded.{inner_of}
use Rattle.git_pkt.specs.declared.fault.Fault.{Fault}
use Rattle.git_pkt.specs.declared.fault.RunFault.{RunFault}
use Rattle.git_pkt.specs.declared.fault.RunFault.TheVariants.{WriteFault}
use Rattle.git_pkt.specs.declared.recorded.Recorded.{Recorded}
use Rattle.git_pkt.proofs.EngineLemmas.{AppendsFront-longer, written_nothing, written_then, written_whole}
use Rattle.git_client.specs.Events.{pack_bytes, progress_bytes}
use Rattle.git_client.specs.Machine.LineParts.{PutAs}
use Rattle.git_client.specs.Machine.RunSteps.{ReceivesBytes, ReceivesInChunk, ReceivesToFault, ReceivesChunkBroken}
use Rattle.git_client.specs.Machine.Client.{wants_input, fault_of}
use Rattle.git_client.specs.declared.client.Client.{Client}
use Rattle.git_client.specs.declared.receiving.Counts.{Counts}
use Rattle.git_client.proofs.ReceivedBytes.{nothing_received}
use Rattle.git_client.proofs.Announcing.{written_by}

-- ---- bytes that are appended to the waiting ones

put_whole : {T P : Type 0} (result : Result T RunFault) → IfErr result (λ fault. fault ≡ WriteFault) → OnOk result P → is_broken result ≡ false → P
put_whole (Ok done) named p whole = p
put_whole (Err WriteFault) named p whole = absurd (cc)
put_whole (Err fault) named p whole = absurd (cc)

pub put_by : {T W : Type 0} {contents : W → Option (List ℕ)} {a c : Recorded W} {s u t : List ℕ} (result : Result T RunFault) → Puts contents a s u result c t
    → PutAs (is_broken result) (flow (contents (inner_of a)) (contents (inner_of c))) s u t
put_by {contents = contents} {a = a} {c = c} result puts = record {
  sent = puts.sent;
  rest = puts.rest;
  all = puts.all;
  written = written_by result (contents (inner_of a)) (contents (inner_of c)) puts.sent puts.sends.ok puts.sends.err puts.sends.fault;
  waits = put_whole result puts.sends.fault puts.waits;
}

-- all waiting bytes were sent
pub put_drained : {W : Type 0} {contents : W → Option (List ℕ)} {a c : Recorded W} {s t : List ℕ} (broken : Bool) → Sends {T = Unit {0}} contents a s (Ok tt) c
    → t ≡ [] → PutAs broken (flow (contents (inner_of a)) (contents (inner_of c))) s [] t
put_drained {contents = contents} {a = a} {c = c} {s = s} broken sends none = record {
  sent = s;
  rest = [];
  all = refl;
  written = written_whole broken (flow (contents (inner_of a)) (contents (inner_of c))) s sends.ok;
  waits = λ whole. none;
}

-- a call that returns the error of a failing write is one in which a write failed
broken_answer : {T : Type 0} (result : Result T RunFault) {met : RunFault} → met ≡ WriteFault → IsErrAnd result (λ e. e ≡ met) → is_broken result ≡ true
broken_answer (Ok x) named answered = absurd answered
broken_answer (Err WriteFault) named answered = refl
broken_answer (Err fault) named answered = absurd (cc)

-- a prefix of the waiting bytes was sent
pub put_undrained : {S T W : Type 0} {contents : W → Option (List ℕ)} {a c : Recorded W} {s t : List ℕ} {met : RunFault} (result : Result T RunFault)
    → Sends {T = S} contents a s (Err met) c → IsErrAnd result (λ e. e ≡ met)
    → PutAs (is_broken result) (flow (contents (inner_of a)) (contents (inner_of c))) s [] t
put_undrained {contents = contents} {a = a} {c = c} {s = s} {t = t} result sends answered =
    subst (λ (broken : Bool). PutAs broken (flow (contents (inner_of a)) (contents (inner_of c))) s [] t) (sym (broken_answer result sends.fault answered))
    (record { sent = s; rest = []; all = refl; written = sends.err; waits = λ whole. absurd (cc) })

-- and nothing was written to another stream
pub unwritten : {S T W : Type 0} {contents : W → Option (List ℕ)} {a c : Recorded W} {s : List ℕ} {met : RunFault} (result : Result T RunFault)
    (held : Option (List ℕ)) (bytes : List ℕ) → Sends {T = S} contents a s (Err met) c → IsErrAnd result (λ e. e ≡ met)
    → WrittenAs (is_broken result) (flow held held) bytes
unwritten result held bytes sends answered =
    subst (λ (broken : Bool). WrittenAs broken (flow held held) bytes) (sym (broken_answer result sends.fault answered))
    (AppendsFront-longer held held [] bytes (written_whole true (flow held held) [] (written_nothing held)))

pub put_then : {broken : Bool} {before held after : Option (List ℕ)} {s t x u v : List ℕ} → PutAs false (flow before held) s u t
    → PutAs broken (flow held after) t v x → PutAs broken (flow before after) s (u ++ v) x
put_then {broken = broken} {before = before} {held = held} {after = after} {s = s} {t = t} {u = u} {v = v} one two = record {
  sent = one.sent ++ two.sent;
  rest = two.rest;
  all = sym (append_assoc s u v) ∙ ap (λ (l : List ℕ). l ++ v) (one.all ∙ ap (λ (l : List ℕ). one.sent ++ l) (sym (one.waits refl)))
      ∙ append_assoc one.sent t v ∙ ap (λ (l : List ℕ). one.sent ++ l) two.all ∙ sym (append_assoc one.sent two.sent two.rest);
  written = written_then broken before held after one.sent two.sent one.written two.written;
  waits = two.waits;
}

-- all waiting bytes were written, or a prefix of them
pub put_out : (broken : Bool) {before held : Option (List ℕ)} {lines waiting : List ℕ} (after : Option (List ℕ)) → PutAs false (flow before held) []
    lines waiting
    → WrittenAs broken (flow held after) waiting → WrittenAs broken (flow before after) lines
put_out broken {before = before} {held = held} after put written =
    subst (WrittenAs broken (flow before after)) (sym put.all)
    (written_then broken before held after put.sent put.rest put.written (subst (WrittenAs broken (flow held after)) (put.waits refl) written))

-- all waiting bytes were written, and the writer was flushed
pub flushed_out : {before held : Option (List ℕ)} {lines waiting : List ℕ} (middle after : Option (List ℕ)) → PutAs false (flow before held) [] lines
    waiting
    → WrittenAs false (flow held middle) waiting → WrittenAs false (flow middle after) [] → WrittenAs false (flow before after) lines
flushed_out {held = held} {waiting = waiting} middle after put written flushed =
    put_out false after put
    (subst (WrittenAs false (flow held after)) (append-nil waiting) (written_then false held middle after waiting [] written flushed))

-- the waiting bytes stay unwritten
pub put_front : {stream : Flow} {lines waiting : List ℕ} → PutAs true stream [] lines waiting → WrittenAs true stream lines
put_front {stream = stream} put =
    subst (WrittenAs true stream) (sym put.all) (AppendsFront-longer stream.before stream.after put.sent put.rest put.written)

-- the failure was that of a write
pub broken_by : {T : Type 0} {result : Result T RunFault} {fault : RunFault} {stream : Flow} {before bytes after : List ℕ} → result ≡ Err fault
    → fault ≡ WriteFault → PutAs (is_broken result) stream before bytes after → PutAs true stream before bytes after
broken_by {T = T} {stream = stream} {before = before} {bytes = bytes} {after = after} failed named put =
    subst (λ (broken : Bool). PutAs broken stream before bytes after) (ap (is_broken {T = T}) (failed ∙ ap Err named)) put

-- ---- the lines of a chunk

-- a writer that was empty, and now has these lines
abbrev pub held : List ℕ → Flow
held lines = flow (Some []) (Some lines)

module _ {A : Type 0} where
  -- bytes of a chunk were received, and their lines of the transcript were written or wait
  pub record ReceivedLines (old new : Client A) (counts after : Counts) (used : List ℕ) (out : Flow) (waiting : List ℕ) (packs progress : Flow) : Type 0 where
    pub lines : List ℕ
    pub bytes : ReceivesBytes false old new counts after used (held lines) packs progress
    pub put : PutAs false out [] lines waiting

  pub no_lines_yet : (c : Client A) (counts : Counts) (announced sent reported : Option (List ℕ)) (waiting : List ℕ) → wants_input c ≡ true → waiting ≡ []
      → ReceivedLines c c counts counts [] (flow announced announced) waiting (flow sent sent) (flow reported reported)
  no_lines_yet c counts announced sent reported waiting expected none = record {
    lines = [];
    bytes = nothing_received c counts (Some []) sent reported expected;
    put = record { sent = []; rest = []; all = refl; written = written_nothing announced; waits = λ whole. none };
  }

  module _ {old new : Client A} {counts after : Counts} {lines : List ℕ} {out packs progress : Flow} where
    -- the lines were written
    lines_written : {broken : Bool} {used : List ℕ} → ReceivesBytes false old new counts after used (held lines) packs progress → WrittenAs broken out lines
        → ReceivesBytes broken old new counts after used out packs progress
    lines_written {broken = broken} bytes written = record {
      events = bytes.events;
      arrives = bytes.arrives;
      one_turn = bytes.one_turn;
      has_unsent = bytes.has_unsent;
      counted = bytes.counted;
      announced = λ can. subst (WrittenAs broken out) (bytes.announced can) written;
      sent = written_whole broken packs (pack_bytes bytes.events) bytes.sent;
      reported = written_whole broken progress (progress_bytes bytes.events) bytes.reported;
    }

    -- a prefix of them was written
    front_written : {used : List ℕ} → ReceivesBytes true old new counts after used (held lines) packs progress → WrittenAs true out lines
        → ReceivesBytes true old new counts after used out packs progress
    front_written bytes written = record {
      events = bytes.events;
      arrives = bytes.arrives;
      one_turn = bytes.one_turn;
      has_unsent = bytes.has_unsent;
      counted = bytes.counted;
      announced = λ can.
          let (front, rest, all, whole) = bytes.announced can in
          subst (WrittenAs true out) (ap (λ (l : List ℕ). l ++ rest) whole ∙ sym all) (AppendsFront-longer out.before out.after lines rest written);
      sent = bytes.sent;
      reported = bytes.reported;
    }

    module _ {chunk : List ℕ} where
      pub chunk_written : {used : ℕ} → ReceivesInChunk old new counts after chunk used (held lines) packs progress → WrittenAs false out lines
          → ReceivesInChunk old new counts after chunk used out packs progress
      chunk_written chunk written = record {
        arrives = lines_written chunk.arrives written;
        within = chunk.within;
        all = chunk.all;
        sound = chunk.sound;
        whole = chunk.whole;
        moves = chunk.moves;
      }

      pub fault_written : {fault : Fault} → ReceivesToFault fault old new counts after chunk (held lines) packs progress → WrittenAs false out lines
          → ReceivesToFault fault old new counts after chunk out packs progress
      fault_written fault written =
          record { used = fault.used; arrives = lines_written fault.arrives written; announced = fault.announced; shown = fault.shown }

      -- the lines could not be written
      pub chunk_unwritten : (used : ℕ) → ReceivesBytes false old new counts after (take used chunk) (held lines) packs progress → fault_of new ≡ None
          → WrittenAs true out lines → ReceivesChunkBroken old new counts after chunk out packs progress
      chunk_unwritten used bytes sound written = record {
        used = used;
        arrives = lines_written bytes written;
        shown = λ fault met. absurd (cc);
      }

      pub broken_unwritten : ReceivesChunkBroken old new counts after chunk (held lines) packs progress → WrittenAs true out lines
          → ReceivesChunkBroken old new counts after chunk out packs progress
      broken_unwritten broken written = record { used = broken.used; arrives = front_written broken.arrives written; shown = broken.shown }
