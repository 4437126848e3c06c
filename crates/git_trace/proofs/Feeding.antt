-- What came of the bytes of a text that were taken so far.
use Rattle.std.proofs.Common.{◌≡◌, ℕ, ◌+◌, ◌<◌, Bool, true, false, ◌||◌, List, [], ◌∷◌, ◌++◌, length, take, drop, slice_index, refl, sym, ap, ◌∙◌, append_assoc}
use Rattle.std.specs.List.{list_any}
use Rattle.std.proofs.lemmas.List.{take_more, take-append-drop}
use Rattle.git_trace.specs.declared.shown_lines.Look.{Look}
use Rattle.git_trace.specs.declared.trace_texts.TraceFault.{TraceFault}
use Rattle.git_trace.specs.declared.trace_texts.TraceFault.TheVariants.{LongLine, NoPackets, OutOfMemory}
use Rattle.git_trace.specs.TraceTexts.{has_long, is_packet_line, left_after, lines_after, shown_lines}
use Rattle.git_trace.specs.Machine.TraceReader.{IsFeedFault, IsLineFault}
use Rattle.git_trace.proofs.TextParts.{left_joined, long_joined, or_joined, packets_joined, shown_joined}

-- these bytes were taken after a line that had begun: what is left of them, what was shown, and whether a line of a packet ended
pub record Took (look : Look) (begun out : List ℕ) (had : Bool) (bytes left shown : List ℕ) (has : Bool) : Type 0 where
  pub left_is : left ≡ left_after begun bytes
  pub shown_is : shown ≡ out ++ shown_lines look (lines_after begun bytes)
  pub has_is : has ≡ (had || list_any is_packet_line (lines_after begun bytes))
  pub short : has_long begun bytes ≡ false

both_false : (a b : Bool) → a ≡ false → b ≡ false → (a || b) ≡ false
both_false a b e f = rw (e, f) refl

or_false : (a : Bool) → (a || false) ≡ a
or_false true = refl
or_false false = refl

module _ {look : Look} {begun out : List ℕ} {had : Bool} where
  pub took_none : {left shown : List ℕ} {has : Bool} → left ≡ begun → shown ≡ out ++ [] → has ≡ had → Took look begun out had [] left shown has
  took_none e f h = record { left_is = e; shown_is = f; has_is = h ∙ sym (or_false had); short = refl }

  pub took_then : {bytes left shown more left' shown' : List ℕ} {has has' : Bool} → Took look begun out had bytes left shown has
      → Took look left shown has more left' shown' has' → Took look begun out had (bytes ++ more) left' shown' has'
  took_then {bytes = bytes} {left = left} {more = more} so_far next = record {
    left_is = next.left_is ∙ ap (λ (l : List ℕ). left_after l more) so_far.left_is ∙ sym (left_joined begun bytes more);
    shown_is =
        next.shown_is ∙ ap (λ (l : List ℕ). l ++ shown_lines look (lines_after left more)) so_far.shown_is ∙ append_assoc out _ _
        ∙ ap (λ (l : List ℕ). out ++ (shown_lines look (lines_after begun bytes) ++ shown_lines look (lines_after l more))) so_far.left_is
        ∙ ap (λ (l : List ℕ). out ++ l) (sym (shown_joined look begun bytes more));
    has_is =
        next.has_is ∙ ap (λ (x : Bool). x || list_any is_packet_line (lines_after left more)) so_far.has_is ∙ sym (or_joined had _ _)
        ∙ ap (λ (l : List ℕ). had || (list_any is_packet_line (lines_after begun bytes) || list_any is_packet_line (lines_after l more))) so_far.left_is
        ∙ ap (λ (x : Bool). had || x) (sym (packets_joined begun bytes more));
    short = long_joined begun bytes more ∙ both_false _ _ so_far.short (ap (λ (l : List ℕ). has_long l more) (sym so_far.left_is) ∙ next.short);
  }

pub long_front : (begun s t : List ℕ) → has_long begun s ≡ true → has_long begun (s ++ t) ≡ true
long_front begun s t e = long_joined begun s t ∙ rw e refl

pub long_back : (begun s t : List ℕ) → has_long (left_after begun s) t ≡ true → has_long begun (s ++ t) ≡ true
long_back begun s t e = long_joined begun s t ∙ rw e (or_true (has_long begun s))
  where
    or_true : (a : Bool) → (a || true) ≡ true
    or_true true = refl
    or_true false = refl

-- a byte makes the line too long, and so the text that goes on with it
pub fault_on : (fed chunk left : List ℕ) (i : ℕ) (fault : TraceFault) → i < length chunk → left ≡ left_after (left_after [] fed) (take i chunk)
    → IsLineFault left (slice_index chunk i ∷ []) fault → IsFeedFault (fed ++ chunk) fault
fault_on fed chunk left i (LongLine line) below is long =
    let here : has_long (left_after [] fed) (take i chunk ++ slice_index chunk i ∷ []) ≡ true =
    long_back (left_after [] fed) (take i chunk) (slice_index chunk i ∷ []) (ap (λ (l : List ℕ). has_long l (slice_index chunk i ∷ [])) (sym is) ∙ long) in
    let front : has_long (left_after [] fed) (take (i + 1) chunk) ≡ true = ap (has_long (left_after [] fed)) (take_more chunk i 0 below) ∙ here in
    let whole = long_front (left_after [] fed) (take (i + 1) chunk) (drop (i + 1) chunk) front in
    long_back [] fed chunk (ap (has_long (left_after [] fed)) (sym (take-append-drop (i + 1) chunk)) ∙ whole)
fault_on fed chunk left i (NoPackets line) below is none = none
fault_on fed chunk left i OutOfMemory below is met = met
