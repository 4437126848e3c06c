-- What a `TraceReader` has read.
use Rattle.std.specs.Prelude.{◌≡◌, ℕ, true, false, List, [], ◌++◌}
use Rattle.std.specs.List.{list_any}
use Rattle.git_trace.specs.TraceTexts.{has_long, is_packet_line, left_after, lines_after, lines_of, shown_lines}
use Rattle.git_trace.specs.declared.shown_lines.Look.{Look}
use Rattle.git_trace.specs.declared.trace_texts.TraceFault.{TraceFault}
use Rattle.git_trace.specs.declared.trace_texts.TraceFault.TheVariants.{LongLine, NoPackets, OutOfMemory}
use Rattle.git_trace.specs.declared.trace_texts.TraceReader.{TraceReader}

-- the reader was fed this text: it holds the line that the text leaves open, and knows whether one of a packet has ended
pub record HasRead (reader : TraceReader) (fed : List ℕ) : Type 0 where
  pub begun : reader.begun.items ≡ left_after [] fed
  pub packets : reader.has_packets ≡ list_any is_packet_line (lines_after [] fed)
  pub short : has_long [] fed ≡ false

-- how its lines look
abbrev pub look_of : TraceReader → Look
look_of reader = reader.look

-- where what is shown of these lines was appended to something, what is shown of those is now
abbrev pub Shows : Look → List (List ℕ) → List (List ℕ) → List ℕ → List ℕ → Type 0
Shows look lines more old new = (before : List ℕ) → old ≡ before ++ shown_lines look lines → new ≡ before ++ shown_lines look more

-- why a text is refused that goes on like this: a line is longer than one may be
abbrev pub IsFeedFault : List ℕ → TraceFault → Type 0
IsFeedFault fed (LongLine line) = has_long [] fed ≡ true
IsFeedFault fed (NoPackets line) = ⊥
IsFeedFault fed OutOfMemory = Unit {0}

-- why a whole text is refused: no line is one of a packet
abbrev pub IsEndFault : List ℕ → TraceFault → Type 0
IsEndFault fed (LongLine line) = ⊥
IsEndFault fed (NoPackets line) = list_any is_packet_line (lines_of fed) ≡ false
IsEndFault fed OutOfMemory = Unit {0}

-- the same for bytes after a line that has begun
abbrev pub IsLineFault : List ℕ → List ℕ → TraceFault → Type 0
IsLineFault begun bytes (LongLine line) = has_long begun bytes ≡ true
IsLineFault begun bytes (NoPackets line) = ⊥
IsLineFault begun bytes OutOfMemory = Unit {0}
