-- The space that the line of an event takes: its texts lie in one packet, and each of their bytes takes four.
use Rattle.std.proofs.Common.{arith, ◌≡◌, ℕ, ◌+◌, ◌*◌, ◌≤◌, List, length, Option, Some, None, refl, subst, sym}
use Rattle.std.specs.Option.{option_map_or}
use Rattle.git_client.specs.EventParts.{Parts, parts_of, word_of}
use Rattle.git_client.specs.Events.{all_parts_length, pack, progress}
use Rattle.git_client.specs.Machine.LineParts.{space_of}
use Rattle.git_client.specs.Machine.Turns.{values_of}
use Rattle.git_client.specs.declared.event_parts.EventKind.{EventKind}
use Rattle.git_client.specs.declared.events.Event.{Event}
use Rattle.git_client.specs.declared.line.Part.{Part}
use Rattle.git_client.proofs.EventSizes.{each_one}

-- how long a text is, where there is one
abbrev pub text_length : Option (List ℕ) → ℕ
text_length text = option_map_or length text 0

texts_within : (event : Event) → text_length (parts_of event).name + text_length (parts_of event).text ≤ all_parts_length (values_of event)
texts_within (Event.Capability c) = omega arith
texts_within Event.Offered = omega arith
texts_within (Event.Reference None name target peeled) = omega arith
texts_within (Event.Reference (Some id) name target peeled) = omega arith
texts_within (Event.Section section) = omega arith
texts_within (Event.Ack id) = omega arith
texts_within Event.Nak = omega arith
texts_within Event.Ready = omega arith
texts_within (Event.Shallow id) = omega arith
texts_within (Event.Unshallow id) = omega arith
texts_within (Event.WantedRef id name) = omega arith
texts_within (Event.Info id size) = omega arith
texts_within (Event.Pack bytes) = omega (arith, each_one pack bytes.now (λ byte. refl))
texts_within (Event.Progress bytes) = omega (arith, each_one progress bytes.now (λ byte. refl))
texts_within Event.Ended = omega arith

-- the word of a line has at most ten bytes
abbrev IsShort : Option (List ℕ) → Type 0
IsShort None = Unit {0}
IsShort (Some word) = length word ≤ 10

word_short : (kind : EventKind) → IsShort (word_of kind)
word_short EventKind.Capability = omega arith
word_short EventKind.Offered = omega arith
word_short EventKind.Reference = omega arith
word_short EventKind.Section = tt
word_short EventKind.Ack = omega arith
word_short EventKind.Nak = omega arith
word_short EventKind.Ready = omega arith
word_short EventKind.Shallow = omega arith
word_short EventKind.Unshallow = omega arith
word_short EventKind.WantedRef = omega arith
word_short EventKind.Info = omega arith
word_short EventKind.Pack = tt
word_short EventKind.Progress = tt
word_short EventKind.Ended = omega arith

module _ (event : Event) (p : Parts) (same : p ≡ parts_of event) (word : List ℕ) (has : Some word ≡ word_of p.kind)
    (fits : all_parts_length (values_of event) ≤ 65516) where
  pub row_space : (object name text peeled size packed announced : Part) (before : List ℕ) → space_of object ≤ 65
      → space_of name ≤ 1 + 4 * text_length p.name → length before ≤ 16 → space_of text ≤ length before + 4 * text_length p.text → space_of peeled ≤ 72
      → space_of size ≤ 21 → space_of packed ≤ 21 → space_of announced ≤ 21
      → length word + (space_of object + (space_of name + (space_of text + (space_of peeled + (space_of size + (space_of packed + (space_of announced + 1)))))))
      ≤ 262320
  row_space object name text peeled size packed announced before a b c d e f g h =
      let short : length word ≤ 10 = subst IsShort (sym has) (word_short p.kind) in
      let texts : text_length p.name + text_length p.text ≤ all_parts_length (values_of event) =
      subst (λ (q : Parts). text_length q.name + text_length q.text ≤ all_parts_length (values_of event)) (sym same) (texts_within event) in
      omega (arith, short, texts, fits, a, b, c, d, e, f, g, h)
