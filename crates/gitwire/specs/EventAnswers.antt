-- How C is shown an event.
use Rattle.std.specs.Prelude.{ℕ, ◌-◌, false, List, [], ◌++◌, length, Option, is_some, unwrap_or}
use Rattle.std.specs.Option.{option_map_or}
use Rattle.git_names.specs.ObjectName.{ObjectName, hex_of}
use Rattle.git_pkt.specs.FaultNames.{kind_number}
use Rattle.git_pkt.specs.declared.fault.Fault.{Fault}
use Rattle.git_client.specs.EventParts.{Parts, parts_of}
use Rattle.git_client.specs.declared.events.Event.{Event}
use Rattle.gitwire.specs.Answers.{what_number}
use Rattle.gitwire.specs.declared.event.GitwireEvent.{GitwireEvent}
use Rattle.gitwire.specs.declared.answer.What.{What}

-- the digits of an object name that may be missing
abbrev pub digits_shown : Option ObjectName → List ℕ
digits_shown id = option_map_or hex_of id []

-- a text that may be missing
abbrev pub text_shown : Option (List ℕ) → List ℕ
text_shown text = unwrap_or text []

-- the bytes of the parts, one after another
abbrev pub bytes_shown : Parts → List ℕ
bytes_shown p = digits_shown p.id ++ text_shown p.name ++ text_shown p.text ++ digits_shown p.peeled

-- an event of these parts, and how many bytes were used
abbrev pub announcing_parts : ℕ → Parts → GitwireEvent
announcing_parts used p = record {
  used = used;
  offset = 0;
  id_length = length (digits_shown p.id);
  name_length = length (text_shown p.name);
  text_length = length (text_shown p.text);
  peeled_length = length (digits_shown p.peeled);
  size = unwrap_or p.size 0;
  kind = what_number (What.Event p.kind);
  fault = 0;
  has_text = is_some p.text;
  has_size = is_some p.size;
}

-- the bytes of an event that are written to the buffer: those of the pack and of the progress stay in the chunk
abbrev pub copied_of : Event → List ℕ
copied_of (Event.Pack bytes) = []
copied_of (Event.Progress bytes) = []
copied_of event = bytes_shown (parts_of event)

-- the bytes of an event that stay in the chunk
abbrev pub passed_of : Event → List ℕ
passed_of (Event.Pack bytes) = bytes.now
passed_of (Event.Progress bytes) = bytes.now
passed_of event = []

-- where the texts of an event begin: in the chunk, if they stay there, or else in the buffer after those of earlier events
abbrev pub place_of : Event → ℕ → ℕ → ℕ
place_of (Event.Pack bytes) end texts = end - length bytes.now
place_of (Event.Progress bytes) end texts = end - length bytes.now
place_of event end texts = texts

-- an event as C is shown it: how many bytes of the chunk were used up to its end, and where its texts begin
abbrev pub shown_at : Event → ℕ → ℕ → GitwireEvent
shown_at event end texts = record (announcing_parts end (parts_of event)) { offset = place_of event end texts }

-- no event
abbrev pub announcing_none : ℕ → What → GitwireEvent
announcing_none used what = record {
  used = used;
  offset = 0;
  id_length = 0;
  name_length = 0;
  text_length = 0;
  peeled_length = 0;
  size = 0;
  kind = what_number what;
  fault = 0;
  has_text = false;
  has_size = false;
}

-- no event: the conversation is refused for this error
abbrev pub answering_refusal : ℕ → Fault → GitwireEvent
answering_refusal used fault = record (announcing_none used What.Failed) { offset = fault.offset; fault = kind_number fault.kind }
