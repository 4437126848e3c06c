-- The parts of a written line of text, and lines that wait for their writer.
use Rattle.std.specs.Prelude.{◌≡◌, ℕ, ◌+◌, ◌*◌, length, Bool, false, List, [], ◌∷◌, ◌++◌, codes, decimal, Option, Some, None}
use Rattle.git_names.specs.ObjectName.{ObjectName, hex_of}
use Rattle.git_pkt.specs.Escape.{escaped_of}
use Rattle.git_pkt.specs.Streams.{Flow, WrittenAs}
use Rattle.git_client.specs.declared.event_parts.EventKind.{EventKind}
use Rattle.git_client.specs.declared.line.Part.{Part}
use Rattle.git_client.specs.declared.line.Part.TheVariants.{Word, Text, Name, Number}

-- the bytes of a part
abbrev pub part_shown : Part → List ℕ
part_shown (Word word) = word.now
part_shown (Text word text) = word.now ++ escaped_of text.now
part_shown (Name word id) = word.now ++ hex_of id.now
part_shown (Number word number) = word.now ++ decimal number

-- the line of the parts
abbrev pub line_shown : List Part → List ℕ
line_shown [] = codes "\n"
line_shown (part ∷ parts) = part_shown part ++ line_shown parts

-- how much space is reserved for a part: four bytes for each that is escaped
abbrev pub space_of : Part → ℕ
space_of (Word word) = length word.now
space_of (Text word text) = length word.now + 4 * length text.now
space_of (Name word id) = length word.now + 64
space_of (Number word number) = length word.now + 20

-- and for the line of the parts
abbrev pub space_for : List Part → ℕ
space_for [] = 1
space_for (part ∷ parts) = space_of part + space_for parts

-- the line of an event takes no more
abbrev pub longest_line : ℕ
longest_line = 262320

-- the object of an event after its word: a reference without one is unborn
abbrev pub object_shown : EventKind → Option ObjectName → List ℕ
object_shown kind (Some id) = codes " " ++ hex_of id
object_shown EventKind.Reference None = codes " unborn"
object_shown kind None = []

-- the word before the text of an event
abbrev pub text_word : EventKind → List ℕ
text_word EventKind.Capability = codes "="
text_word kind = codes " symref-target:"

-- the size of an object, or a dash if the line about an object has none
abbrev pub size_after : EventKind → Option ℕ → List ℕ
size_after kind (Some size) = codes " " ++ decimal size
size_after EventKind.Info None = codes " -"
size_after kind None = []

-- a number in the line at a response's end
abbrev pub count_after : EventKind → ℕ → List ℕ
count_after EventKind.Ended count = codes " " ++ decimal count
count_after kind count = []

-- The bytes were appended to those that waited for the writer: the first of all these were written, and the others wait. If a write failed, a
-- prefix of the first was written.
pub record PutAs (broken : Bool) (stream : Flow) (before bytes after : List ℕ) : Type 0 where
  pub sent : List ℕ
  pub rest : List ℕ
  pub all : before ++ bytes ≡ sent ++ rest
  pub written : WrittenAs broken stream sent
  pub waits : broken ≡ false → after ≡ rest
