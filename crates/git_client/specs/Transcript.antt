-- The transcript of a conversation: a line for each event, except of a section and of bytes of the pack and of the progress, and for each request.
use Rattle.std.specs.Prelude.{ℕ, suc, List, [], ◌∷◌, ◌++◌, drop, Option, Some, None, codes, decimal}
use Rattle.git_names.specs.ObjectName.{hex_of}
use Rattle.git_pkt.specs.Escape.{escaped_of}
use Rattle.git_msg.specs.Arguments.{name_of}
use Rattle.git_msg.specs.Asked.{Asked, command_asked}
use Rattle.git_msg.specs.declared.arguments.Command.{Command}
use Rattle.git_msg.specs.References.{Ref, id_text, peeled_text}
use Rattle.git_client.specs.Events.{EventValue, capability, offered, reference, section, ack, nak, ready, shallow, unshallow, wanted_ref, pack, progress}
use Rattle.git_client.specs.Events.{info, ended}

-- a text that may be absent, after a word that comes before it
abbrev pub shown_after : List ℕ → Option (List ℕ) → List ℕ
shown_after word None = []
shown_after word (Some text) = word ++ escaped_of text

-- the text after a capability's key
abbrev pub value_shown : Option (List ℕ) → List ℕ
value_shown value = shown_after (codes "=") value

-- the text after a reference's name
abbrev pub target_shown : Option (List ℕ) → List ℕ
target_shown target = shown_after (codes " symref-target:") target

-- the line of a reference
abbrev pub reference_shown : Ref → List ℕ
reference_shown ref = codes "ref " ++ id_text ref.id ++ codes " " ++ escaped_of ref.name ++ target_shown ref.target ++ peeled_text ref.peeled ++ codes "\n"

-- the size of an object, or a dash if it is not there
abbrev pub size_shown : Option ℕ → List ℕ
size_shown None = codes "-"
size_shown (Some size) = decimal size

-- the line of an event; the numbers count the pack and progress bytes of a response that ends
abbrev pub line_of : EventValue → ℕ → ℕ → List ℕ
line_of (capability key value) packed announced = codes "capability " ++ escaped_of key ++ value_shown value ++ codes "\n"
line_of offered packed announced = codes "offered\n"
line_of (reference ref) packed announced = reference_shown ref
line_of (section begun) packed announced = []
line_of (ack id) packed announced = codes "ack " ++ hex_of id ++ codes "\n"
line_of nak packed announced = codes "nak\n"
line_of ready packed announced = codes "ready\n"
line_of (shallow id) packed announced = codes "shallow " ++ hex_of id ++ codes "\n"
line_of (unshallow id) packed announced = codes "unshallow " ++ hex_of id ++ codes "\n"
line_of (wanted_ref wanted) packed announced = codes "wanted-ref " ++ hex_of wanted.id ++ codes " " ++ escaped_of wanted.name ++ codes "\n"
line_of (info of) packed announced = codes "info " ++ hex_of of.id ++ codes " " ++ size_shown of.size ++ codes "\n"
line_of (pack byte) packed announced = []
line_of (progress byte) packed announced = []
line_of ended packed announced = codes "end " ++ decimal packed ++ codes " " ++ decimal announced ++ codes "\n"

-- the lines of events, with these numbers in each
abbrev pub lines_of : List EventValue → ℕ → ℕ → List ℕ
lines_of [] packed announced = []
lines_of (event ∷ events) packed announced = line_of event packed announced ++ lines_of events packed announced

-- the line of a request
abbrev pub asked_line : Command → List ℕ
asked_line command = codes "request " ++ name_of command ++ codes "\n"

-- the line of the next request, if there is one
abbrev pub next_asked : List Asked → List ℕ
next_asked [] = []
next_asked (question ∷ questions) = asked_line (command_asked question)

-- the lines of events and of the requests between them, after these numbers of pack and progress bytes of a response
abbrev pub transcript_from : List Asked → ℕ → ℕ → List EventValue → List ℕ
transcript_from asked packed announced [] = []
transcript_from asked packed announced (pack byte ∷ events) = transcript_from asked (suc packed) announced events
transcript_from asked packed announced (progress byte ∷ events) = transcript_from asked packed (suc announced) events
transcript_from asked packed announced (offered ∷ events) =
    line_of offered packed announced ++ next_asked asked ++ transcript_from (drop 1 asked) 0 0 events
transcript_from asked packed announced (ended ∷ events) =
    line_of ended packed announced ++ next_asked asked ++ transcript_from (drop 1 asked) 0 0 events
transcript_from asked packed announced (event ∷ events) = line_of event packed announced ++ transcript_from asked packed announced events

-- the transcript of these requests and events
abbrev pub transcript_of : List Asked → List EventValue → List ℕ
transcript_of asked events = transcript_from asked 0 0 events
