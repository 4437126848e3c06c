-- What a request of another client has that this project does not know, as the transcript shows it, and what of it changes the response.
use Rattle.std.specs.Prelude.{ℕ, ◌==◌, Bool, true, false, ◌&&◌, ◌||◌, Option, Some, None, List, [], ◌∷◌, ◌++◌, codes, if◌then◌else◌}
use Rattle.std.specs.List.{before_first}
use Rattle.std.specs.Str.{bytes_eq}
use Rattle.git_names.specs.declared.object_format.Format.{Format}
use Rattle.git_pkt.specs.Escape.{escaped_of}
use Rattle.git_pkt.specs.Packets.{Pkt, payload, text_of}
use Rattle.git_pkt.specs.Splits.{Given}
use Rattle.git_msg.specs.Advertisement.{value_of}
use Rattle.git_msg.specs.Asked.{Asked}
use Rattle.git_msg.specs.declared.arguments.Command.{Command}
use Rattle.git_msg.specs.declared.arguments.Command.TheVariants.{Fetch}
use Rattle.git2show_lib.specs.Others.{first_place, is_other_argument, is_other_capability, names_other, place_next}
use Rattle.git2show_lib.specs.declared.other_lines.Asks.{Asks}
use Rattle.git2show_lib.specs.declared.others.Place.{Place}
use Rattle.git2show_lib.specs.declared.others.Place.TheVariants.{Arguments}
use Rattle.git2show_lib.specs.declared.sieve.Form.{Form}

-- ---- lines of the transcript

-- a word and a text, escaped
abbrev pub line_with : List ℕ → List ℕ → List ℕ
line_with word text = word ++ escaped_of text ++ codes "\n"

-- the line for a line of a request: only what was advertised and is not known has one
unfoldable pub shown_line : List ℕ → Place → List ℕ → List ℕ
shown_line text (Arguments command) line = if is_other_argument text command line then line_with (codes "argument ") line else []
shown_line text place line = if is_other_capability text line then line_with (codes "capability ") line else []

-- the line for a packet of a request
abbrev pub shown_at : List ℕ → Place → Pkt → List ℕ
shown_at text place (payload bytes) = shown_line text place (text_of bytes)
shown_at text place packet = []

-- the line for a request whose command is not known, which the packet names
abbrev pub name_shown : Pkt → List ℕ
name_shown (payload bytes) = line_with (codes "request ") (value_of (text_of bytes))
name_shown packet = []

-- the lines for the packets of such a request: those of the packets before the one that names the command, and the line for that one
abbrev pub named_in : List ℕ → Place → List Given → List ℕ
named_in text place [] = []
named_in text place (g ∷ gs) =
    if names_other text place g.packet then name_shown g.packet
    else shown_at text place g.packet ++ named_in text (place_next place g.packet) gs

abbrev pub named_by : List ℕ → List Given → List ℕ
named_by text packets = named_in text first_place packets

-- ---- what changes the response

abbrev pub asks_nothing : Asks
asks_nothing = record { uris = false; bands = false }

unfoldable pub asks_word : Asks → List ℕ → Asks
asks_word asks word =
    record { uris = asks.uris || bytes_eq word (codes "packfile-uris"); bands = asks.bands || bytes_eq word (codes "sideband-all") }

abbrev pub is_fetch : Option Command → Bool
is_fetch (Some Fetch) = true
is_fetch command = false

-- an argument of `fetch` asks for it by its first word, if it was advertised
unfoldable pub asks_line : List ℕ → Place → Asks → List ℕ → Asks
asks_line text (Arguments command) asks line =
    if is_fetch command && is_other_argument text command line then asks_word asks (before_first (λ c. c == 32) line) else asks
asks_line text place asks line = asks

abbrev pub asks_at : List ℕ → Place → Asks → Pkt → Asks
asks_at text place asks (payload bytes) = asks_line text place asks (text_of bytes)
asks_at text place asks packet = asks

-- the form in which the response comes, if it was asked for
abbrev pub form_asked : Format → Asks → Option Form
form_asked format asks =
    if asks.uris || asks.bands then Some (record { format = format; uris = asks.uris; on_bands = asks.bands }) else None

-- ---- requests

-- what a request has that is not known: its lines in the transcript, and what it asks of the response
pub record Noted : Type 0 where
  pub lines : List ℕ
  pub asks : Asks

abbrev pub nothing_noted : Noted
nothing_noted = record { lines = []; asks = asks_nothing }

-- the same with a packet more
abbrev pub noted_with : List ℕ → Place → Noted → Pkt → Noted
noted_with text place noted packet =
    record { lines = noted.lines ++ shown_at text place packet; asks = asks_at text place noted.asks packet }

abbrev pub noted_from : List ℕ → Place → Noted → List Given → Noted
noted_from text place noted [] = noted
noted_from text place noted (g ∷ gs) = noted_from text (place_next place g.packet) (noted_with text place noted g.packet) gs

-- that of the packets of one request
abbrev pub noted_of : List ℕ → List Given → Noted
noted_of text packets = noted_from text first_place nothing_noted packets

-- a request: one that asks for this, with what it has beside that, or one whose command is not known, with its lines
pub data Question : Type 0 where
  known : (q : Asked) (noted : Noted) → Question
  other : (lines : List ℕ) → Question
