-- What a request of another client may have since its server advertised it, beside what this project knows: keys of capability lines, commands,
-- and words of the values of `fetch` and `ls-refs`.
use Rattle.std.specs.Prelude.{◌≡◌, ◌≢◌, ◌⊎◌, ℕ, ◌+◌, ◌≤◌, ◌-◌, ◌==◌, Bool, true, false, not, ◌&&◌, ◌||◌, Option, Some, None, List, [], ◌∷◌}
use Rattle.std.specs.Prelude.{◌++◌, length, codes, if◌then◌else◌}
use Rattle.std.specs.List.{before_first, list_any, list_all}
use Rattle.std.specs.Str.{bytes_eq}
use Rattle.git_pkt.specs.Packets.{Pkt, flush, delim, resp_end, payload, text_of}
use Rattle.git_pkt.specs.Splits.{Given, Splits}
use Rattle.git_pkt.specs.Faults.{IsOpen, StopsBy}
use Rattle.git_pkt.specs.declared.fault.Fault.{Fault}
use Rattle.git_pkt.specs.declared.fault.Kind.TheVariants.{Truncated}
use Rattle.git_msg.specs.Advertisement.{key_of, value_of}
use Rattle.git_msg.specs.Arguments.{name_of}
use Rattle.git_msg.specs.Capability.{is_key_byte, is_value_byte}
use Rattle.git_msg.specs.Texts.{parts_of, spaced_words}
use Rattle.git_msg.specs.declared.arguments.Command.{Command}
use Rattle.git_msg.specs.declared.arguments.Command.TheVariants.{LsRefs, Fetch}
use Rattle.git_msg.specs.declared.offers.Offer.{Offer}
use Rattle.git_msg.specs.Requests.{AreBegun}
use Rattle.git_client.specs.declared.events.Ending.{Ending}
use Rattle.git_client.specs.declared.events.Ending.TheVariants.{FlushOnly, ResponseEnd}
use Rattle.git2show_lib.specs.declared.others.Place.{Place}
use Rattle.git2show_lib.specs.declared.others.Place.TheVariants.{Unnamed, Named, Arguments}

-- ---- what is known

-- a key that is known, of an advertisement or of a request; the first line of an advertisement, which is none, counts as one
unfoldable pub is_own_key : List ℕ → Bool
is_own_key key =
    (length key == 0) || bytes_eq key (codes "version 2") || bytes_eq key (codes "agent") || bytes_eq key (codes "command")
    || bytes_eq key (codes "fetch") || bytes_eq key (codes "ls-refs") || bytes_eq key (codes "object-format")
    || bytes_eq key (codes "object-info") || bytes_eq key (codes "server-option")

-- a feature of `fetch` or of `ls-refs`
unfoldable pub is_feature : List ℕ → Bool
is_feature word =
    (length word == 0) || bytes_eq word (codes "filter") || bytes_eq word (codes "ref-in-want") || bytes_eq word (codes "shallow")
    || bytes_eq word (codes "unborn") || bytes_eq word (codes "wait-for-done")

-- what an argument of theirs that selects the wanted objects begins with
unfoldable pub is_word_of_objects : List ℕ → Bool
is_word_of_objects word =
    bytes_eq word (codes "deepen") || bytes_eq word (codes "deepen-not") || bytes_eq word (codes "deepen-relative")
    || bytes_eq word (codes "deepen-since") || bytes_eq word (codes "done") || bytes_eq word (codes "have")
    || bytes_eq word (codes "want") || bytes_eq word (codes "want-ref")

-- or how the answer is to be
unfoldable pub is_word_of_answers : List ℕ → Bool
is_word_of_answers word =
    bytes_eq word (codes "include-tag") || bytes_eq word (codes "no-progress") || bytes_eq word (codes "ofs-delta")
    || bytes_eq word (codes "peel") || bytes_eq word (codes "ref-prefix") || bytes_eq word (codes "symrefs")
    || bytes_eq word (codes "thin-pack")

-- a feature, or what an argument of theirs begins with
unfoldable pub is_own_word : List ℕ → Bool
is_own_word word = is_feature word || is_word_of_objects word || is_word_of_answers word

-- ---- what is advertised beside it

-- the word is this one, or without one it is not known
unfoldable pub word_passes : Option (List ℕ) → List ℕ → Bool
word_passes (Some wanted) word = bytes_eq word wanted
word_passes None word = not (is_own_word word)

unfoldable pub has_word : Option (List ℕ) → List ℕ → Bool
has_word wanted value = list_any (word_passes wanted) (spaced_words value)

-- the line of an advertisement has something that is not known: its key, or a word of its value where that has words
unfoldable pub is_other_line : List ℕ → Bool
is_other_line line =
    if bytes_eq (key_of line) (codes "fetch") || bytes_eq (key_of line) (codes "ls-refs") then has_word None (value_of line)
    else not (is_own_key (key_of line))

-- of an advertisement the lines that have something which is not known, each with an LF after it
unfoldable pub line_kept : Pkt → List ℕ
line_kept (payload bytes) = if is_other_line (text_of bytes) then text_of bytes ++ 10 ∷ [] else []
line_kept packet = []

abbrev pub lines_kept : List Given → List ℕ
lines_kept [] = []
lines_kept (g ∷ gs) = line_kept g.packet ++ lines_kept gs

-- these are such lines of the bytes
pub record HasLines (bytes text : List ℕ) : Type 0 where
  pub given : List Given
  pub rest : List ℕ
  pub splits : Splits 0 bytes given rest
  pub text_is : text ≡ lines_kept given

-- the line has this key, or of this command this word in its value
unfoldable pub line_has : Option Command → List ℕ → List ℕ → Bool
line_has None word line = bytes_eq (key_of line) word
line_has (Some command) word line = bytes_eq (key_of line) (name_of command) && has_word (Some word) (value_of line)

-- some line of the text has it
unfoldable pub is_advertised : List ℕ → Option Command → List ℕ → Bool
is_advertised text command word = list_any (line_has command word) (parts_of 10 text)

-- ---- what a request has of it

unfoldable pub is_allowed_key : List ℕ → Bool
is_allowed_key key = list_all is_key_byte key

unfoldable pub is_allowed_value : List ℕ → Bool
is_allowed_value value = list_all is_value_byte value

-- the capability line is not known, and has a key that was advertised
unfoldable pub is_other_capability : List ℕ → List ℕ → Bool
is_other_capability text line =
    is_allowed_key (key_of line) && is_allowed_value (value_of line) && not (is_own_key (key_of line))
    && is_advertised text None (key_of line)

-- the argument begins with a word that is not known, and was advertised of the request's command
unfoldable pub is_other_argument : List ℕ → Option Command → List ℕ → Bool
is_other_argument text (Some command) line =
    not (is_own_word (before_first (λ c. c == 32) line)) && is_advertised text (Some command) (before_first (λ c. c == 32) line)
is_other_argument text None line = false

-- the line names a command that is not known, and was advertised by its key
unfoldable pub is_other_command : List ℕ → List ℕ → Bool
is_other_command text line =
    bytes_eq (key_of line) (codes "command") && not (is_own_key (value_of line)) && is_advertised text None (value_of line)

-- the command that a value names, if it has words of its own in an advertisement
unfoldable pub command_named : List ℕ → Option Command
command_named value =
    if bytes_eq value (codes "fetch") then Some Fetch else if bytes_eq value (codes "ls-refs") then Some LsRefs else None

-- the command of a request at a place, if a line before it named one that has words of its own in an advertisement
abbrev pub command_in : Place → Option Command
command_in Unnamed = None
command_in (Named command) = command
command_in (Arguments command) = command

-- where a request's first packet is
abbrev pub first_place : Place
first_place = Unnamed

-- where the packet is that comes after this line: the first line whose key is `command` names the command
unfoldable pub place_at_line : Place → List ℕ → Place
place_at_line Unnamed line = if bytes_eq (key_of line) (codes "command") then Named (command_named (value_of line)) else Unnamed
place_at_line place line = place

-- where the packet is that comes after this one
abbrev pub place_next : Place → Pkt → Place
place_next place flush = first_place
place_next place delim = Arguments (command_in place)
place_next place resp_end = place
place_next place (payload bytes) = place_at_line place (text_of bytes)

-- where the packet is that comes after these
abbrev pub place_after : Place → List Given → Place
place_after place [] = place
place_after place (g ∷ gs) = place_after (place_next place g.packet) gs

-- the packet is the first line that names a command, and that is not known, and was advertised by its key
abbrev pub names_other : List ℕ → Place → Pkt → Bool
names_other text Unnamed (payload bytes) = is_other_command text (text_of bytes)
names_other text place packet = false

-- none of the packets is such a line
abbrev pub NoneNames : List ℕ → Place → List Given → Type 0
NoneNames text place [] = Unit {0}
NoneNames text place (g ∷ gs) = (names_other text place g.packet ≡ false) × NoneNames text (place_next place g.packet) gs

unfoldable pub judged_line : List ℕ → Place → List ℕ → Option Pkt
judged_line text (Arguments command) bytes = if is_other_argument text command (text_of bytes) then None else Some (payload bytes)
judged_line text place bytes = if is_other_capability text (text_of bytes) then Some (payload (codes "agent")) else Some (payload bytes)

-- the packet that a request's packet is read as: what was advertised and is not known is a capability line as `agent`, which changes
-- nothing, and an argument as none; any other is read as it is
abbrev pub judged_packet : List ℕ → Place → Pkt → Option Pkt
judged_packet text place (payload bytes) = judged_line text place bytes
judged_packet text place packet = Some packet

abbrev pub given_as : Option Pkt → ℕ → List Given
given_as None offset = []
given_as (Some packet) offset = record { packet = packet; offset = offset } ∷ []

-- the packets that packets of requests are read as
abbrev pub judged_in : List ℕ → Place → List Given → List Given
judged_in text place [] = []
judged_in text place (g ∷ gs) = given_as (judged_packet text place g.packet) g.offset ++ judged_in text (place_next place g.packet) gs

-- those of one request
abbrev pub judged_of : List ℕ → List Given → List Given
judged_of text packets = judged_in text first_place packets

-- how many bytes of a packet of a request count as kept of it: those of the text of an argument, whether it is known or not, and of a
-- capability line that is not known
unfoldable pub counted_line : List ℕ → Place → List ℕ → ℕ
counted_line text (Arguments command) line = length line
counted_line text place line = if is_other_capability text line then length line else 0

abbrev pub counted_at : List ℕ → Place → Pkt → ℕ
counted_at text place (payload bytes) = counted_line text place (text_of bytes)
counted_at text place packet = 0

abbrev pub counted_in : List ℕ → Place → List Given → ℕ
counted_in text place [] = 0
counted_in text place (g ∷ gs) = counted_at text place g.packet + counted_in text (place_next place g.packet) gs

-- those of the packets of one request
abbrev pub counted_of : List ℕ → List Given → ℕ
counted_of text packets = counted_in text first_place packets

-- what a server advertised: what is offered by it, and its lines that have something which is not known
pub record Advertised : Type 0 where
  pub offer : Offer
  pub text : List ℕ

-- ---- requests for commands that are not known, and the answers to them

-- none of the packets is this
abbrev pub NoneIs : Pkt → List Given → Type 0
NoneIs packet [] = Unit {0}
NoneIs packet (g ∷ gs) = (g.packet ≢ packet) × NoneIs packet gs

-- the packets are those up to the first that is this
pub record EndAt (packet : Pkt) (packets : List Given) : Type 0 where
  pub front : List Given
  pub last : Given
  pub parts : packets ≡ front ++ last ∷ []
  pub none_before : NoneIs packet front
  pub is_last : last.packet ≡ packet

-- the packets begin with lines that a request may begin with, and no more of them counts as kept than the limit; after them comes the first
-- line that names a command, which is not known, and was advertised
pub record BeginWithOther (by : Advertised) (limit : ℕ) (packets : List Given) : Type 0 where
  pub front : List Given
  pub named : Given
  pub more : List Given
  pub parts : packets ≡ front ++ named ∷ more
  pub begun : AreBegun by.offer limit (judged_of by.text front)
  pub kept : counted_of by.text front ≤ limit
  pub names : names_other by.text (place_after first_place front) named.packet ≡ true

-- the packets are such a request, which passes up to its flush
pub record IsOtherRequest (by : Advertised) (limit : ℕ) (packets : List Given) : Type 0 where
  pub begins : BeginWithOther by limit packets
  pub ends : EndAt flush packets

-- the packets begin such a request
pub record IsOtherBegun (by : Advertised) (limit : ℕ) (packets : List Given) : Type 0 where
  pub begins : BeginWithOther by limit packets
  pub goes_on : NoneIs flush packets

-- the packet that ends each response
abbrev pub last_of : Ending → Pkt
last_of FlushOnly = flush
last_of ResponseEnd = resp_end

abbrev pub is_last : Ending → Pkt → Bool
is_last FlushOnly flush = true
is_last ResponseEnd resp_end = true
is_last ending packet = false

-- the bytes are the answer to such a request, which passes up to the packet that ends each response
pub record IsOtherAnswer (ending : Ending) (bytes : List ℕ) : Type 0 where
  pub given : List Given
  pub splits : Splits 0 bytes given []
  pub ends : EndAt (last_of ending) given

-- the bytes begin such an answer, and this rest of them is no packet
pub record IsAnswerBegun (ending : Ending) (bytes rest : List ℕ) : Type 0 where
  pub given : List Given
  pub splits : Splits 0 bytes given rest
  pub goes_on : NoneIs (last_of ending) given

-- the bytes after packets are no packet's
pub record AreNoPacket (rest : List ℕ) (end : ℕ) (fault : Fault) : Type 0 where
  pub stops : StopsBy (end - length rest) rest end fault.kind fault.offset
  pub not_the_end : fault.kind ≢ Truncated

-- the input ended where a packet was expected: reported at the end of the last whole packet
pub record AreCutOff (rest : List ℕ) (end : ℕ) (fault : Fault) : Type 0 where
  pub still_open : IsOpen rest
  pub kind : fault.kind ≡ Truncated
  pub at : fault.offset + length rest ≡ end

-- packets that pass break off before their last
abbrev pub BreakOff : List ℕ → ℕ → Fault → Type 0
BreakOff rest end fault = AreNoPacket rest end fault ⊎ AreCutOff rest end fault
