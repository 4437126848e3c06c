-- The written form of a request.
use Rattle.std.specs.Prelude.{ℕ, Bool, true, false, Option, Some, None, List, [], ◌∷◌, ◌++◌, ◌<◌, ◌≤◌, filter, if◌then◌else◌, length, map, not, codes}
use Rattle.git_names.specs.ObjectFormat.{name_of as format_name}
use Rattle.git_names.specs.declared.object_format.Format.{Format}
use Rattle.git_pkt.specs.Packets.{Pkt, flush, delim, longest_payload, payload}
use Rattle.git_msg.specs.Agents.{agent_text}
use Rattle.git_msg.specs.declared.words.TextWord.{TextWord}
use Rattle.git_msg.specs.Arguments.{Arg, with_text, name_of, written_text}
use Rattle.git_msg.specs.Asked.{Asked, command_asked, arguments_in}
use Rattle.git_msg.specs.declared.agent.Agent.{Agent}

-- a line, with LF at its end
abbrev pub text_line : List ℕ → Pkt
text_line text = payload (text ++ 10 ∷ [])

-- a packet before the others, if the flag is set
abbrev pub where_set : Bool → Pkt → List Pkt → List Pkt
where_set true p others = p ∷ others
where_set false p others = others

-- the line that names the agent
abbrev pub agent_line : Agent → Pkt
agent_line agent = text_line (codes "agent=" ++ agent_text agent)

-- that line before the others, if an agent is named
abbrev pub where_named : Option Agent → List Pkt → List Pkt
where_named (Some agent) others = agent_line agent ∷ others
where_named None others = others

-- the line that names the object format
abbrev pub format_line : Format → Pkt
format_line format = text_line (codes "object-format=" ++ format_name format)

-- whether it is a server option
abbrev pub is_option : Arg → Bool
is_option (with_text TextWord.ServerOption text) = true
is_option _ = false

-- the argument's line fits into a packet
abbrev pub FitsLine : Arg → Type 0
FitsLine (with_text TextWord.ServerOption text) = length (written_text (with_text TextWord.ServerOption text)) ≤ longest_payload
FitsLine arg = length (written_text arg) < longest_payload

-- the argument's line: LF ends it, but for a server option, since the longest one leaves no byte for it
abbrev pub argument_line : Arg → Pkt
argument_line (with_text TextWord.ServerOption text) = payload (written_text (with_text TextWord.ServerOption text))
argument_line arg = text_line (written_text arg)

-- the lines of these arguments, and the flush
abbrev pub argument_lines : List Arg → List Pkt
argument_lines args = map argument_line args ++ flush ∷ []

-- the delimiter, which is always there, and all after it
abbrev pub argument_part : List Arg → List Pkt
argument_part args = delim ∷ argument_lines args

-- the server options, which are first, then the object format, if it is named, and the argument part
abbrev pub options_and_rest : Bool → Format → List Arg → List Pkt
options_and_rest object_format format [] = where_set object_format (format_line format) (argument_part [])
options_and_rest object_format format (arg ∷ args) =
    if is_option arg then argument_line arg ∷ options_and_rest object_format format args
    else where_set object_format (format_line format) (argument_part (arg ∷ args))

-- the lines of all server options, then the object format, if it is named, and the argument part with all other arguments
abbrev pub options_apart : Bool → Format → List Arg → List Pkt
options_apart object_format format args =
    map argument_line (filter is_option args) ++ where_set object_format (format_line format) (argument_part (filter (λ arg. not (is_option arg)) args))

-- the packets of a request for this: an agent may be named, and so may the object format
abbrev pub lines_written : Option Agent → Bool → Format → Asked → List Pkt
lines_written agent object_format format asked =
    text_line (codes "command=" ++ name_of (command_asked asked)) ∷ where_named agent (options_and_rest object_format format (arguments_in asked))
