-- The packets that a writer of a request has left to write, and the one that it puts first.
use Rattle.std.specs.Prelude.{◌≡◌, ℕ, Bool, List, [], ◌∷◌, drop}
use Rattle.git_names.specs.declared.object_format.Format.{Format}
use Rattle.git_pkt.specs.Packets.{Pkt, spelling_of}
use Rattle.git_msg.specs.declared.agent.Agent.{Agent}
use Rattle.git_msg.specs.declared.offers.Caps.{Caps}
use Rattle.git_msg.specs.declared.requests.Request.{Request}
use Rattle.git_msg.specs.declared.writer.Next.{Next}
use Rattle.git_msg.specs.declared.writer.Next.TheVariants.{CommandLine, AgentLine, ServerOption, Delimiter, Argument, Done}
use Rattle.git_msg.specs.declared.writer.RequestWriter.{RequestWriter}
use Rattle.git_msg.specs.Agents.{named_if}
use Rattle.git_msg.specs.Asked.{Asked, arguments_in}
use Rattle.git_msg.specs.Machine.HeldRequest.{asked_of, format_of}
use Rattle.git_msg.specs.WrittenRequest.{agent_line, argument_lines, argument_part, lines_written, options_and_rest}

-- the packets from this one on: of the server options and of the arguments, those from this index on
abbrev pub lines_from : Next → Agent → Bool → Bool → Format → Asked → List Pkt
lines_from CommandLine agent named object_format format asked = lines_written (named_if named agent) object_format format asked
lines_from AgentLine agent named object_format format asked = agent_line agent ∷ options_and_rest object_format format (arguments_in asked)
lines_from (ServerOption i) agent named object_format format asked = options_and_rest object_format format (drop i (arguments_in asked))
lines_from (Delimiter i) agent named object_format format asked = argument_part (drop i (arguments_in asked))
lines_from (Argument i) agent named object_format format asked = argument_lines (drop i (arguments_in asked))
lines_from Done agent named object_format format asked = []

-- the packets that a writer has left for a request for this
abbrev pub lines_left : RequestWriter → Format → Asked → List Pkt
lines_left w format asked = lines_from w.next w.agent w.names_agent w.object_format format asked

module _ {A : Type 0} where
  -- the packets of the request: the agent and the object format are named if the server named its own
  abbrev pub written_of : Request A → Caps → Agent → List Pkt
  written_of request caps agent = lines_written (named_if caps.agent agent) caps.object_format (format_of request) (asked_of request)

  abbrev pub left_at : Next → RequestWriter → Request A → List Pkt
  left_at next w request = lines_from next w.agent w.names_agent w.object_format (format_of request) (asked_of request)

  -- the packets that are not written yet
  abbrev pub left_to_write : RequestWriter → Request A → List Pkt
  left_to_write w request = lines_left w (format_of request) (asked_of request)

-- the hold is the first of the packets that were left, and the others are left
pub record PutsFirst (before after : List Pkt) (held : List ℕ) : Type 0 where
  pub packet : Pkt
  pub first : before ≡ packet ∷ after
  pub written : held ≡ spelling_of packet
