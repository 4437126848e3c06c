-- The agent that an end of a conversation names.
use Rattle.std.specs.Prelude.{ℕ, Bool, Option, Some, None, List, ◌++◌, codes, if◌then◌else◌, refl, replicate, take}
use Rattle.std.proofs.Common.{arith}
use Rattle.git_msg.specs.declared.agent.Agent.{Agent}

abbrev pub agent_text : Agent → List ℕ
agent_text agent = take agent.length agent.bytes

-- this library's own name
abbrev pub own_agent : Agent
own_agent = record { length = 6; bytes = codes "git2/1" ++ replicate 57 0; fits = omega arith; named = refl }

-- the agent that a request names: this one, if the server named its own
abbrev pub named_if : Bool → Agent → Option Agent
named_if named agent = if named then Some agent else None
