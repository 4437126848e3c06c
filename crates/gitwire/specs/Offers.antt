-- What a server advertises, as C passes it, and what was noted of an advertisement, as C is shown it: a bit for each feature.
use Rattle.std.specs.Prelude.{◌≡◌, ℕ, ◌+◌, Bool, true, false, not, ◌==◌, nat_lt, if◌then◌else◌, List, [], ◌∷◌, Option, None, unwrap_or}
use Rattle.std.specs.Int.Bits.{bit_and}
use Rattle.std.specs.Option.{option_map}
use Rattle.git_msg.specs.AgentNames.{is_agent}
use Rattle.git_msg.specs.Agents.{agent_text, own_agent}
use Rattle.git_msg.specs.declared.agent.Agent.{Agent}
use Rattle.git_msg.specs.declared.offers.Caps.{Caps}
use Rattle.git_msg.specs.declared.offers.Offer.{Offer}
use Rattle.gitwire.specs.Numbers.{formats, numbered}

-- the bit of a feature is set
abbrev pub has_feature : ℕ → ℕ → Bool
has_feature features bit = not (bit_and features bit == 0)

-- the offer that a format's number and the sum of features mean, if the number means a format and each bit is a feature's
abbrev pub offer_meant : ℕ → ℕ → Option Offer
offer_meant number features =
    if nat_lt 127 features then None else option_map (λ format. record {
      format = format;
      unborn = has_feature features 1;
      shallow = has_feature features 2;
      ref_in_want = has_feature features 4;
      wait_for_done = has_feature features 8;
      filter = has_feature features 64;
      object_info = has_feature features 32;
      server_option = has_feature features 16;
      agent = own_agent;
    }) (numbered formats number)

-- the agent's name that a text of C means: an empty text means this library's own
abbrev pub name_meant : List ℕ → List ℕ
name_meant [] = agent_text own_agent
name_meant text = text

-- the text means this agent, or none
abbrev pub MeansAgent : List ℕ → Agent → Type 0
MeansAgent text agent = agent_text agent ≡ name_meant text

abbrev pub MeansNoAgent : List ℕ → Type 0
MeansNoAgent text = is_agent (name_meant text) ≡ false

-- the offer by another agent
abbrev pub offer_by : Agent → Offer → Offer
offer_by agent offer = record offer { agent = agent }

-- a bit, if its feature was noted
abbrev pub where_shown : Bool → ℕ → ℕ
where_shown true bit = bit
where_shown false bit = 0

-- the bits of the features that were noted
abbrev pub features_shown : Caps → ℕ
features_shown caps =
    where_shown caps.unborn 1 + where_shown caps.shallow 2 + where_shown caps.ref_in_want 4 + where_shown caps.wait_for_done 8
    + where_shown caps.server_option 16 + where_shown caps.object_info 32 + where_shown caps.filter 64

-- whether each key was noted: the first has the number 1
abbrev pub keys_noted : Caps → List Bool
keys_noted caps = caps.agent ∷ caps.ls_refs ∷ caps.fetch ∷ caps.object_format ∷ caps.sha1 ∷ caps.sha256 ∷ []

-- whether the key of this number was noted; a number of no key was not
abbrev pub is_noted : ℕ → Caps → Bool
is_noted key caps = unwrap_or (numbered (keys_noted caps) key) false
