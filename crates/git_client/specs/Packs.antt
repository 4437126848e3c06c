-- The pack of a conversation: the bytes of the first side band, joined in order.
use Rattle.std.specs.Prelude.{◌≡◌, ℕ, ◌==◌, List, [], ◌∷◌, ◌++◌, drop, Option, Some, if◌then◌else◌}
use Rattle.git_pkt.specs.Packets.{Pkt, payload}
use Rattle.git_pkt.specs.Splits.{Given, Splits}
use Rattle.git_msg.specs.Asked.{Asked}
use Rattle.git_client.specs.Parts.{Terms, nearest}
use Rattle.git_client.specs.Places.{Place, packfile, place_after}
use Rattle.git_client.specs.Events.{EventValue}
use Rattle.git_client.specs.Opened.{IsOfRest, unless_refused}
use Rattle.git_client.specs.Conversation.{GiveAll, IsStop}

-- the bytes of a payload on the first band
abbrev pub on_first_band : List ℕ → List ℕ
on_first_band [] = []
on_first_band (band ∷ bytes) = if band == 1 then bytes else []

abbrev pub pack_in : Option Place → Pkt → List ℕ
pack_in (Some packfile) (payload bytes) = on_first_band bytes
pack_in place p = []

-- the pack bytes of packets after those before them
abbrev pub pack_of : Terms → List Asked → List Pkt → List Given → List ℕ
pack_of t asked before [] = []
pack_of t asked before (g ∷ gs) = pack_in (place_after t asked before) g.packet ++ pack_of t asked (g.packet ∷ before) gs

-- the pack bytes of an open packet at this place
abbrev pub open_pack_in : Option Place → List ℕ → List ℕ
open_pack_in (Some packfile) rest = on_first_band (drop 4 rest)
open_pack_in place rest = []

-- the pack of the bytes: that of their packets up to the first that is refused, and the received pack bytes of an open one
pub record HasPack (t : Terms) (asked : List Asked) (bytes pack : List ℕ) : Type 0 where
  pub clean : List Given
  pub more : List Given
  pub rest : List ℕ
  pub events : List EventValue
  pub opened : List ℕ
  pub splits : Splits 0 bytes (clean ++ more) rest
  pub gives : GiveAll t asked [] clean events
  pub stops : IsStop t asked (nearest clean []) more
  -- nothing, if a packet was refused
  pub of_rest : IsOfRest rest (unless_refused more (open_pack_in (place_after t asked (nearest clean [])) rest)) opened
  pub pack_is : pack ≡ pack_of t asked [] clean ++ opened
