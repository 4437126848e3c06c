-- The meaning of each state of a reader, for its hold and for the number of its packet.
use Rattle.std.specs.Prelude.{◌≡◌, ℕ, ◌+◌, ◌-◌, ◌<◌, ◌≤◌, Bool, true, false, List, length, take, drop, Option, Some, None}
use Rattle.git_pkt.specs.Machine.HeldPacket.{IsGathering}
use Rattle.git_pkt.specs.Passed.{begins_band}
use Rattle.git_pkt.specs.declared.fault.Fault.{Fault}
use Rattle.git_pkt.specs.declared.reader.State.{State}
use Rattle.git_pkt.specs.declared.reader.State.TheVariants.{Between, Gathering, Passing, Failed}

-- how many bytes of the open packet the hold has, at its front
abbrev pub held_in : State → ℕ
held_in Between = 0
held_in (Gathering count) = count
held_in (Passing left) = 5
held_in (Failed fault) = 0

-- how many bytes of it have come
abbrev pub come_in : State → ℕ → ℕ
come_in Between field = 0
come_in (Gathering count) field = count
come_in (Passing left) field = field - left
come_in (Failed fault) field = 0

-- how many bytes of it are still to come, if they pass
abbrev pub left_in : State → ℕ
left_in Between = 0
left_in (Gathering count) = 0
left_in (Passing left) = left
left_in (Failed fault) = 0

-- how many bytes of it have come but are not in the hold
abbrev pub passed_length_in : State → ℕ → ℕ
passed_length_in Between field = 0
passed_length_in (Gathering count) field = 0
passed_length_in (Passing left) field = field - left - 5
passed_length_in (Failed fault) field = 0

abbrev pub fault_in : State → Option Fault
fault_in Between = None
fault_in (Gathering count) = None
fault_in (Passing left) = None
fault_in (Failed fault) = Some fault

abbrev pub is_open_in : State → Bool
is_open_in Between = false
is_open_in (Gathering count) = true
is_open_in (Passing left) = true
is_open_in (Failed fault) = false

-- all that has come of the open packet is in the hold
abbrev pub gathers_in : State → Bool
gathers_in Between = false
gathers_in (Gathering count) = true
gathers_in (Passing left) = false
gathers_in (Failed fault) = false

abbrev pub passes_in : State → Bool
passes_in Between = false
passes_in (Gathering count) = false
passes_in (Passing left) = true
passes_in (Failed fault) = false

-- so many bytes of the open packet have come, and they are at the hold's front
pub record IsGathered (count : ℕ) (held : List ℕ) (field position : ℕ) : Type 0 where
  pub within : count ≤ length held
  pub gathering : IsGathering (take count held) field
  pub behind : count ≤ position

-- the hold is the first five bytes of the open packet, which is on a band whose bytes pass; so many are still to come
pub record IsPassing (left : ℕ) (held : List ℕ) (field position : ℕ) : Type 0 where
  pub five : length held ≡ 5
  pub gathering : IsGathering held field
  pub on_band : begins_band (drop 4 held) ≡ true
  pub some : 0 < left
  pub fits : left + 5 ≤ field
  pub behind : field ≤ left + position
