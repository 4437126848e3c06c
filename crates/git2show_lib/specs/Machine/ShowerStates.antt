-- The states of a shower in a run, and the laws that join its calls.
use Rattle.std.specs.Prelude.{◌≡◌, ℕ, Bool, true, false, List, [], ◌++◌, Option, Some, None}
use Rattle.std.proofs.Common.{sym, ap, ◌∙◌, subst}
use Rattle.git_loop.specs.Carried.{Carries}
use Rattle.git_loop.specs.Moves.{Move}
use Rattle.git_pkt.specs.Splits.{Given}
use Rattle.git_pkt.specs.Machine.PacketReader.{Reads, ReadsOn, fault_of, is_open, passes_of}
use Rattle.git_pkt.specs.declared.fault.Fault.{Fault}
use Rattle.git_pkt.specs.declared.fault.Kind.TheVariants.{StreamTooLong, Truncated}
use Rattle.git_pkt.specs.declared.reader.PacketReader.{PacketReader}
use Rattle.git2show_lib.specs.PacketViews.{shown, tally_of}
use Rattle.git2show_lib.specs.declared.shower.Phase.{Phase}
use Rattle.git2show_lib.specs.declared.shower.Phase.TheVariants.{Gathering, Stopped, Closed}
use Rattle.git2show_lib.specs.declared.shower.Shower.{Shower}
use Rattle.git2show_lib.specs.declared.views.Tally.{Tally}
use Rattle.git2show_lib.specs.declared.views.View.{View}

-- ---- its phase

abbrev pub is_over : Phase → Bool
is_over Gathering = false
is_over (Stopped f) = true
is_over Closed = true

abbrev pub fault_in : Phase → Option Fault
fault_in Gathering = None
fault_in (Stopped f) = Some f
fault_in Closed = None

-- it stopped because the stream is too long
abbrev pub IsTooLong : Phase → Type 0
IsTooLong Gathering = ⊥
IsTooLong (Stopped f) = f.kind ≡ StreamTooLong
IsTooLong Closed = ⊥

-- the reader as it stands in each phase; `over` states whether the input has ended
abbrev pub StandsIn : Phase → PacketReader → Bool → Type 0
StandsIn Gathering packets over = fault_of packets ≡ None
StandsIn (Stopped f) packets over = (fault_of packets ≡ Some f) × (f.kind ≡ Truncated → over ≡ true)
StandsIn Closed packets over = (fault_of packets ≡ None) × (is_open packets ≡ false) × (over ≡ true)

-- ---- one call

-- the reader went on over these bytes, and what is shown of its packets waits behind the other lines
pub record Gathers (view : Option View) (start final : Tally) (old new : PacketReader) (bytes before after : List ℕ) : Type 0 where
  pub packets : List Given
  pub reads : ReadsOn old bytes packets new
  pub lines : after ≡ before ++ shown view start packets
  pub tally : final ≡ tally_of view start packets

module _ {V : Type 0} where
  -- what a call may rely on in each state
  pub record IsSound (s : Shower V) : Type 0 where
    pub sound : s.phase ≡ Gathering → fault_of s.packets ≡ None
    pub gathers : passes_of s.packets ≡ false

  -- all lines were sent, and more packets may come
  pub record Waits (s : Shower V) : Type 0 where
    pub gathering : s.phase ≡ Gathering
    pub all_given : s.lines.waiting ≡ []
    pub sound : IsSound s

  pub waits_open : (s : Shower V) → Waits s → is_over s.phase ≡ true → ⊥
  waits_open s waits over = let no : false ≡ true = sym (ap is_over waits.gathering) ∙ over in absurd (cc)

  pub waits_in_time : (s : Shower V) → Waits s → IsTooLong s.phase → ⊥
  waits_in_time s waits too_long = subst IsTooLong waits.gathering too_long

-- ---- the calls of a run

-- what a shower began with: a view, or none, and what had been counted
pub record Beginning : Type 0 where
  pub view : Option View
  pub tally : Tally

module _ {V : Type 0} (view_of : V → Option View) where
  -- since it began so, a shower has used these bytes, and what is shown of their packets was sent or waits
  pub record HasShown (begun : Beginning) (used : List ℕ) (over : Bool) (given : List ℕ) (s : Shower V) : Type 0 where
    pub packets : List Given
    pub rest : List ℕ
    pub by : view_of s.renderer ≡ begun.view
    pub reads : Reads s.packets 0 used packets rest
    pub lines : given ++ s.lines.waiting ≡ shown begun.view begun.tally packets
    pub tally : s.tally ≡ tally_of begun.view begun.tally packets
    pub stands : StandsIn s.phase s.packets over

  -- what held before these moves holds after them, with what they used and gave
  abbrev pub ShowerReaches : Shower V → List Move → Shower V → Type 0
  ShowerReaches old trace new = Carries HasShown old trace new
