-- What showing a stream results in.
use Rattle.std.specs.Prelude.{◌≡◌, ℕ, ◌-◌, ◌≤◌, Bool, true, List, [], ◌∷◌, ◌++◌, length, Result, Ok, Err, Option, Some}
use Rattle.git_pkt.specs.Splits.{Given, Splits}
use Rattle.git_pkt.specs.Faults.{IsOpen, StopsBy}
use Rattle.git_pkt.specs.Streams.{IsTimely}
use Rattle.git_pkt.specs.declared.fault.RunFault.{RunFault}
use Rattle.git_pkt.specs.declared.fault.RunFault.TheVariants.{ReadFault, WriteFault, ReadLimit, Refused}
use Rattle.git2show_lib.specs.PacketLines.{lines_of}
use Rattle.git2show_lib.specs.PacketViews.{looked_for, of_any_command, shown, tally_of}
use Rattle.git2show_lib.specs.declared.views.Tally.{Tally}
use Rattle.git2show_lib.specs.declared.views.View.{View}

-- how the run ended: well where the input did, between two packets; else the rest shows why, or a stream failed. Where its
-- reads were spent each of them had brought some bytes.
abbrev pub EndsAs : Result (Unit {0}) RunFault → Bool → ℕ → List ℕ → List ℕ → List ℕ → Type 0
EndsAs (Ok done) ended turns used rest unused = (rest ≡ []) × (unused ≡ []) × (ended ≡ true)
EndsAs (Err ReadFault) ended turns used rest unused = IsOpen rest × (unused ≡ [])
EndsAs (Err ReadLimit) ended turns used rest unused = IsOpen rest × (unused ≡ []) × (turns ≤ length used)
EndsAs (Err WriteFault) ended turns used rest unused = Unit {0}
EndsAs (Err (Refused f)) ended turns used rest unused =
    StopsBy (length used - length rest) rest (length used) f.kind f.offset × IsTimely f.kind ended unused

-- the bytes given are what is shown of the packets of what was read, up to where reading stopped
pub record ShowsAs (show_all : List Given → List ℕ) (result : Result (Unit {0}) RunFault) (ended : Bool) (turns : ℕ) (read given : List (List ℕ)) : Type 0
  where
    pub used : List ℕ
    pub unused : List ℕ
    pub packets : List Given
    pub rest : List ℕ
    pub cut : read ≡ (used ++ unused) ∷ []
    pub splits : Splits 0 used packets rest
    pub lines : given ≡ show_all packets ∷ []
    pub ends : EndsAs result ended turns used rest unused

-- the lines given are those of the packets of what was read, up to where reading stopped
abbrev pub Shows : Result (Unit {0}) RunFault → Bool → ℕ → List (List ℕ) → List (List ℕ) → Type 0
Shows = ShowsAs lines_of

-- the same with options: what was counted before and after
pub record ShowsView (view : Option View) (start final : Tally) (result : Result (Unit {0}) RunFault) (ended : Bool) (turns : ℕ)
    (read given : List (List ℕ)) : Type 0 where
  pub shows : ShowsAs (shown view start) result ended turns read given
  pub tally : final ≡ tally_of view start shows.packets

-- what the view shows, if it looks for no command, of the packets that it looks for
abbrev pub ShowsRequests : View → Tally → Result (Unit {0}) RunFault → Bool → ℕ → List (List ℕ) → List (List ℕ) → Type 0
ShowsRequests view start = ShowsAs (λ given. shown (Some (of_any_command view)) start (looked_for view.only given))
