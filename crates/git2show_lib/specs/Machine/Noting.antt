-- What is kept of an advertisement as its bytes come.
use Rattle.std.specs.Prelude.{◌≡◌, ◌⊎◌, ℕ, false, List, [], ◌∷◌, ◌++◌, Option, Some, None, if◌then◌else◌}
use Rattle.git_pkt.specs.Packets.{Pkt}
use Rattle.git_pkt.specs.Splits.{Given}
use Rattle.git_pkt.specs.Machine.PacketReader.{Reads, passes_of}
use Rattle.git_pkt.specs.declared.fault.Kind.{Kind}
use Rattle.git_pkt.specs.declared.fault.Kind.TheVariants.{OutOfMemory, TooMuchKept}
use Rattle.git2show_lib.specs.Others.{is_other_line, line_kept, lines_kept}
use Rattle.git2show_lib.specs.declared.noting.Noting.{Noting}

-- why a line is not kept
abbrev pub IsLost : Kind → Type 0
IsLost kind = (kind ≡ TooMuchKept) ⊎ (kind ≡ OutOfMemory)

-- if a line was not kept, this is why
abbrev pub AreLost : Option Kind → Type 0
AreLost None = Unit {0}
AreLost (Some kind) = IsLost kind

-- a line is kept if it has something that is not known, unless one is not kept, now or before
pub record LosesNone (line old : List ℕ) (lost : Option Kind) (new : List ℕ) (now_lost : Option Kind) : Type 0 where
  pub kept : now_lost ≡ None → (lost ≡ None) × (new ≡ old ++ (if is_other_line line then line ++ 10 ∷ [] else []))
  pub why : AreLost lost → AreLost now_lost

-- the same of a packet
pub record KeepsLine (packet : Pkt) (old : List ℕ) (lost : Option Kind) (new : List ℕ) (now_lost : Option Kind) : Type 0 where
  pub kept : now_lost ≡ None → (lost ≡ None) × (new ≡ old ++ line_kept packet)
  pub why : AreLost lost → AreLost now_lost

module _ {A : Type 0} where
  -- no bytes of a packet pass by it
  abbrev pub Gathers : Noting A → Type 0
  Gathers n = passes_of n.packets ≡ false

  -- these bytes were noted, and each line of them was kept that has something which is not known
  pub record NotesLines (used : List ℕ) (n : Noting A) : Type 0 where
    pub given : List Given
    pub rest : List ℕ
    pub reads : Reads n.packets 0 used given rest
    pub text_is : n.text.items ≡ lines_kept given

  -- or one of them was not kept
  pub record HasNotedLines (used : List ℕ) (n : Noting A) : Type 0 where
    pub notes : n.lost ≡ None → NotesLines used n
    pub why : AreLost n.lost
