-- Flags: the arguments that are a word alone.
use Rattle.std.specs.Prelude.{ℕ, Bool, true, List, Option, Some, None, codes}
use Rattle.git_msg.specs.declared.arguments.Command.{Command}
use Rattle.git_msg.specs.declared.arguments.Command.TheVariants.{LsRefs, Fetch, ObjectInfo}
use Rattle.git_msg.specs.declared.flags.Flag.{Flag}
use Rattle.git_msg.specs.declared.offers.Offer.{Offer}

-- the row of a word: its text, with a space or `=` at its end if a value follows; the command that has it, or none if requests
-- of every command may have it; and whether an offer has the feature that it needs
pub record Row : Type 0 where
  pub keyword : List ℕ
  pub command : Option Command
  pub offered : Offer → Bool

abbrev pub entry : List ℕ → Command → (Offer → Bool) → Row
entry keyword command offered = record { keyword = keyword; command = Some command; offered = offered }

abbrev pub entry_of_all : List ℕ → (Offer → Bool) → Row
entry_of_all keyword offered = record { keyword = keyword; command = None; offered = offered }

abbrev pub always : Offer → Bool
always offer = true

-- the table of flags
abbrev pub flag_row : Flag → Row
flag_row Flag.Peel = entry (codes "peel") LsRefs always
flag_row Flag.Symrefs = entry (codes "symrefs") LsRefs always
flag_row Flag.Unborn = entry (codes "unborn") LsRefs (λ offer. offer.unborn)
flag_row Flag.ThinPack = entry (codes "thin-pack") Fetch always
flag_row Flag.NoProgress = entry (codes "no-progress") Fetch always
flag_row Flag.IncludeTag = entry (codes "include-tag") Fetch always
flag_row Flag.OfsDelta = entry (codes "ofs-delta") Fetch always
flag_row Flag.WaitForDone = entry (codes "wait-for-done") Fetch (λ offer. offer.wait_for_done)
flag_row Flag.DeepenRelative = entry (codes "deepen-relative") Fetch (λ offer. offer.shallow)
flag_row Flag.Done = entry (codes "done") Fetch always
flag_row Flag.Size = entry (codes "size") ObjectInfo always
