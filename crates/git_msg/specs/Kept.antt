-- A request as it is kept, within a limit on the bytes of its argument lines and server options.
use Rattle.std.specs.Prelude.{◌≡◌, ◌⊎◌, ℕ, ◌+◌, ◌<◌, ◌≤◌, All, List}
use Rattle.git_names.specs.declared.object_format.Format.{Format}
use Rattle.git_pkt.specs.declared.fault.Kind.{Kind}
use Rattle.git_pkt.specs.declared.fault.Kind.TheVariants.{TooMuchKept, OutOfMemory}
use Rattle.git_msg.specs.declared.arguments.Command.{Command}
use Rattle.git_msg.specs.Arguments.{Arg, IsInRange, MayHave, most_limit, stored_in, TakesMemory}
use Rattle.git_msg.specs.declared.words.TextWord.{TextWord}
use Rattle.git_msg.specs.declared.words.Word.{Word}
use Rattle.git_msg.specs.Asked.{Asked, AreInOrder, bytes_of, of_word, with_one}

-- the format, what is asked for, how many bytes the texts of the lines had and may have, and how many bytes are stored of their values
pub record Kept (Q : Type 0) : Type 0 where
  pub format : Format
  pub asked : Q
  pub kept : ℕ
  pub limit : ℕ
  pub stored : ℕ

-- a kept request of one command, as a kept request of any command
abbrev pub kept_as : {Q : Type 0} → (Q → Asked) → Kept Q → Kept Asked
kept_as make q = record { format = q.format; asked = make q.asked; kept = q.kept; limit = q.limit; stored = q.stored }

-- each argument is in its range and they are in their order; at least as many bytes are counted as the texts of their lines
-- have when they are written, and as are stored of their values; and the bytes counted are within the limit
pub record IsSound (q : Kept (List Arg)) : Type 0 where
  pub ranges : All (IsInRange q.format) q.asked
  pub in_order : AreInOrder q.asked
  pub written : bytes_of q.asked ≤ q.kept
  pub covered : q.stored ≤ q.kept
  pub space : q.kept ≤ q.limit
  pub in_range : q.limit ≤ most_limit

-- requests of the command may have the arguments
abbrev pub AreOf : Command → List Arg → Type 0
AreOf command args = All (MayHave command) args

-- nothing is asked for yet
pub record IsNew {Q : Type 0} (nothing : Q) (format : Format) (limit : ℕ) (q : Kept Q) : Type 0 where
  pub asked : q.asked ≡ nothing
  pub kept : q.kept ≡ 0
  pub stored : q.stored ≡ 0
  pub format_is : q.format ≡ format
  pub limit_is : q.limit ≡ limit

-- the server options alone are left, and as many bytes are counted as before
pub record IsOptionsOf (old new : Kept (List Arg)) : Type 0 where
  pub asked : new.asked ≡ of_word (Word.Text TextWord.ServerOption) old.asked
  pub kept : new.kept ≡ old.kept
  pub format : new.format ≡ old.format
  pub limit : new.limit ≡ old.limit

-- an argument was added to the others in this way, with a text of so many bytes
pub record Adds {Q : Type 0} (one_more : Q → Arg → Q) (old : Kept Q) (arg : Arg) (long : ℕ) (new : Kept Q) : Type 0 where
  pub asked : new.asked ≡ one_more old.asked arg
  pub kept : new.kept ≡ old.kept + long
  pub stored : new.stored ≡ old.stored + stored_in arg
  pub format : new.format ≡ old.format
  pub limit : new.limit ≡ old.limit

abbrev pub KeepsOne : Kept (List Arg) → Arg → ℕ → Kept (List Arg) → Type 0
KeepsOne = Adds with_one

-- the argument was not added to the others, because of this error
abbrev pub IsUnkept : {Q : Type 0} → Kept Q → Arg → ℕ → Kind → Type 0
IsUnkept old arg long kind =
    ((old.limit < old.kept + long) × (kind ≡ TooMuchKept))
    ⊎ ((old.kept + long ≤ old.limit) × TakesMemory arg × (kind ≡ OutOfMemory))
