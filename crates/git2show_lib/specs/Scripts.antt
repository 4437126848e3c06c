-- What the text of a script contains, requests one after another, and which of its lines is refused.
use Rattle.std.specs.Prelude.{◌≡◌, ℕ, ◌+◌, ◌*◌, ◌≤◌, List, [], ◌∷◌, Option, Some, None, length, reverse, sum_by}
use Rattle.git_names.specs.declared.object_format.Format.{Format}
use Rattle.git_msg.specs.declared.offers.Offer.{Offer}
use Rattle.git_msg.specs.declared.arguments.Command.{Command}
use Rattle.git_msg.specs.Arguments.{Arg, ReadsAs, TakesMemory as TakesMemoryFor, name_of, stored_in, written_text}
use Rattle.git_msg.specs.Asked.{Asked, asked_by, bytes_of}
use Rattle.git_msg.specs.ItemsInOrder.{AreItems, HasBad, LacksMemory, StopsAt}
use Rattle.git_msg.specs.Kept.{Kept}
use Rattle.git_repository.specs.RepositoryLines.{lines_of, longest_line}

-- what a line is: an empty one, which ends a request; a command, which begins one; an argument of the request that is open
pub data ScriptLine : Type 0 where
  blank : ScriptLine
  command : Command → ScriptLine
  argument : Arg → ScriptLine

-- the command of the request that is open after these lines, the last one first
abbrev pub open_after : List ScriptLine → Option Command
open_after [] = None
open_after (blank ∷ before) = None
open_after (command c ∷ before) = Some c
open_after (argument arg ∷ before) = open_after before

-- how many bytes the texts of its arguments have, as they are written
abbrev pub kept_after : List ScriptLine → ℕ
kept_after [] = 0
kept_after (blank ∷ before) = 0
kept_after (command c ∷ before) = 0
kept_after (argument arg ∷ before) = kept_after before + length (written_text arg)

-- the text is this argument of the request that is open after the lines, no longer than a line may be, and within the limit
pub record IsArgumentAfter (offer : Offer) (limit : ℕ) (before : List ScriptLine) (text : List ℕ) (arg : Arg) : Type 0 where
  pub of : Command
  pub is_open : open_after (reverse before) ≡ Some of
  pub reads : ReadsAs of offer text arg
  pub short : length text ≤ longest_line
  pub fits : kept_after (reverse before) + length (written_text arg) ≤ limit

-- the text is this line, which may follow those before it
abbrev pub MayFollow : Offer → ℕ → List ScriptLine → List ℕ → ScriptLine → Type 0
MayFollow offer limit before text blank = text ≡ []
MayFollow offer limit before text (command c) = (open_after (reverse before) ≡ None) × (text ≡ name_of c)
MayFollow offer limit before text (argument arg) = IsArgumentAfter offer limit before text arg

-- the arguments up to the first line that is none
abbrev pub arguments_upto : List ScriptLine → List Arg
arguments_upto [] = []
arguments_upto (blank ∷ lines) = []
arguments_upto (command c ∷ lines) = []
arguments_upto (argument arg ∷ lines) = arg ∷ arguments_upto lines

-- a request of this command with these arguments, as it is kept: the texts of all their lines count
abbrev pub request_of : Format → ℕ → Command → List Arg → Kept Asked
request_of format limit c args = record { format = format; asked = asked_by c args; kept = bytes_of args; limit = limit; stored = sum_by stored_in args }

-- the requests that the lines contain, in their order
abbrev pub requests_in : Format → ℕ → List ScriptLine → List (Kept Asked)
requests_in format limit [] = []
requests_in format limit (blank ∷ lines) = requests_in format limit lines
requests_in format limit (command c ∷ lines) = request_of format limit c (arguments_upto lines) ∷ requests_in format limit lines
requests_in format limit (argument arg ∷ lines) = requests_in format limit lines

-- the lines of the text contain these requests
pub record IsScript (offer : Offer) (limit : ℕ) (text : List ℕ) (requests : List (Kept Asked)) : Type 0 where
  pub lines : List ScriptLine
  pub follow : AreItems (MayFollow offer limit) [] (lines_of text) lines
  pub requests_are : requests ≡ requests_in offer.format limit lines

-- the lines before the one with this number are allowed, and after them it is none that is
abbrev pub HasBadScriptLine : Offer → ℕ → List (List ℕ) → ℕ → Type 0
HasBadScriptLine offer limit texts number = HasBad (MayFollow offer limit) 1 number texts

-- the line is kept in memory: a command, for its request, and some arguments
abbrev pub TakesMemory : ScriptLine → Type 0
TakesMemory blank = ⊥
TakesMemory (command c) = Unit {0}
TakesMemory (argument arg) = TakesMemoryFor arg

-- the maximum number of bytes of a list that the line makes longer, after so many lines: that of the requests, with `each` bytes each, has at
-- most one for each line, and a list of an argument has at most the limit
abbrev pub list_bytes : ℕ → ℕ → ℕ → ScriptLine → ℕ
list_bytes each limit before (command c) = (before + 1) * each
list_bytes each limit before line = limit

-- memory refused a list that a line makes longer, which takes some and may follow the lines before it
abbrev pub LacksScriptMemory : (ℕ → Type 0) → ℕ → Offer → ℕ → List ScriptLine → List ℕ → Type 0
LacksScriptMemory refuses each offer limit = LacksMemory (MayFollow offer limit) TakesMemory (λ before. list_bytes each limit (length before)) refuses

-- memory ran out at such a line
abbrev pub WantsScriptMemory : (ℕ → Type 0) → ℕ → Offer → ℕ → List (List ℕ) → Type 0
WantsScriptMemory refuses each offer limit = StopsAt (MayFollow offer limit) (LacksScriptMemory refuses each offer limit)
