-- What is held of a script after some of its lines, and what one more adds.
use denote.RattleType.{RattleType}
use Rattle.std.specs.declared.alloc.Allocator.{Ghosts}
use Rattle.std.specs.Prelude.{◌≡◌, ℕ, ◌+◌, ◌*◌, ◌≤◌, Bool, true, false, List, [], ◌∷◌, ◌++◌, Some, None, All, Result, MatchResult, length, map, reverse}
use Rattle.git_msg.specs.declared.offers.Offer.{Offer}
use Rattle.git_msg.specs.declared.arguments.Command.{Command}
use Rattle.git_msg.specs.declared.requests.Request.{Request}
use Rattle.git_msg.specs.Arguments.{Arg, ReadsAs, TakesMemory as TakesMemoryFor, name_of, written_text}
use Rattle.git_msg.specs.Memory.{HasRefused, bytes_each}
use Rattle.git_msg.specs.contracts.requests.Request.{the_row}
use Rattle.git_msg.specs.Machine.HeldRequest.{IsEmpty, Keeps, command_of, format_of, holding_of, kept_of, limit_of}
use Rattle.git_repository.specs.RepositoryLines.{longest_line}
use Rattle.git_repository.specs.declared.text_faults.LineFault.{LineFault}
use Rattle.git_repository.specs.declared.text_faults.LineFault.TheVariants.{Refused, OutOfMemory}
use Rattle.git2show_lib.specs.Scripts.{ScriptLine, LacksScriptMemory, MayFollow, kept_after, open_after, requests_in}

-- the number of bytes of a request, with memory from this allocator
abbrev pub request_bytes : (A : RattleType) → Ghosts A.Denot → ℕ
request_bytes A ghosts = bytes_each (the_row A ghosts)

-- what is offered, the limit, the requests so far, and whether the last of them is open
pub record Held (A : Type 0) : Type 0 where
  pub offer : Offer
  pub limit : ℕ
  pub requests : List (Request A)
  pub is_open : Bool

module _ {A : Type 0} where
  -- nothing was read
  abbrev pub nothing_held : Offer → ℕ → Held A
  nothing_held offer limit = record { offer = offer; limit = limit; requests = []; is_open = false }

  -- these requests in place of the others, and whether the last of them is open
  abbrev pub with_requests : Held A → List (Request A) → Bool → Held A
  with_requests held requests is_open = record { offer = held.offer; limit = held.limit; requests = requests; is_open = is_open }

  -- the last request is the one that is open after the lines
  pub record HasOpen (lines : List ScriptLine) (requests : List (Request A)) : Type 0 where
    pub others : List (Request A)
    pub last : Request A
    pub requests_are : requests ≡ others ++ last ∷ []
    pub open_is : open_after (reverse lines) ≡ Some (command_of last)
    pub kept_is : kept_after (reverse lines) ≡ kept_of last

  -- whether one is
  abbrev pub IsOpenAs : Bool → List ScriptLine → List (Request A) → Type 0
  IsOpenAs true lines requests = HasOpen lines requests
  IsOpenAs false lines requests = open_after (reverse lines) ≡ None

  -- this is held after the lines
  pub record Holds (lines : List ScriptLine) (held : Held A) : Type 0 where
    pub requests_are : map holding_of held.requests ≡ requests_in held.offer.format held.limit lines
    pub of_format : All (λ request. format_of request ≡ held.offer.format) held.requests
    pub of_limit : All (λ request. limit_of request ≡ held.limit) held.requests
    pub open_as : IsOpenAs held.is_open lines held.requests

  -- a request more, without arguments
  pub record Begins (old : Held A) (text : List ℕ) (new : Held A) : Type 0 where
    pub of : Command
    pub spelled : text ≡ name_of of
    pub request : Request A
    pub is_empty : IsEmpty of old.offer.format old.limit request
    pub new_is : new ≡ with_requests old (old.requests ++ request ∷ []) true

  -- why no request begins: the text is no command, or it is and memory refused a request more
  abbrev pub IsBeginFault : (ℕ → Type 0) → ℕ → Held A → List ℕ → LineFault → Type 0
  IsBeginFault refuses each old text Refused = (of : Command) → ¬ (text ≡ name_of of)
  IsBeginFault refuses each old text OutOfMemory = (of : Command) × (text ≡ name_of of) × HasRefused refuses ((length old.requests + 1) * each)

  -- the text is an argument of the request, no longer than a line may be, and within its limit
  pub record FitsIn (offer : Offer) (last : Request A) (text : List ℕ) (arg : Arg) : Type 0 where
    pub reads : ReadsAs (command_of last) offer text arg
    pub short : length text ≤ longest_line
    pub fits : kept_of last + length (written_text arg) ≤ limit_of last

  -- the last request with an argument more
  pub record AddsLast (old : Held A) (others : List (Request A)) (last : Request A) (text : List ℕ) (new : Held A) : Type 0 where
    pub arg : Arg
    pub fits_in : FitsIn old.offer last text arg
    pub request : Request A
    pub keeps : Keeps last arg (length (written_text arg)) request
    pub new_is : new ≡ with_requests old (others ++ request ∷ []) true

  -- why none is added: the text is no argument that fits, or it is and memory refused a list of it
  abbrev pub IsAddFault : (ℕ → Type 0) → Offer → Request A → List ℕ → LineFault → Type 0
  IsAddFault refuses offer last text Refused = (arg : Arg) → ¬ FitsIn offer last text arg
  IsAddFault refuses offer last text OutOfMemory =
      (arg : Arg) × FitsIn offer last text arg × TakesMemoryFor arg × HasRefused refuses (limit_of last)

  abbrev pub AddsArgument : (ℕ → Type 0) → Held A → List ℕ → Held A → Result (Unit {0}) LineFault → Type 0
  AddsArgument refuses old text new result =
      (others : List (Request A)) (last : Request A) → old.requests ≡ others ++ last ∷ [] → format_of last ≡ old.offer.format → old.is_open ≡ true
      → MatchResult result (λ _. AddsLast old others last text new) (IsAddFault refuses old.offer last text)

  -- after the lines the text is one more, which may follow them, and with it the new is held
  pub record GoesOn (lines : List ScriptLine) (old : Held A) (text : List ℕ) (new : Held A) : Type 0 where
    pub line : ScriptLine
    pub may_follow : MayFollow old.offer old.limit lines text line
    pub holds : Holds (lines ++ line ∷ []) new
    pub same_offer : new.offer ≡ old.offer
    pub same_limit : new.limit ≡ old.limit

  -- that is so of any lines after which the old is held
  abbrev pub TakesLine : Held A → List ℕ → Held A → Type 0
  TakesLine old text new = (lines : List ScriptLine) → Holds lines old → GoesOn lines old text new

  -- why it is not taken: no line may follow that is this text, or one may and memory refused a list that it makes longer
  abbrev pub IsLineFault : (ℕ → Type 0) → ℕ → Held A → List ℕ → LineFault → Type 0
  IsLineFault refuses each old text Refused =
      (lines : List ScriptLine) → Holds lines old → (line : ScriptLine) → ¬ MayFollow old.offer old.limit lines text line
  IsLineFault refuses each old text OutOfMemory =
      (lines : List ScriptLine) → Holds lines old → LacksScriptMemory refuses each old.offer old.limit lines text
