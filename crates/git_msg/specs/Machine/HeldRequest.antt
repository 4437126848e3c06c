-- Requests as they are kept, within a limit on the bytes of their argument lines and server options.
use Rattle.std.specs.Prelude.{◌≡◌, ◌⊎◌, ℕ, ◌+◌, ◌<◌, ◌≤◌, List, [], ◌∷◌, length}
use Rattle.git_names.specs.declared.object_format.Format.{Format}
use Rattle.git_pkt.specs.declared.fault.Kind.{Kind}
use Rattle.git_pkt.specs.declared.fault.Kind.TheVariants.{TooMuchKept, OutOfMemory}
use Rattle.git_msg.specs.declared.arguments.Command.{Command}
use Rattle.git_msg.specs.declared.offers.Offer.{Offer}
use Rattle.git_msg.specs.declared.requests.Request.{Request}
use Rattle.git_msg.specs.declared.requests.Request.TheVariants.{LsRefs as OfLsRefs, Fetch as OfFetch, ObjectInfo as OfObjectInfo}
use Rattle.git_msg.specs.Arguments.{Arg, IsValue, IsValueFault, written_text, TakesMemory}
use Rattle.git_msg.specs.Asked.{Asked, ls_refs, fetch, object_info, command_asked, nothing_asked, with_argument}
use Rattle.git_msg.specs.Checks.{Check, check, Refuses, Passes}
use Rattle.git_msg.specs.Kept.{Adds, IsNew, Kept, kept_as}

module _ {A : Type 0} where
  -- the request as it is kept
  abbrev pub holding_of : Request A → Kept Asked
  holding_of (OfLsRefs q) = kept_as ls_refs q
  holding_of (OfFetch q) = kept_as fetch q
  holding_of (OfObjectInfo q) = kept_as object_info q

  -- what the request asks for
  abbrev pub asked_of : Request A → Asked
  asked_of q = (holding_of q).asked

  -- the request's command
  abbrev pub command_of : Request A → Command
  command_of q = command_asked (asked_of q)

  -- the format of its object names
  abbrev pub format_of : Request A → Format
  format_of q = (holding_of q).format

  -- how many bytes the texts of its argument lines and server options had
  abbrev pub kept_of : Request A → ℕ
  kept_of q = (holding_of q).kept

  -- how many bytes are stored of their values
  abbrev pub stored_of : Request A → ℕ
  stored_of q = (holding_of q).stored

  -- how many bytes they may have
  abbrev pub limit_of : Request A → ℕ
  limit_of q = (holding_of q).limit

  -- the bytes stored of its values are at most those counted of its lines, those are within its limit, and its object names
  -- are of the offer's format
  pub record IsBounded (offer : Offer) (q : Request A) : Type 0 where
    pub covered : stored_of q ≤ kept_of q
    pub within : kept_of q ≤ limit_of q
    pub of_format : format_of q ≡ offer.format

  -- a request without arguments
  abbrev pub IsEmpty : Command → Format → ℕ → Request A → Type 0
  IsEmpty command format limit q = IsNew (nothing_asked command) format limit (holding_of q)

  -- the new request is the old one with one more argument, whose text has so many bytes
  abbrev pub Keeps : Request A → Arg → ℕ → Request A → Type 0
  Keeps old arg long new = Adds with_argument (holding_of old) arg long (holding_of new)

  -- the new request is the old one with these arguments added, one after the other, each counted as it is written
  abbrev pub AddsAll : Request A → List Arg → Request A → Type 0
  AddsAll old [] new = new ≡ old
  AddsAll old (arg ∷ args) new = (next : Request A) × Keeps old arg (length (written_text arg)) next × AddsAll next args new

-- the checks of an argument that a program adds, with the length of its line as it is written
abbrev pub add_checks : {A : Type 0} → Request A → Arg → List Check
add_checks request arg =
    record { refuses = IsValueFault (command_of request) (format_of request) arg; passes = IsValue (command_of request) (format_of request) arg }
    ∷ check (kept_of request + length (written_text arg) ≤ limit_of request) (limit_of request < kept_of request + length (written_text arg)) TooMuchKept ∷ []

-- memory ran out; this is reported if nothing refuses the argument
pub record RanOut (checks : List Check) (arg : Arg) (kind : Kind) : Type 0 where
  pub passes : Passes checks
  pub takes_memory : TakesMemory arg
  pub name : kind ≡ OutOfMemory

-- the argument is refused by the first check that fails, or otherwise for lack of memory
abbrev pub IsRefused : List Check → Arg → Kind → Type 0
IsRefused checks arg kind = Refuses checks kind ⊎ RanOut checks arg kind
