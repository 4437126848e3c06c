-- The parts of a request reader's calls, after given lines.
use Rattle.std.specs.Prelude.{◌≡◌, ◌⊎◌, ◌||◌, ℕ, Bool, true, Option, Some, None, option_to_list, Result, Ok, Err, List, [], ◌∷◌, ◌++◌}
use Rattle.git_pkt.specs.Packets.{Pkt, flush}
use Rattle.git_pkt.specs.declared.fault.Kind.{Kind}
use Rattle.git_pkt.specs.declared.fault.Kind.TheVariants.{OutOfMemory}
use Rattle.git_msg.specs.declared.arguments.Command.{Command}
use Rattle.git_msg.specs.declared.reader.Part.TheVariants.{Capabilities}
use Rattle.git_msg.specs.declared.reader.RequestReader.{RequestReader}
use Rattle.git_msg.specs.declared.reader.Taken.{Taken}
use Rattle.git_msg.specs.declared.reader.Taken.TheVariants.{More, Whole, Stop}
use Rattle.git_msg.specs.Admission.{IsBarred}
use Rattle.git_msg.specs.declared.requests.Request.{Request}
use Rattle.git_msg.specs.declared.words.TextWord.{TextWord}
use Rattle.git_msg.specs.Arguments.{Arg, with_text}
use Rattle.git_msg.specs.declared.words.Word.{Word}
use Rattle.git_msg.specs.Asked.{arguments_in, asked_by, asked_for, of_word}
use Rattle.git_msg.specs.Machine.HeldRequest.{Keeps, asked_of, command_of, kept_of}
use Rattle.git_msg.specs.Checks.{Passes, Refuses}
use Rattle.git_msg.specs.Lines.{Line, command, server_option, commands_of, kept_arguments, kept_in, long_of, IsCapabilityLine}
use Rattle.git_msg.specs.Lines.{FitsLimit, IsLine, HasFault, noting_checks, part_checks, flush_checks, is_none, is_object_format}
use Rattle.git_msg.specs.Requests.{NeedsMemory}
use Rattle.git_msg.specs.Machine.RequestReader.{InCapabilities, InLines, fault_of, kept_so_far, limit_in}

-- the command after one more line of the capability part
abbrev pub command_after : Line → Option Command → Option Command
command_after (command c) old = Some c
command_after line old = old

module _ {A : Type 0} where
  -- no command line has come yet
  abbrev pub is_first : RequestReader A → Bool
  is_first r = is_none (option_to_list r.command)

  -- the request after one more such line: a server option is kept
  abbrev pub IsKeptAs : Line → Request A → Request A → Type 0
  IsKeptAs (server_option option) old new = Keeps old (with_text TextWord.ServerOption option) (long_of (server_option option)) new
  IsKeptAs line old new = new ≡ old

  -- the reader after one more such line
  pub record IsNoted (line : Line) (old new : RequestReader A) : Type 0 where
    pub offer : new.offer ≡ old.offer
    pub part : new.part ≡ old.part
    pub begun : new.begun ≡ true
    pub command : new.command ≡ command_after line old.command
    pub has_format : new.has_format ≡ (is_object_format line || old.has_format)
    pub request : IsKeptAs line old.request new.request

  -- the text was noted as a line
  pub record Notes (old : RequestReader A) (text : List ℕ) (new : RequestReader A) : Type 0 where
    pub line : Line
    pub is_line : IsCapabilityLine old.offer (is_first old) text line
    pub fits_limit : FitsLimit (limit_in old) (kept_so_far old) line
    pub new_is : IsNoted line old new

  -- there is no memory for a server option that nothing refuses
  pub record LacksMemoryFor (old : RequestReader A) (text : List ℕ) (kind : Kind) : Type 0 where
    pub line : Line
    pub is_line : IsCapabilityLine old.offer (is_first old) text line
    pub fits_limit : FitsLimit (limit_in old) (kept_so_far old) line
    pub needs_memory : NeedsMemory line
    pub name : kind ≡ OutOfMemory

  -- the text was not noted, because of this error
  abbrev pub IsUnnoted : RequestReader A → List ℕ → Kind → Type 0
  IsUnnoted old text kind =
      Refuses (noting_checks old.offer (limit_in old) (is_first old) (kept_so_far old) text) kind ⊎ LacksMemoryFor old text kind

  -- the command is there, and the format is right
  pub record IsExpected (r : RequestReader A) (c : Command) : Type 0 where
    pub there : r.command ≡ Some c
    pub passes : Passes (part_checks r.offer (option_to_list r.command) r.has_format)

  -- the request is one of the command, with the server options of the request before
  pub record Begins (c : Command) (old new : RequestReader A) : Type 0 where
    pub offer : new.offer ≡ old.offer
    pub part : new.part ≡ old.part
    pub asked : asked_of new.request ≡ asked_for c (of_word (Word.Text TextWord.ServerOption) (arguments_in (asked_of old.request)))
    pub kept : kept_of new.request ≡ kept_of old.request
    pub limit : limit_in new ≡ limit_in old

  abbrev pub IsUndue : RequestReader A → Kind → Type 0
  IsUndue r kind = Refuses (part_checks r.offer (option_to_list r.command) r.has_format) kind

  -- after these lines, the packet is no argument that is refused in this way
  abbrev pub IsFree : (Arg → Option Kind) → List Line → RequestReader A → Pkt → Type 0
  IsFree barred lines r p = (kind : Kind) → ¬ IsBarred r.offer barred lines p kind

  -- a line came, and an argument was kept
  pub record Advances (barred : Arg → Option Kind) (lines : List Line) (old : RequestReader A) (p : Pkt) (new : RequestReader A) : Type 0 where
    pub line : Line
    pub is_line : IsLine old.offer (limit_in old) lines p line
    pub free : IsFree barred lines old p
    pub in_lines : InLines new.part (lines ++ line ∷ []) new

  -- the lines are those of a whole request, which is kept
  pub record Completes (lines : List Line) (old : RequestReader A) (p : Pkt) (new : RequestReader A) : Type 0 where
    pub ends : p ≡ flush
    pub once : commands_of lines ≡ command_of new.request ∷ []
    pub checks : Passes (flush_checks old.offer lines)
    pub asked : asked_of new.request ≡ asked_by (command_of new.request) (kept_arguments lines)
    pub kept : kept_of new.request ≡ kept_in lines

  -- the other end ends the session
  pub record Leaves (lines : List Line) (p : Pkt) (new : RequestReader A) : Type 0 where
    pub nothing : lines ≡ []
    pub ends : p ≡ flush
    pub fresh : InCapabilities [] new
    pub part : new.part ≡ Capabilities

  -- there is no memory for a line that nothing refuses
  pub record LacksMemory (lines : List Line) (old : RequestReader A) (p : Pkt) (kind : Kind) : Type 0 where
    pub line : Line
    pub is_line : IsLine old.offer (limit_in old) lines p line
    pub needs_memory : NeedsMemory line
    pub name : kind ≡ OutOfMemory

  abbrev pub Goes : (Arg → Option Kind) → List Line → RequestReader A → Pkt → Result Taken Kind → RequestReader A → Type 0
  Goes barred lines old p (Ok More) new = Advances barred lines old p new
  Goes barred lines old p (Ok Whole) new = Completes lines old p new
  Goes barred lines old p (Ok Stop) new = Leaves lines p new
  Goes barred lines old p (Err kind) new =
      IsBarred old.offer barred lines p kind
      ⊎ (IsFree barred lines old p × (HasFault old.offer (limit_in old) lines p kind ⊎ LacksMemory lines old p kind))

  abbrev pub LeavesStep : Result Taken Kind → RequestReader A → RequestReader A → Type 0
  LeavesStep (Ok taken) old new = fault_of new ≡ None
  LeavesStep (Err kind) old new = new ≡ old

  -- the effect of a packet on a reader that has no fault
  pub record StepsOn (barred : Arg → Option Kind) (old : RequestReader A) (p : Pkt) (result : Result Taken Kind) (new : RequestReader A) : Type 0 where
    pub goes : (lines : List Line) → InLines old.part lines old → Goes barred lines old p result new
    pub leaves : LeavesStep result old new
    pub offer : new.offer ≡ old.offer
    pub limit : limit_in new ≡ limit_in old
