-- What a reader of requests represents: the packets since the request began, as lines.
use Rattle.std.specs.Prelude.{◌≡◌, ℕ, ◌≤◌, Bool, true, false, not, Option, Some, None, option_to_list, List, [], ◌∷◌, ◌++◌}
use Rattle.git_pkt.specs.Splits.{Given}
use Rattle.git_pkt.specs.declared.fault.Fault.{Fault}
use Rattle.git_pkt.specs.declared.fault.Kind.{Kind}
use Rattle.git_msg.specs.declared.offers.Offer.{Offer}
use Rattle.git_msg.specs.declared.reader.Part.{Part}
use Rattle.git_msg.specs.declared.reader.Part.TheVariants.{Capabilities, Arguments, Failed as FailedPart}
use Rattle.git_msg.specs.declared.reader.ReadGot.{ReadGot}
use Rattle.git_msg.specs.declared.reader.ReadGot.TheVariants.{More, Request, Stop, Failed}
use Rattle.git_msg.specs.declared.reader.RequestReader.{RequestReader}
use Rattle.git_msg.specs.Admission.{IsAnnouncedFor, IsUnbarred}
use Rattle.git_msg.specs.Arguments.{Arg}
use Rattle.git_msg.specs.Asked.{asked_by}
use Rattle.git_msg.specs.Machine.HeldRequest.{asked_of, command_of, format_of, kept_of, limit_of, stored_of}
use Rattle.git_msg.specs.Memory.{NeedsRefusal}
use Rattle.git_msg.specs.declared.arguments.Command.TheVariants.{LsRefs}
use Rattle.git_msg.specs.Lines.{Line, commands_of, arguments_of, kept_arguments, kept_in, has_format, has_delimiter, options_of}
use Rattle.git_msg.specs.Requests.{AreBegun, AreLines, Asks, IsStop}

-- no line yet
abbrev pub is_nil : List Line → Bool
is_nil [] = true
is_nil (line ∷ lines) = false

abbrev pub fault_in : Part → Option Fault
fault_in (FailedPart f) = Some f
fault_in _ = None

module _ {A : Type 0} where
  -- the offer that the requests are read against
  abbrev pub offer_of : RequestReader A → Offer
  offer_of r = r.offer

  -- how many bytes a request's argument texts may have
  abbrev pub limit_in : RequestReader A → ℕ
  limit_in r = limit_of r.request

  -- how many bytes the texts have that are kept so far
  abbrev pub kept_so_far : RequestReader A → ℕ
  kept_so_far r = kept_of r.request

  -- how many bytes it stores, all of them for its one request
  abbrev pub stored_so_far : RequestReader A → ℕ
  stored_so_far r = stored_of r.request

  -- the same with each field named, so that none can be added without being counted
  abbrev pub stored_by_fields : RequestReader A → ℕ
  stored_by_fields r =
      let record {
        alloc = alloc;
        offer = offer;
        part = part;
        begun = begun;
        command = command;
        has_format = has_format;
        request = request;
        bounded = bounded;
      } = r in
      stored_of request

  -- the fault that ended the reading
  abbrev pub fault_of : RequestReader A → Option Fault
  fault_of r = fault_in r.part

  -- no delimiter has come yet, and the server options so far are kept, in a request of any command
  pub record InCapabilities (lines : List Line) (r : RequestReader A) : Type 0 where
    pub before : has_delimiter lines ≡ false
    pub begun : is_nil lines ≡ not r.begun
    pub command : commands_of lines ≡ option_to_list r.command
    pub format : has_format lines ≡ r.has_format
    pub no_argument : arguments_of lines ≡ []
    pub asked : asked_of r.request ≡ asked_by LsRefs (options_of lines)
    pub kept : kept_of r.request ≡ kept_in lines

  -- the delimiter came, and the arguments so far are kept
  pub record InArguments (lines : List Line) (r : RequestReader A) : Type 0 where
    pub behind : has_delimiter lines ≡ true
    pub command : commands_of lines ≡ command_of r.request ∷ []
    pub asked : asked_of r.request ≡ asked_by (command_of r.request) (kept_arguments lines)
    pub kept : kept_of r.request ≡ kept_in lines

  -- the lines, in the part of the request where the reader is
  abbrev pub InLines : Part → List Line → RequestReader A → Type 0
  InLines Capabilities lines r = InCapabilities lines r
  InLines Arguments lines r = InArguments lines r
  InLines (FailedPart f) lines r = ⊥

  -- the packets are the lines that the reader has taken since the last request began
  pub record Takes (packets : List Given) (r : RequestReader A) : Type 0 where
    pub lines : List Line
    pub taken : AreLines r.offer (limit_in r) [] packets lines
    pub in_part : InLines r.part lines r

  -- the result of the last of these packets; `barred` states which arguments are refused
  abbrev pub IsBrought : (Arg → Option Kind) → List Given → ReadGot A → RequestReader A → Type 0
  IsBrought barred packets More new =
      Takes packets new × AreBegun (offer_of new) (limit_in new) packets × IsUnbarred (offer_of new) (limit_in new) barred packets
  IsBrought barred packets (Request request) new =
      Takes [] new × Asks (offer_of new) (limit_in new) packets (asked_of request) (kept_of request) × (format_of request ≡ (offer_of new).format)
  IsBrought barred packets Stop new = Takes [] new × IsStop packets
  IsBrought barred packets (Failed fault) new = IsAnnouncedFor (offer_of new) (limit_in new) barred packets fault

  -- the bytes stored of a whole request are at most those kept of it
  abbrev pub IsCovered : ReadGot A → Type 0
  IsCovered (Request request) = stored_of request ≤ kept_of request
  IsCovered _ = Unit {0}

  -- a packet is not refused for lack of memory, unless memory for a list of at most so many bytes was refused
  abbrev pub GotNeedsRefusal : (ℕ → Type 0) → ℕ → ReadGot A → Type 0
  GotNeedsRefusal refuses most (Failed fault) = NeedsRefusal refuses most fault.kind
  GotNeedsRefusal refuses most got = Unit {0}

  -- what is kept is within the limit; a whole request is handed out with what was kept of it, under the same limit
  abbrev pub IsWithin : ReadGot A → RequestReader A → Type 0
  IsWithin (Request request) new = (limit_of request ≡ limit_in new) × (kept_of request ≤ limit_in new) × (kept_so_far new ≡ 0)
  IsWithin got new = kept_so_far new ≤ limit_in new

  -- a packet that is refused ends the reading, and nothing of it is kept; after any other the reading may go on
  abbrev pub LeavesReader : ReadGot A → RequestReader A → RequestReader A → Type 0
  LeavesReader (Failed fault) old new = new ≡ record old { part = FailedPart fault }
  LeavesReader got old new = fault_of new ≡ None

  -- the effect of a packet, whatever packets came since the last request
  pub record Brings (barred : Arg → Option Kind) (old : RequestReader A) (g : Given) (got : ReadGot A) (new : RequestReader A) : Type 0 where
    pub brings : (packets : List Given) → Takes packets old → IsBrought barred (packets ++ g ∷ []) got new
    pub leaves : LeavesReader got old new
    pub stays : (fault : Fault) → fault_of old ≡ Some fault → got ≡ Failed fault
    pub offer : offer_of new ≡ offer_of old
    pub limit : limit_in new ≡ limit_in old
    pub within : IsWithin got new
