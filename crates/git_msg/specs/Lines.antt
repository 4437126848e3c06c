-- The packets of a request as lines, each after the lines before it, and the reasons to refuse a packet.
use Rattle.std.specs.Prelude.{◌≡◌, ◌≢◌, ℕ, ◌+◌, ◌<◌, ◌≤◌, Bool, true, false, Option, Some, None, List, [], ◌∷◌, ◌++◌, length, codes, sum_by, if◌then◌else◌}
use Rattle.git_msg.specs.declared.words.TextWord.{TextWord}
use Rattle.std.specs.List.{list_any, filter_map}
use Rattle.std.specs.Str.{bytes_eq}
use Rattle.git_names.specs.ObjectFormat.{name_of as format_name}
use Rattle.git_names.specs.declared.object_format.Format.{Format}
use Rattle.git_names.specs.declared.object_format.Format.TheVariants.{Sha1, Sha256}
use Rattle.git_pkt.specs.Packets.{Pkt, flush, delim, payload, text_of}
use Rattle.git_pkt.specs.declared.fault.Kind.{Kind}
use Rattle.git_pkt.specs.declared.fault.Kind.TheVariants.{BadCapability, BadLine, UnknownCommand, TwoCommands, NoCommand, NotAdvertised, WrongFormat}
use Rattle.git_pkt.specs.declared.fault.Kind.TheVariants.{TooMuchKept, UnexpectedPacket, RemoteError, DeepenConflict, NoWants, NoSize}
use Rattle.git_msg.specs.declared.offers.Offer.{Offer}
use Rattle.git_msg.specs.declared.arguments.Command.{Command}
use Rattle.git_msg.specs.declared.capability_key.Key.{Key}
use Rattle.git_msg.specs.declared.capability_key.Key.TheVariants.{CommandKey, AgentKey, ServerOptionKey, ObjectFormatKey, OtherKey}
use Rattle.git_msg.specs.Texts.{IsErrorText, IsNoneOf}
use Rattle.git_msg.specs.Capability.{IsCapability, IsNoCapability}
use Rattle.git_msg.specs.Advertisement.{takes_command}
use Rattle.git_msg.specs.Arguments.{Arg, with_text, name_of, most_option, written_text, ReadsAs, IsArgumentFault}
use Rattle.git_msg.specs.declared.flags.Flag.{Flag}
use Rattle.git_msg.specs.Asked.{Asked, ls_refs, fetch, object_info, HasWants, asked_by, flag_among, has_deepen_conflict}
use Rattle.git_msg.specs.Checks.{Check, check, unless, Refuses, Passes}

-- a packet of a request that is not refused: the capability lines, the delimiter, and the arguments with the
-- lengths of their texts; nothing is kept of a line that names the agent, or no server option
pub data Line : Type 0 where
  command : Command → Line
  unkept : Line
  server_option : List ℕ → Line
  object_format : Line
  delimiter : Line
  argument : Arg → ℕ → Line

abbrev pub command_in : Line → Option Command
command_in (command c) = Some c
command_in _ = None

abbrev pub argument_in : Line → Option Arg
argument_in (argument arg long) = Some arg
argument_in _ = None

-- a server option, as it is kept
abbrev pub option_in : Line → Option Arg
option_in (server_option option) = Some (with_text TextWord.ServerOption option)
option_in _ = None

-- how many bytes are counted of a line that is kept: those of its text
abbrev pub long_of : Line → ℕ
long_of (server_option option) = length (written_text (with_text TextWord.ServerOption option))
long_of (argument arg long) = long
long_of _ = 0

abbrev pub is_object_format : Line → Bool
is_object_format object_format = true
is_object_format _ = false

abbrev pub is_delimiter : Line → Bool
is_delimiter delimiter = true
is_delimiter _ = false

abbrev pub is_none : List Command → Bool
is_none [] = true
is_none _ = false

-- the commands of the lines
abbrev pub commands_of : List Line → List Command
commands_of = filter_map command_in

-- the arguments of the lines
abbrev pub arguments_of : List Line → List Arg
arguments_of = filter_map argument_in

-- the server options of the lines
abbrev pub options_of : List Line → List Arg
options_of = filter_map option_in

-- what is kept of the lines: the server options, and the arguments
abbrev pub kept_arguments : List Line → List Arg
kept_arguments lines = options_of lines ++ arguments_of lines

-- how many bytes the texts of the lines have that are kept
abbrev pub kept_in : List Line → ℕ
kept_in = sum_by long_of

-- a line names the object format that is meant
abbrev pub has_format : List Line → Bool
has_format = list_any is_object_format

-- the delimiter is among the lines, so arguments follow
abbrev pub has_delimiter : List Line → Bool
has_delimiter = list_any is_delimiter

-- the key of a capability line
abbrev pub IsWordOf : List ℕ → Key → Type 0
IsWordOf text CommandKey = text ≡ codes "command"
IsWordOf text AgentKey = text ≡ codes "agent"
IsWordOf text ServerOptionKey = text ≡ codes "server-option"
IsWordOf text ObjectFormatKey = text ≡ codes "object-format"
IsWordOf text OtherKey = IsNoneOf (codes "command" ∷ codes "agent" ∷ codes "server-option" ∷ codes "object-format" ∷ []) text

-- the key of a word
abbrev pub key_by : List ℕ → Key
key_by word =
    if bytes_eq word (codes "command") then CommandKey
    else if bytes_eq word (codes "agent") then AgentKey
    else if bytes_eq word (codes "server-option") then ServerOptionKey
    else if bytes_eq word (codes "object-format") then ObjectFormatKey
    else OtherKey

-- the text is a capability line with this key and value
pub record HasKey (text : List ℕ) (key : Key) (value : Option (List ℕ)) : Type 0 where
  pub word : List ℕ
  pub is_capability : IsCapability text word value
  pub is_word : IsWordOf word key

-- the text is a capability line
abbrev pub IsAnyCapability : List ℕ → Type 0
IsAnyCapability text = (word : List ℕ) × (value : Option (List ℕ)) × IsCapability text word value

-- the value names a command
abbrev pub NamesCommand : Option (List ℕ) → Type 0
NamesCommand value = (c : Command) × (value ≡ Some (name_of c))

-- if the value names a command, that is in the offer
abbrev pub NamesTaken : Offer → Option (List ℕ) → Type 0
NamesTaken offer value = (c : Command) → value ≡ Some (name_of c) → takes_command offer c ≡ true

-- the value names a command that is not in the offer
abbrev pub NamesUntaken : Offer → Option (List ℕ) → Type 0
NamesUntaken offer value = (c : Command) × (value ≡ Some (name_of c)) × (takes_command offer c ≡ false)

-- a server option is no longer than a line can be
abbrev pub IsOption : Option (List ℕ) → Type 0
IsOption None = Unit {0}
IsOption (Some option) = length option ≤ most_option

abbrev pub IsNoOption : Option (List ℕ) → Type 0
IsNoOption None = ⊥
IsNoOption (Some option) = most_option < length option

-- the checks of a capability line, by its key; `first` means that no command line came before it
abbrev pub key_checks : Offer → Bool → Key → Option (List ℕ) → List Check
key_checks offer first CommandKey value =
    check (first ≡ true) (first ≡ false) TwoCommands ∷ check (NamesCommand value) (¬ NamesCommand value) UnknownCommand
    ∷ check (NamesTaken offer value) (NamesUntaken offer value) NotAdvertised ∷ []
key_checks offer first AgentKey value = []
key_checks offer first ServerOptionKey value =
    check (offer.server_option ≡ true) (offer.server_option ≡ false) NotAdvertised ∷ check (IsOption value) (IsNoOption value) BadLine ∷ []
key_checks offer first ObjectFormatKey value =
    check (value ≡ Some (format_name offer.format)) (value ≢ Some (format_name offer.format)) WrongFormat ∷ []
key_checks offer first OtherKey value = check ⊥ (Unit {0}) NotAdvertised ∷ []

-- the check of a capability line by its key
abbrev pub by_key : Offer → Bool → List ℕ → Check
by_key offer first text = record {
  refuses = λ kind. (key : Key) × (value : Option (List ℕ)) × HasKey text key value × Refuses (key_checks offer first key value) kind;
  passes = (key : Key) × (value : Option (List ℕ)) × HasKey text key value × Passes (key_checks offer first key value);
}

-- the checks of a text of the capability part
abbrev pub capability_checks : Offer → Bool → List ℕ → List Check
capability_checks offer first text =
    unless (IsErrorText text) RemoteError ∷ check (IsAnyCapability text) (IsNoCapability text) BadCapability
    ∷ by_key offer first text ∷ []

-- the line that a capability makes
abbrev pub IsLineOf : Key → Option (List ℕ) → Line → Type 0
IsLineOf CommandKey value (command c) = value ≡ Some (name_of c)
IsLineOf AgentKey value unkept = Unit {0}
IsLineOf ServerOptionKey None unkept = Unit {0}
IsLineOf ServerOptionKey (Some value) (server_option option) = value ≡ option
IsLineOf ObjectFormatKey value object_format = Unit {0}
IsLineOf _ value _ = ⊥

-- the text is this line of the capability part
pub record IsCapabilityLine (offer : Offer) (first : Bool) (text : List ℕ) (line : Line) : Type 0 where
  pub no_error : ¬ IsErrorText text
  pub key : Key
  pub value : Option (List ℕ)
  pub has_key : HasKey text key value
  pub allowed : Passes (key_checks offer first key value)
  pub line_is : IsLineOf key value line

-- the line can be kept within the limit, beside so many bytes
abbrev pub FitsLimit : ℕ → ℕ → Line → Type 0
FitsLimit limit kept (server_option option) = kept + long_of (server_option option) ≤ limit
FitsLimit limit kept line = Unit {0}

abbrev pub ExceedsLimit : ℕ → ℕ → Line → Type 0
ExceedsLimit limit kept (server_option option) = limit < kept + long_of (server_option option)
ExceedsLimit limit kept line = ⊥

-- the check of the limit: the line that the text is can be kept within it
abbrev pub limit_check : Offer → ℕ → Bool → ℕ → List ℕ → Check
limit_check offer limit first kept text =
    check ((line : Line) → IsCapabilityLine offer first text line → FitsLimit limit kept line)
    ((line : Line) × IsCapabilityLine offer first text line × ExceedsLimit limit kept line) TooMuchKept

-- the checks of a text of the capability part, and then the limit
abbrev pub noting_checks : Offer → ℕ → Bool → ℕ → List ℕ → List Check
noting_checks offer limit first kept text = capability_checks offer first text ++ limit_check offer limit first kept text ∷ []

-- if no line names a format, SHA-1 is meant
abbrev pub IsFormatMeant : Format → Bool → Type 0
IsFormatMeant Sha1 content = Unit {0}
IsFormatMeant Sha256 content = content ≡ true

abbrev pub IsOtherFormatMeant : Format → Bool → Type 0
IsOtherFormatMeant Sha1 content = ⊥
IsOtherFormatMeant Sha256 content = content ≡ false

-- the checks at the end of the capability part
abbrev pub part_checks : Offer → List Command → Bool → List Check
part_checks offer commands content =
    check (is_none commands ≡ false) (is_none commands ≡ true) NoCommand
    ∷ check (IsFormatMeant offer.format content) (IsOtherFormatMeant offer.format content) WrongFormat ∷ []

-- the checks of a text of the argument part, however much is kept
abbrev pub text_checks : Command → Offer → List ℕ → List Check
text_checks c offer text =
    unless (IsErrorText text) RemoteError
    ∷ record { refuses = IsArgumentFault c offer text; passes = (arg : Arg) × ReadsAs c offer text arg } ∷ []

-- the checks of an argument line: its text, and then the limit
abbrev pub argument_checks : Offer → ℕ → Command → ℕ → List ℕ → List Check
argument_checks offer limit c kept text =
    text_checks c offer text ++ check (kept + length text ≤ limit) (limit < kept + length text) TooMuchKept ∷ []

-- the text is this argument, whether or not it can be kept
pub record IsArgumentText (offer : Offer) (before : List Line) (text : List ℕ) (arg : Arg) : Type 0 where
  pub no_error : ¬ IsErrorText text
  pub of : Command
  pub asked : commands_of before ≡ of ∷ []
  pub reads : ReadsAs of offer text arg

-- the text is this argument line
pub record IsArgumentLine (offer : Offer) (limit : ℕ) (before : List Line) (text : List ℕ) (arg : Arg) (long : ℕ) : Type 0 where
  pub is_text : IsArgumentText offer before text arg
  pub long_is : long ≡ length text
  pub fits : kept_in before + long ≤ limit

-- some check of the argument part refuses the text
pub record IsArgumentRefused (offer : Offer) (limit : ℕ) (before : List Line) (text : List ℕ) (kind : Kind) : Type 0 where
  pub of : Command
  pub asked : commands_of before ≡ of ∷ []
  pub refuses : Refuses (argument_checks offer limit of (kept_in before) text) kind

-- the checks of a request at its flush, by what it asks for
abbrev pub end_checks : Asked → List Check
end_checks (ls_refs q) = []
end_checks (fetch q) =
    check (has_deepen_conflict q ≡ false) (has_deepen_conflict q ≡ true) DeepenConflict
    ∷ check (HasWants q) (¬ HasWants q) NoWants ∷ []
end_checks (object_info q) = check (flag_among q Flag.Size ≡ true) (flag_among q Flag.Size ≡ false) NoSize ∷ []

abbrev pub at_end : List Line → Check
at_end lines = record {
  refuses = λ kind. (c : Command) × (commands_of lines ≡ c ∷ []) × Refuses (end_checks (asked_by c (kept_arguments lines))) kind;
  passes = (c : Command) × (commands_of lines ≡ c ∷ []) × Passes (end_checks (asked_by c (kept_arguments lines)));
}

-- the checks of the flush after these lines: the end of the capability part was judged at the delimiter, if there was one
abbrev pub flush_checks_in : Bool → Offer → List Line → List Check
flush_checks_in true offer lines = at_end lines ∷ []
flush_checks_in false offer lines = part_checks offer (commands_of lines) (has_format lines) ++ at_end lines ∷ []

abbrev pub flush_checks : Offer → List Line → List Check
flush_checks offer lines = flush_checks_in (has_delimiter lines) offer lines

abbrev pub IsLineIn : Bool → Offer → ℕ → List Line → Pkt → Line → Type 0
IsLineIn false offer limit before (payload bytes) line =
    IsCapabilityLine offer (is_none (commands_of before)) (text_of bytes) line × FitsLimit limit (kept_in before) line
IsLineIn false offer limit before delim delimiter = Passes (part_checks offer (commands_of before) (has_format before))
IsLineIn true offer limit before (payload bytes) (argument arg long) = IsArgumentLine offer limit before (text_of bytes) arg long
IsLineIn _ offer limit before _ _ = ⊥

-- the packet is this line of a request, after the lines before it
abbrev pub IsLine : Offer → ℕ → List Line → Pkt → Line → Type 0
IsLine offer limit before packet line = IsLineIn (has_delimiter before) offer limit before packet line

abbrev pub HasFaultIn : Bool → Offer → ℕ → List Line → Pkt → Kind → Type 0
HasFaultIn false offer limit before (payload bytes) kind =
    Refuses (noting_checks offer limit (is_none (commands_of before)) (kept_in before) (text_of bytes)) kind
HasFaultIn false offer limit before delim kind = Refuses (part_checks offer (commands_of before) (has_format before)) kind
HasFaultIn false offer limit before flush kind = (before ≢ []) × Refuses (flush_checks_in false offer before) kind
HasFaultIn true offer limit before (payload bytes) kind = IsArgumentRefused offer limit before (text_of bytes) kind
HasFaultIn true offer limit before flush kind = Refuses (flush_checks_in true offer before) kind
HasFaultIn _ offer limit before _ kind = kind ≡ UnexpectedPacket

-- the packet is refused with this error, after the lines before it
abbrev pub HasFault : Offer → ℕ → List Line → Pkt → Kind → Type 0
HasFault offer limit before packet kind = HasFaultIn (has_delimiter before) offer limit before packet kind
