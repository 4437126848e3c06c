-- What is reported to C for a request's calls.
use Rattle.std.specs.Prelude.{◌≡◌, ◌⊎◌, ℕ, ◌<◌, ◌≤◌, Bool, false, List, length, Option, Some, None, Result, Ok, Err, unwrap_or, slice_get}
use Rattle.std.specs.Option.{option_map}
use Rattle.std.specs.Global.{Global}
use Rattle.git_names.specs.ObjectName.{hex_of}
use Rattle.git_pkt.specs.declared.fault.Kind.{Kind}
use Rattle.git_msg.specs.Advertisement.{everything}
use Rattle.git_msg.specs.Arguments.{Arg, with_text, IsArgumentFault, ReadsAs, most_limit, written_text}
use Rattle.git_msg.specs.Asked.{Asked, flag_among, ids, number, texts}
use Rattle.git_msg.specs.Checks.{Passes, Refuses}
use Rattle.git_msg.specs.Machine.HeldRequest.{IsEmpty, IsRefused, Keeps, add_checks, command_of, format_of}
use Rattle.git_msg.specs.Lines.{end_checks}
use Rattle.git_msg.specs.declared.requests.Request.{Request}
use Rattle.git_msg.specs.declared.words.TextWord.{TextWord}
use Rattle.git_msg.specs.declared.words.Word.{Word}
use Rattle.git_msg.specs.declared.words.Word.TheVariants.{Object as of_object, Text as of_text}
use Rattle.gitwire.specs.Numbers.{commands, flags, formats, number_words, numbered}
use Rattle.gitwire.specs.Buffers.{Fills}
use Rattle.gitwire.specs.Answers.{answering, answering_fault, answering_packet, what_number}
use Rattle.gitwire.specs.declared.answer.GitwireAnswer.{GitwireAnswer}
use Rattle.gitwire.specs.declared.answer.What.TheVariants as What

-- done, with a number
abbrev pub announcing_number : ℕ → GitwireAnswer
announcing_number number = answering_packet 0 number 0 What.Done

-- done, or refused by a kind of error
abbrev pub announcing_result : Result (Unit {0}) Kind → GitwireAnswer
announcing_result (Ok done) = answering What.Done
announcing_result (Err kind) = answering_fault 0 (record { kind = kind; offset = 0 })

-- the handle has the value, or none if memory ran out
abbrev pub HasOrNone : {X : Type 0} → ℕ → X → Option X → Type 0
HasOrNone answer value new =
    ((answer ≡ what_number What.Done) × (new ≡ Some value)) ⊎ ((answer ≡ what_number What.OutOfMemory) × (new ≡ None))

-- a number means nothing, or the limit is above the maximum
abbrev pub MeanNoRequest : ℕ → ℕ → ℕ → Type 0
MeanNoRequest command format limit = (numbered commands command ≡ None) ⊎ ((numbered formats format ≡ None) ⊎ (most_limit < limit))

-- the request is an empty one with the command, the format and the limit that these values mean
pub record MeanRequest (command format limit : ℕ) (request : Request Global) : Type 0 where
  pub command_is : numbered commands command ≡ Some (command_of request)
  pub format_is : numbered formats format ≡ Some (format_of request)
  pub in_range : limit ≤ most_limit
  pub empty : IsEmpty (command_of request) (format_of request) limit request

-- a request is made, or nothing changes
abbrev pub Makes : ℕ → ℕ → ℕ → Option (Request Global) → ℕ → Option (Request Global) → Type 0
Makes command format limit old answer new =
    (MeanNoRequest command format limit × (answer ≡ what_number What.BadValue) × (new ≡ old))
    ⊎ ((request : Request Global) × MeanRequest command format limit request × HasOrNone answer request new)

-- the line is this argument of the request's command, in its format
abbrev pub IsLineOf : Request Global → List ℕ → Arg → Type 0
IsLineOf request line arg = ReadsAs (command_of request) (everything (format_of request)) line arg

-- the line is no argument of the command, or one that is refused
abbrev pub IsLineRefused : Request Global → List ℕ → Kind → Type 0
IsLineRefused request line kind =
    IsArgumentFault (command_of request) (everything (format_of request)) line kind
    ⊎ ((arg : Arg) × IsLineOf request line arg × IsRefused (add_checks request arg) arg kind)

-- the line's argument is added to the others, or the request is unchanged
abbrev pub AddsLine : Request Global → List ℕ → Result (Unit {0}) Kind → Request Global → Type 0
AddsLine old line (Ok done) new =
    (arg : Arg) × IsLineOf old line arg × Passes (add_checks old arg) × Keeps old arg (length (written_text arg)) new
AddsLine old line (Err kind) new = (new ≡ old) × IsLineRefused old line kind

-- a line is added or refused, and that is reported to C
pub record AddsAnswers (old : Request Global) (line : List ℕ) (answer : GitwireAnswer) (new : Request Global) : Type 0 where
  pub added : Result (Unit {0}) Kind
  pub adds : AddsLine old line added new
  pub answer_is : answer ≡ announcing_result added

-- the text is a request's argument as a server option
abbrev pub option_of : List ℕ → Arg
option_of text = with_text TextWord.ServerOption text

-- the server option is added to the other arguments, or refused, and the request is unchanged
abbrev pub AddsOption : Request Global → List ℕ → Result (Unit {0}) Kind → Request Global → Type 0
AddsOption old text (Ok done) new =
    Passes (add_checks old (option_of text)) × Keeps old (option_of text) (length (written_text (option_of text))) new
AddsOption old text (Err kind) new = (new ≡ old) × IsRefused (add_checks old (option_of text)) (option_of text) kind

-- a server option is added or refused, and that is reported to C
pub record AddsOptionAnswers (old : Request Global) (text : List ℕ) (answer : GitwireAnswer) (new : Request Global) : Type 0 where
  pub added : Result (Unit {0}) Kind
  pub adds : AddsOption old text added new
  pub answer_is : answer ≡ announcing_result added

-- the request is whole, or it is not, by this kind of error
abbrev pub JudgesEnd : Asked → Result (Unit {0}) Kind → Type 0
JudgesEnd asked (Ok done) = Passes (end_checks asked)
JudgesEnd asked (Err kind) = Refuses (end_checks asked) kind

-- it is reported to C whether the request is whole
pub record EndsAnswers (asked : Asked) (answer : GitwireAnswer) : Type 0 where
  pub judged : Result (Unit {0}) Kind
  pub judges : JudgesEnd asked judged
  pub answer_is : answer ≡ announcing_result judged

-- whether the flag of this number is set; a number of no flag is not
abbrev pub is_set : ℕ → List Arg → Bool
is_set number args = unwrap_or (option_map (flag_among args) (numbered flags number)) false

-- what is reported to C about a number that may have been set
abbrev pub announcing_given : Option ℕ → GitwireAnswer
announcing_given None = answering What.Nothing
announcing_given (Some number) = announcing_number number

-- what is reported to C about the number among the arguments that this number selects
abbrev pub announcing_which : ℕ → List Arg → GitwireAnswer
announcing_which which args =
    unwrap_or (option_map (λ word. announcing_given (number word args)) (numbered number_words which)) (answering What.BadValue)

-- the text at an index of those after the word; an object name as its digits
abbrev pub item_of : Word → List Arg → ℕ → Option (List ℕ)
item_of (of_object word) args i = option_map hex_of (slice_get (ids word args) i)
item_of (of_text word) args i = slice_get (texts word args) i
item_of word args i = None

-- the text, if there is one
abbrev pub PutsItem : Option (List ℕ) → List ℕ → GitwireAnswer → List ℕ → Type 0
PutsItem None buffer answer filled = (answer ≡ answering What.Nothing) × (filled ≡ buffer)
PutsItem (Some text) buffer answer filled = Fills text buffer answer filled

-- the text at an index of the list, if there is such a list
abbrev pub PutsFrom : Option Word → List Arg → ℕ → List ℕ → GitwireAnswer → List ℕ → Type 0
PutsFrom None args i buffer answer filled = (answer ≡ answering What.BadValue) × (filled ≡ buffer)
PutsFrom (Some word) args i buffer answer filled = PutsItem (item_of word args i) buffer answer filled
