-- The argument lines of requests, as in gitprotocol-v2(5), and their server options.
use Rattle.std.specs.Prelude.{◌≡◌, ◌≢◌, ◌⊎◌, ℕ, ◌<◌, ◌≤◌, ◌+◌, Bool, true, false, Option, Some, None, List, [], ◌∷◌, ◌++◌, length, codes, decimal}
use Rattle.git_names.specs.ObjectName.{ObjectName, IsObjectName, IsNoObjectName, IsOid, hex_of}
use Rattle.git_names.specs.RefName.{IsRefName}
use Rattle.git_names.specs.declared.object_format.Format.{Format}
use Rattle.git_pkt.specs.declared.fault.Kind.{Kind}
use Rattle.git_pkt.specs.declared.fault.Kind.TheVariants.{UnknownArgument, BadLine, BadNumber, BadObjectName, BadRefName, NotAdvertised}
use Rattle.git_msg.specs.declared.arguments.Command.{Command}
use Rattle.git_msg.specs.declared.arguments.Command.TheVariants.{LsRefs, Fetch, ObjectInfo}
use Rattle.git_msg.specs.declared.arguments.Argument.{Argument}
use Rattle.git_msg.specs.declared.flags.Flag.{Flag}
use Rattle.git_msg.specs.declared.words.Word.{Word}
use Rattle.git_msg.specs.declared.words.Word.TheVariants.{Flag as of_flag, Object as of_object, Text as of_text, Number as of_number}
use Rattle.git_msg.specs.declared.words.ObjectWord.{ObjectWord}
use Rattle.git_msg.specs.declared.words.TextWord.{TextWord}
use Rattle.git_msg.specs.declared.words.NumberWord.{NumberWord}
use Rattle.git_msg.specs.declared.offers.Offer.{Offer}
use Rattle.git_msg.specs.Capability.{is_value}
use Rattle.git_msg.specs.Flags.{Row, always, entry, entry_of_all, flag_row}
use Rattle.git_msg.specs.Numbers.{IsNumber}

-- the table of words
abbrev pub row : Word → Row
row (of_flag flag) = flag_row flag
row (of_object ObjectWord.Want) = entry (codes "want ") Fetch always
row (of_object ObjectWord.Have) = entry (codes "have ") Fetch always
row (of_object ObjectWord.Shallow) = entry (codes "shallow ") Fetch (λ offer. offer.shallow)
row (of_object ObjectWord.ObjectId) = entry (codes "oid ") ObjectInfo always
row (of_text TextWord.RefPrefix) = entry (codes "ref-prefix ") LsRefs always
row (of_text TextWord.Filter) = entry (codes "filter ") Fetch (λ offer. offer.filter)
row (of_text TextWord.DeepenNot) = entry (codes "deepen-not ") Fetch (λ offer. offer.shallow)
row (of_text TextWord.WantRef) = entry (codes "want-ref ") Fetch (λ offer. offer.ref_in_want)
row (of_text TextWord.ServerOption) = entry_of_all (codes "server-option=") (λ offer. offer.server_option)
row (of_number NumberWord.Deepen) = entry (codes "deepen ") Fetch (λ offer. offer.shallow)
row (of_number NumberWord.DeepenSince) = entry (codes "deepen-since ") Fetch (λ offer. offer.shallow)

-- the words of a command, in the order in which their arguments are written
abbrev pub words_of : Command → List Word
words_of LsRefs = of_flag Flag.Peel ∷ of_flag Flag.Symrefs ∷ of_flag Flag.Unborn ∷ of_text TextWord.RefPrefix ∷ []
words_of Fetch =
    of_flag Flag.ThinPack ∷ of_flag Flag.NoProgress ∷ of_flag Flag.IncludeTag ∷ of_flag Flag.OfsDelta ∷ of_flag Flag.WaitForDone
    ∷ of_text TextWord.Filter ∷ of_object ObjectWord.Shallow ∷ of_number NumberWord.Deepen ∷ of_number NumberWord.DeepenSince
    ∷ of_text TextWord.DeepenNot ∷ of_flag Flag.DeepenRelative ∷ of_object ObjectWord.Want ∷ of_text TextWord.WantRef
    ∷ of_object ObjectWord.Have ∷ of_flag Flag.Done ∷ []
words_of ObjectInfo = of_flag Flag.Size ∷ of_object ObjectWord.ObjectId ∷ []

-- all words: first that of every command
abbrev pub words : List Word
words = of_text TextWord.ServerOption ∷ (words_of LsRefs ++ (words_of Fetch ++ words_of ObjectInfo))

-- an argument, wherever its text lies
pub data Arg : Type 0 where
  alone : Flag → Arg
  with_id : ObjectWord → ObjectName → Arg
  with_text : TextWord → List ℕ → Arg
  with_number : NumberWord → ℕ → Arg

-- the argument that a borrowed argument shows
abbrev pub shown : Argument → Arg
shown (Argument.Flag flag) = alone flag
shown (Argument.Object word id) = with_id word id
shown (Argument.Text word text) = with_text word text.now
shown (Argument.Number word number) = with_number word number

-- the word at the head of its line
abbrev pub word_of : Arg → Word
word_of (alone flag) = of_flag flag
word_of (with_id word id) = of_object word
word_of (with_text word text) = of_text word
word_of (with_number word number) = of_number word

-- the command's key, as it stands after `command=`
abbrev pub name_of : Command → List ℕ
name_of LsRefs = codes "ls-refs"
name_of Fetch = codes "fetch"
name_of ObjectInfo = codes "object-info"

-- requests of the command may have a word of this command, or of none
abbrev pub IsFor : Command → Option Command → Type 0
IsFor command None = Unit {0}
IsFor command (Some own) = own ≡ command

-- requests of the command may have the argument
abbrev pub MayHave : Command → Arg → Type 0
MayHave command arg = IsFor command (row (word_of arg)).command

-- whether the feature that the argument needs is advertised
abbrev pub is_offered : Offer → Arg → Bool
is_offered offer arg = (row (word_of arg)).offered offer

-- the maximum length of a text that is kept
abbrev pub most_text : ℕ
most_text = 32000

-- the maximum length of a server option: its line is a whole payload
abbrev pub most_option : ℕ
most_option = 65502

-- the maximum of a limit on the bytes of kept texts
abbrev pub most_limit : ℕ
most_limit = 1073741824

-- the minimum length of a text after the word
abbrev pub least_text : TextWord → ℕ
least_text TextWord.RefPrefix = 0
least_text _ = 1

-- the text is allowed after the word: a reference name, a value of a capability, or any text of such a length
abbrev pub IsTextOf : TextWord → List ℕ → Type 0
IsTextOf TextWord.WantRef text = IsRefName text
IsTextOf TextWord.ServerOption text = (is_value text ≡ true) × (length text ≤ most_option)
IsTextOf word text = (least_text word ≤ length text) × (length text ≤ most_text)

abbrev pub IsNoTextOf : TextWord → List ℕ → Type 0
IsNoTextOf TextWord.WantRef text = ¬ IsRefName text
IsNoTextOf TextWord.ServerOption text = (is_value text ≡ false) ⊎ (most_option < length text)
IsNoTextOf word text = (length text < least_text word) ⊎ (most_text < length text)

-- the number is allowed after the word: a depth in commits, or a time in seconds
abbrev pub IsNumberOf : NumberWord → ℕ → Type 0
IsNumberOf NumberWord.Deepen depth = (1 ≤ depth) × (depth ≤ 2147483647)
IsNumberOf NumberWord.DeepenSince time = time ≤ 9223372036854775807

-- a number in the range, in decimal digits
pub record IsNumberIn (InRange : ℕ → Type 0) (text : List ℕ) (number : ℕ) : Type 0 where
  pub is_number : IsNumber text number
  pub in_range : InRange number

-- there is no such number
abbrev pub IsNoNumberIn : (ℕ → Type 0) → List ℕ → Type 0
IsNoNumberIn InRange text = (number : ℕ) → ¬ IsNumberIn InRange text number

-- an object name of the format
pub record IsNameIn (format : Format) (id : ObjectName) : Type 0 where
  pub of_format : id.format ≡ format
  pub is_oid : IsOid id

-- the line of a word, with the text that follows it: nothing follows a flag
abbrev pub line_of : Word → List ℕ → List ℕ
line_of (of_flag flag) value = (flag_row flag).keyword
line_of word value = (row word).keyword ++ value

-- the text after the word states the argument's value, and that is allowed there
abbrev pub StatesValue : Format → List ℕ → Arg → Type 0
StatesValue format value (alone flag) = Unit {0}
StatesValue format value (with_id word id) = IsObjectName format value id
StatesValue format value (with_text word text) = (value ≡ text) × IsTextOf word text
StatesValue format value (with_number word number) = IsNumberIn (IsNumberOf word) value number

-- the text contains this argument, and its value is allowed there
pub record HasArgument (format : Format) (text : List ℕ) (arg : Arg) : Type 0 where
  pub value : List ℕ
  pub spelled : text ≡ line_of (word_of arg) value
  pub states : StatesValue format value arg

-- the text is this argument of the command
abbrev pub IsArgument : Command → Format → List ℕ → Arg → Type 0
IsArgument command format text arg = ((row (word_of arg)).command ≡ Some command) × HasArgument format text arg

-- the argument's value is allowed in a request whose object names have this format
abbrev pub IsInRange : Format → Arg → Type 0
IsInRange format (alone flag) = Unit {0}
IsInRange format (with_id word id) = IsNameIn format id
IsInRange format (with_text word text) = IsTextOf word text
IsInRange format (with_number word number) = IsNumberOf word number

-- the error for a value that is not allowed after the word
abbrev pub refusal_of : Word → Kind
refusal_of (of_flag flag) = UnknownArgument
refusal_of (of_object word) = BadObjectName
refusal_of (of_text TextWord.WantRef) = BadRefName
refusal_of (of_text word) = BadLine
refusal_of (of_number word) = BadNumber

-- the argument's value is not allowed there
abbrev pub HasWrongValue : Format → Arg → Type 0
HasWrongValue format (alone flag) = ⊥
HasWrongValue format (with_id word id) = id.format ≢ format
HasWrongValue format (with_text word text) = IsNoTextOf word text
HasWrongValue format (with_number word number) = ¬ IsNumberOf word number

-- the argument is allowed in a request of the command and the format
abbrev pub IsValue : Command → Format → Arg → Type 0
IsValue command format arg = MayHave command arg × IsInRange format arg

-- the argument is refused there with this error: if it belongs to another command, its value is not judged
abbrev pub IsValueFault : Command → Format → Arg → Kind → Type 0
IsValueFault command format arg kind =
    ((¬ MayHave command arg) × (kind ≡ UnknownArgument))
    ⊎ (MayHave command arg × HasWrongValue format arg × (kind ≡ refusal_of (word_of arg)))

-- the text is an argument that a request of this command may have
pub record ReadsAs (command : Command) (offer : Offer) (text : List ℕ) (arg : Arg) : Type 0 where
  pub is_argument : IsArgument command offer.format text arg
  pub offered : is_offered offer arg ≡ true

-- the text is no argument of the command
abbrev pub IsNoArgument : Command → List ℕ → Type 0
IsNoArgument command text = (word : Word) (value : List ℕ) → (row word).command ≡ Some command → text ≢ line_of word value

-- the text after the word is no value that is allowed there
abbrev pub IsNoValue : Word → Format → List ℕ → Type 0
IsNoValue (of_flag flag) format value = ⊥
IsNoValue (of_object word) format name = IsNoObjectName format name
IsNoValue (of_text word) format text = IsNoTextOf word text
IsNoValue (of_number word) format digits = IsNoNumberIn (IsNumberOf word) digits

-- a text that begins with a word of the command is refused for its value, with this error
pub record IsRowFault (command : Command) (format : Format) (text : List ℕ) (kind : Kind) : Type 0 where
  pub word : Word
  pub value : List ℕ
  pub of : (row word).command ≡ Some command
  pub spelled : text ≡ line_of word value
  pub refused : IsNoValue word format value
  pub named : kind ≡ refusal_of word

-- the text is no argument of the command, or its value is not allowed there
abbrev pub IsTextFault : Command → Format → List ℕ → Kind → Type 0
IsTextFault command format text kind = (IsNoArgument command text × (kind ≡ UnknownArgument)) ⊎ IsRowFault command format text kind

-- the text is an argument of the command, but needs a feature that is not advertised
pub record IsUnoffered (command : Command) (offer : Offer) (text : List ℕ) : Type 0 where
  pub arg : Arg
  pub is_argument : IsArgument command offer.format text arg
  pub unoffered : is_offered offer arg ≡ false

-- the text is no argument of the command, or its value is not allowed there, or it was not advertised
abbrev pub IsArgumentFault : Command → Offer → List ℕ → Kind → Type 0
IsArgumentFault command offer text kind = IsTextFault command offer.format text kind ⊎ (IsUnoffered command offer text × (kind ≡ NotAdvertised))

-- a value, as it is written
abbrev pub written_value : Arg → List ℕ
written_value (alone flag) = []
written_value (with_id word id) = hex_of id
written_value (with_text word text) = text
written_value (with_number word number) = decimal number

-- the line of an argument, as it is written
abbrev pub written_text : Arg → List ℕ
written_text arg = (row (word_of arg)).keyword ++ written_value arg

-- how many bytes are stored for a value: 33 for an object name; for a text its own, two for its length and four for the place where it ends
abbrev pub stored_in : Arg → ℕ
stored_in (with_id word id) = 33
stored_in (with_text word text) = length text + 6
stored_in _ = 0

-- the argument has a value that memory is taken for
abbrev pub TakesMemory : Arg → Type 0
TakesMemory (with_id word id) = Unit {0}
TakesMemory (with_text word text) = Unit {0}
TakesMemory _ = ⊥
