-- What requests ask for: the list of their arguments, in the order in which they are written. All else is looked up in it.
use Rattle.std.specs.Prelude.{◌≡◌, ◌⊎◌, ◌<◌, ◌+◌, ℕ, Bool, true, false, not, ◌&&◌, ◌||◌, List, [], ◌∷◌, ◌++◌, Option, Some, None, All}
use Rattle.std.specs.Prelude.{filter, length, sum_by, if◌then◌else◌}
use Rattle.std.specs.List.{list_any, filter_map, flat_map}
use Rattle.std.specs.Str.{bytes_eq}
use Rattle.git_names.specs.ObjectName.{ObjectName}
use Rattle.git_names.specs.declared.object_format.Format.{Format}
use Rattle.git_msg.specs.declared.offers.Offer.{Offer}
use Rattle.git_msg.specs.declared.arguments.Command.{Command}
use Rattle.git_msg.specs.declared.arguments.Command.TheVariants.{LsRefs, Fetch, ObjectInfo}
use Rattle.git_msg.specs.declared.flags.Flag.{Flag}
use Rattle.git_msg.specs.declared.words.Word.{Word}
use Rattle.git_msg.specs.declared.words.Word.TheVariants.{Flag as of_flag, Object as of_object, Text as of_text, Number as of_number}
use Rattle.git_msg.specs.declared.words.ObjectWord.{ObjectWord}
use Rattle.git_msg.specs.declared.words.TextWord.{TextWord}
use Rattle.git_msg.specs.declared.words.NumberWord.{NumberWord}
use Rattle.git_msg.specs.Arguments.{Arg, alone, with_id, with_text, with_number, row, word_of, words, IsValue, is_offered, written_text}
use Rattle.git_msg.specs.Texts.{last_of}

abbrev pub same_keyword : Word → Word → Bool
same_keyword word other = bytes_eq (row word).keyword (row other).keyword

-- whether two words are the same
abbrev pub is_word : Word → Word → Bool
is_word (of_flag word) (of_flag other) = same_keyword (of_flag word) (of_flag other)
is_word (of_object word) (of_object other) = same_keyword (of_object word) (of_object other)
is_word (of_text word) (of_text other) = same_keyword (of_text word) (of_text other)
is_word (of_number word) (of_number other) = same_keyword (of_number word) (of_number other)
is_word word other = false

-- whether the argument has the word
abbrev pub is_of : Word → Arg → Bool
is_of word arg = is_word word (word_of arg)

-- the arguments that have it
abbrev pub of_word : Word → List Arg → List Arg
of_word word args = filter (is_of word) args

-- whether of several arguments with the word the last alone counts
abbrev pub last_counts : Word → Bool
last_counts (of_flag flag) = true
last_counts (of_number word) = true
last_counts _ = false

-- the last argument alone
abbrev pub last_alone : List Arg → List Arg
last_alone [] = []
last_alone (arg ∷ []) = arg ∷ []
last_alone (arg ∷ next ∷ args) = last_alone (next ∷ args)

abbrev pub all_or_last : Bool → List Arg → List Arg
all_or_last true args = last_alone args
all_or_last false args = args

-- the arguments of a word that count
abbrev pub counting : Word → List Arg → List Arg
counting word args = all_or_last (last_counts word) (of_word word args)

-- the arguments that count, as they are written: word after word
abbrev pub written : List Arg → List Arg
written args = flat_map (λ word. counting word args) words

-- what a request asks for: its command, and its arguments as they are written
pub data Asked : Type 0 where
  ls_refs : List Arg → Asked
  fetch : List Arg → Asked
  object_info : List Arg → Asked

-- the command of a request for this
abbrev pub command_asked : Asked → Command
command_asked (ls_refs q) = LsRefs
command_asked (fetch q) = Fetch
command_asked (object_info q) = ObjectInfo

-- the arguments of a request, in the order in which they are written
abbrev pub arguments_in : Asked → List Arg
arguments_in (ls_refs q) = q
arguments_in (fetch q) = q
arguments_in (object_info q) = q

abbrev pub asked_for : Command → List Arg → Asked
asked_for LsRefs args = ls_refs args
asked_for Fetch args = fetch args
asked_for ObjectInfo args = object_info args

-- what the arguments ask for, in whatever order they came
abbrev pub asked_by : Command → List Arg → Asked
asked_by command args = asked_for command (written args)

-- a request for nothing yet
abbrev pub nothing_asked : Command → Asked
nothing_asked command = asked_by command []

-- the arguments with one more after the others
abbrev pub with_one : List Arg → Arg → List Arg
with_one args arg = written (args ++ arg ∷ [])

-- what a request asks for with one more argument after the others
abbrev pub with_argument : Asked → Arg → Asked
with_argument asked arg = asked_for (command_asked asked) (with_one (arguments_in asked) arg)

-- the argument's value, if it has one of that shape
abbrev pub id_of : Arg → Option ObjectName
id_of (with_id word id) = Some id
id_of _ = None

abbrev pub text_of : Arg → Option (List ℕ)
text_of (with_text word text) = Some text
text_of _ = None

abbrev pub number_of : Arg → Option ℕ
number_of (with_number word number) = Some number
number_of _ = None

-- such a value, if it comes after the word
abbrev pub value_in : {X : Type 0} → (Arg → Option X) → Word → Arg → Option X
value_in value word arg = if is_of word arg then value arg else None

abbrev pub id_in : ObjectWord → Arg → Option ObjectName
id_in word = value_in id_of (of_object word)

abbrev pub text_in : TextWord → Arg → Option (List ℕ)
text_in word = value_in text_of (of_text word)

-- the values after a word, in the order of their lines
abbrev pub ids : ObjectWord → List Arg → List ObjectName
ids word = filter_map (id_in word)

abbrev pub texts : TextWord → List Arg → List (List ℕ)
texts word = filter_map (text_in word)

-- the number after a word; of several, the last
abbrev pub number : NumberWord → List Arg → Option ℕ
number word args = last_of (filter_map (value_in number_of (of_number word)) args)

-- whether the flag is among the arguments
abbrev pub flag_among : List Arg → Flag → Bool
flag_among args flag = list_any (is_of (of_flag flag)) args

-- the objects that a fetch wants
abbrev pub wants_in : List Arg → List ObjectName
wants_in = ids ObjectWord.Want

-- the objects that a client has
abbrev pub haves_in : List Arg → List ObjectName
haves_in = ids ObjectWord.Have

-- the commits that are shallow at the client
abbrev pub shallows_in : List Arg → List ObjectName
shallows_in = ids ObjectWord.Shallow

-- the objects that an object-info asks about
abbrev pub oids_in : List Arg → List ObjectName
oids_in = ids ObjectWord.ObjectId

-- the prefixes of an ls-refs
abbrev pub ref_prefixes_in : List Arg → List (List ℕ)
ref_prefixes_in = texts TextWord.RefPrefix

-- which objects a fetch leaves out, each as a filter-spec
abbrev pub filters_in : List Arg → List (List ℕ)
filters_in = texts TextWord.Filter

-- the revisions whose history a fetch does not want
abbrev pub deepen_nots_in : List Arg → List (List ℕ)
deepen_nots_in = texts TextWord.DeepenNot

-- the references whose objects a fetch wants
abbrev pub want_refs_in : List Arg → List (List ℕ)
want_refs_in = texts TextWord.WantRef

-- the server options of a request
abbrev pub server_options_in : List Arg → List (List ℕ)
server_options_in = texts TextWord.ServerOption

-- the depth of a fetch
abbrev pub deepen_in : List Arg → Option ℕ
deepen_in = number NumberWord.Deepen

-- the time from which on a fetch wants the history
abbrev pub deepen_since_in : List Arg → Option ℕ
deepen_since_in = number NumberWord.DeepenSince

-- whether a fetch is done with negotiation
abbrev pub done_in : List Arg → Bool
done_in args = flag_among args Flag.Done

-- what an ls-refs wants to see of references
abbrev pub symrefs_in : List Arg → Bool
symrefs_in args = flag_among args Flag.Symrefs

abbrev pub peel_in : List Arg → Bool
peel_in args = flag_among args Flag.Peel

abbrev pub unborn_in : List Arg → Bool
unborn_in args = flag_among args Flag.Unborn

-- whether the request has the flag
abbrev pub has_flag : Flag → Asked → Bool
has_flag flag asked = flag_among (arguments_in asked) flag

-- the argument of a flag, if it is set
abbrev pub where_asked : Bool → Flag → List Arg
where_asked true flag = alone flag ∷ []
where_asked false flag = []

-- the argument of a number, if there is one
abbrev pub where_given : NumberWord → Option ℕ → List Arg
where_given word None = []
where_given word (Some number) = with_number word number ∷ []

-- whether a fetch negotiates alone: it has `wait-for-done`, so that no pack is sent before `done`, and does not have `done`
abbrev pub only_negotiates : List Arg → Bool
only_negotiates q = flag_among q Flag.WaitForDone && not (done_in q)

-- a fetch wants an object or a reference, or negotiates alone
abbrev pub HasWants : List Arg → Type 0
HasWants q = (0 < length (wants_in q) + length (want_refs_in q)) ⊎ (only_negotiates q ≡ true)

-- whether there is a value
abbrev pub is_given : {X : Type 0} → Option X → Bool
is_given (Some x) = true
is_given None = false

abbrev pub is_empty : {X : Type 0} → List X → Bool
is_empty [] = true
is_empty (x ∷ xs) = false

-- whether a fetch cuts the history off both by a depth and by something else, which exclude each other
abbrev pub has_deepen_conflict : List Arg → Bool
has_deepen_conflict q = is_given (deepen_in q) && (is_given (deepen_since_in q) || not (is_empty (deepen_nots_in q)))

-- how many bytes the texts of these arguments' lines have when they are written
abbrev pub bytes_of : List Arg → ℕ
bytes_of args = sum_by (λ arg. length (written_text arg)) args

-- how many bytes the texts of a request's argument lines and server options have when they are written
abbrev pub written_bytes : Asked → ℕ
written_bytes asked = bytes_of (arguments_in asked)

-- the arguments are in the order in which they are written, and all count
abbrev pub AreInOrder : List Arg → Type 0
AreInOrder args = args ≡ written args

-- each of the request's arguments is allowed there, if its object names have this format
pub record HasValues (format : Format) (asked : Asked) : Type 0 where
  pub allowed : All (IsValue (command_asked asked) format) (arguments_in asked)
  pub in_order : AreInOrder (arguments_in asked)

-- the features that the request's arguments need are advertised
abbrev pub AreOffered : Offer → Asked → Type 0
AreOffered offer asked = All (λ arg. is_offered offer arg ≡ true) (arguments_in asked)
