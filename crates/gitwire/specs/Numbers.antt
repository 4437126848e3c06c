-- What the numbers that C passes mean: the first of each of these lists has 1. 0 means nothing, and so does a number past the end.
use Rattle.std.specs.Prelude.{ℕ, zero, suc, List, [], ◌∷◌, Option, None, slice_get}
use Rattle.git_names.specs.declared.object_format.Format.{Format}
use Rattle.git_names.specs.declared.object_format.Format.TheVariants.{Sha1, Sha256}
use Rattle.git_msg.specs.declared.arguments.Command.{Command}
use Rattle.git_msg.specs.declared.arguments.Command.TheVariants.{LsRefs, Fetch, ObjectInfo}
use Rattle.git_msg.specs.declared.flags.Flag.{Flag}
use Rattle.git_msg.specs.declared.words.Word.{Word}
use Rattle.git_msg.specs.declared.words.Word.TheVariants.{Object as of_object, Text as of_text}
use Rattle.git_msg.specs.declared.words.ObjectWord.{ObjectWord}
use Rattle.git_msg.specs.declared.words.TextWord.{TextWord}
use Rattle.git_msg.specs.declared.words.NumberWord.{NumberWord}

-- what a number means in a list
abbrev pub numbered : {X : Type 0} → List X → ℕ → Option X
numbered values zero = None
numbered values (suc before) = slice_get values before

abbrev pub formats : List Format
formats = Sha1 ∷ Sha256 ∷ []

-- the number of a format
abbrev pub format_number : Format → ℕ
format_number Sha1 = 1
format_number Sha256 = 2

abbrev pub commands : List Command
commands = LsRefs ∷ Fetch ∷ ObjectInfo ∷ []

-- the number of a command
abbrev pub command_number : Command → ℕ
command_number LsRefs = 1
command_number Fetch = 2
command_number ObjectInfo = 3

abbrev pub flags : List Flag
flags =
    Flag.Symrefs ∷ Flag.Peel ∷ Flag.Done ∷ Flag.ThinPack ∷ Flag.NoProgress ∷ Flag.IncludeTag ∷ Flag.OfsDelta
    ∷ Flag.DeepenRelative ∷ Flag.Size ∷ Flag.Unborn ∷ Flag.WaitForDone ∷ []

-- the words before a number
abbrev pub number_words : List NumberWord
number_words = NumberWord.Deepen ∷ NumberWord.DeepenSince ∷ []

-- the words before the items of a list
abbrev pub item_words : List Word
item_words =
    of_text TextWord.RefPrefix ∷ of_object ObjectWord.Want ∷ of_object ObjectWord.Have ∷ of_object ObjectWord.Shallow ∷ of_text TextWord.DeepenNot
    ∷ of_text TextWord.WantRef ∷ of_object ObjectWord.ObjectId ∷ of_text TextWord.Filter ∷ of_text TextWord.ServerOption ∷ []
