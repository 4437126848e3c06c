-- What is stored of a request's arguments, as a list in the order in which they are written, and how many bytes that are: 33
-- for an object name, and those of the pools of texts.
use Rattle.std.specs.Prelude.{ℕ, ◌+◌, ◌*◌, Bool, false, Option, None, List, [], ◌∷◌, get_or, if◌then◌else◌, map}
use Rattle.std.specs.List.{flat_map}
use Rattle.std.specs.Str.{bytes_eq}
use Rattle.git_names.specs.ObjectName.{ObjectName}
use Rattle.git_msg.specs.declared.lists.ArgumentLists.{ArgumentLists}
use Rattle.git_msg.specs.declared.flags.Flag.{Flag}
use Rattle.git_msg.specs.declared.flags.FlagSet.{FlagSet}
use Rattle.git_msg.specs.declared.words.Word.{Word}
use Rattle.git_msg.specs.declared.words.Word.TheVariants.{Flag as of_flag, Object as of_object, Text as of_text, Number as of_number}
use Rattle.git_msg.specs.declared.words.ObjectWord.{ObjectWord}
use Rattle.git_msg.specs.declared.words.NumberWord.{NumberWord}
use Rattle.git_msg.specs.Arguments.{Arg, with_id, with_text, words}
use Rattle.git_msg.specs.Asked.{where_asked, where_given}
use Rattle.git_msg.specs.Flags.{flag_row}
use Rattle.git_msg.specs.Machine.HeldTexts.{texts_of, texts_stored}
use Rattle.git_msg.specs.Machine.PlacedLists.{items_at, items_in}

-- the index of a flag among all flags
abbrev pub place_among : List Word → Flag → ℕ
place_among [] flag = 0
place_among (of_flag first ∷ others) flag =
    if bytes_eq (flag_row flag).keyword (flag_row first).keyword then 0 else place_among others flag + 1
place_among (first ∷ others) flag = place_among others flag

abbrev pub place_of : Flag → ℕ
place_of flag = place_among words flag

-- the index of a word's list
abbrev pub object_place : ObjectWord → ℕ
object_place ObjectWord.Want = 0
object_place ObjectWord.Have = 1
object_place ObjectWord.Shallow = 2
object_place ObjectWord.ObjectId = 3

abbrev pub number_place : NumberWord → ℕ
number_place NumberWord.Deepen = 0
number_place NumberWord.DeepenSince = 1

-- whether the flag is set in the set that a request keeps
abbrev pub is_held : FlagSet → Flag → Bool
is_held held flag = get_or held.set (place_of flag) false

module _ {A : Type 0} where
  abbrev pub ids_at : ArgumentLists A → ObjectWord → List ObjectName
  ids_at q word = items_at q.objects (object_place word)

  abbrev pub number_at : ArgumentLists A → NumberWord → Option ℕ
  number_at q word = get_or q.numbers (number_place word) None

  -- the arguments of a word
  abbrev pub held_at : ArgumentLists A → Word → List Arg
  held_at q (of_flag flag) = where_asked (is_held q.flags flag) flag
  held_at q (of_object word) = map (with_id word) (ids_at q word)
  held_at q (of_text word) = map (with_text word) (texts_of q.texts word)
  held_at q (of_number word) = where_given word (number_at q word)

  -- all arguments
  unfoldable pub held : ArgumentLists A → List Arg
  held q = flat_map (held_at q) words

  -- how many bytes are stored
  abbrev pub stored : ArgumentLists A → ℕ
  stored q = 33 * items_in q.objects + texts_stored q.texts

  -- the same with each field named, so that none can be added without being counted
  abbrev pub stored_by_fields : ArgumentLists A → ℕ
  stored_by_fields q =
      let record { flags = flags; objects = objects; texts = texts; numbers = numbers } = q in
      33 * items_in objects + texts_stored texts
