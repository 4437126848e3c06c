-- The texts in a pool of texts.
use Rattle.std.specs.Prelude.{ℕ, ◌+◌, ◌*◌, List, length, map}
use Rattle.git_msg.specs.declared.parts.Texts.{Texts}
use Rattle.git_msg.specs.declared.words.TextWord.{TextWord}
use Rattle.git_msg.specs.Machine.PlacedLists.{items_at, items_in}
use Rattle.git_msg.specs.Machine.TextPools.{text_at, text_place}

module _ {A : Type 0} where
  -- the texts of a word, in the order of their ends
  abbrev pub texts_of : Texts A → TextWord → List (List ℕ)
  texts_of t word = map (text_at t.bytes.items) (items_at t.ends (text_place word))

  -- how many bytes all texts take: their own, two for the length and four for the end of each
  abbrev pub texts_stored : Texts A → ℕ
  texts_stored t = length t.bytes.items + 4 * items_in t.ends

  -- the same with each field named, so that none can be added without being counted
  abbrev pub texts_stored_by_fields : Texts A → ℕ
  texts_stored_by_fields t =
      let record { bytes = bytes; ends = ends; sound = sound } = t in
      length bytes.items + 4 * items_in ends
