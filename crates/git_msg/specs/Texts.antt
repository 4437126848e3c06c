-- Words of a text, and those at its beginning.
use Rattle.std.specs.Prelude.{◌≡◌, ◌≢◌, ℕ, ◌+◌, ◌==◌, List, [], ◌∷◌, ◌++◌, Option, Some, None, codes, length}
use Rattle.std.specs.List.{slice_split}
use Rattle.git_names.specs.RefName.{Lacks}

-- the parts of a text between bytes of this value
abbrev pub parts_of : ℕ → List ℕ → List (List ℕ)
parts_of byte text = slice_split (λ c. c == byte) text

-- the parts of the rest of a text, if there is a rest
abbrev pub parts_left : ℕ → Option (List ℕ) → List (List ℕ)
parts_left byte None = []
parts_left byte (Some text) = parts_of byte text

-- how many bytes the rest has, and one more, if there is a rest
abbrev pub bytes_left : Option (List ℕ) → ℕ
bytes_left None = 0
bytes_left (Some text) = length text + 1

-- the first such byte of the text lies between these two
pub record IsPartedAt (byte : ℕ) (text before after : List ℕ) : Type 0 where
  pub spelled : text ≡ before ++ byte ∷ after
  pub first : Lacks before byte

-- the text is cut at its first such byte, if it has one
abbrev pub IsCutAt : ℕ → List ℕ → List ℕ → Option (List ℕ) → Type 0
IsCutAt byte text before None = (before ≡ text) × Lacks text byte
IsCutAt byte text before (Some after) = IsPartedAt byte text before after

-- the rest of a text, if there is one, is its end
abbrev pub IsLeftOf : List ℕ → Option (List ℕ) → Type 0
IsLeftOf text None = Unit {0}
IsLeftOf text (Some rest) = (front : List ℕ) × (text ≡ front ++ rest)

-- the last of a list
abbrev pub last_of : {X : Type 0} → List X → Option X
last_of [] = None
last_of (x ∷ []) = Some x
last_of (x ∷ y ∷ xs) = last_of (y ∷ xs)

-- the parts of a text between single spaces
abbrev pub spaced_words : List ℕ → List (List ℕ)
spaced_words text = parts_of 32 text

-- the text is the word and then a value that meets P
pub record Follows (word : List ℕ) (P : List ℕ → Type 0) (text : List ℕ) : Type 0 where
  pub value : List ℕ
  pub spelled : text ≡ word ++ value
  pub holds : P value

-- the text is none of these words
abbrev pub IsNoneOf : List (List ℕ) → List ℕ → Type 0
IsNoneOf [] text = Unit {0}
IsNoneOf (word ∷ words) text = (text ≢ word) × IsNoneOf words text

-- the text does not begin with the word
abbrev pub BeginsOtherThan : List ℕ → List ℕ → Type 0
BeginsOtherThan word text = (rest : List ℕ) → text ≢ word ++ rest

-- the text is that of an error packet with this message, which either end may send (gitprotocol-pack(5))
abbrev pub IsErrorOf : List ℕ → List ℕ → Type 0
IsErrorOf text message = text ≡ codes "ERR " ++ message

-- the text is that of an error packet
pub record IsErrorText (text : List ℕ) : Type 0 where
  pub message : List ℕ
  pub spelled : IsErrorOf text message
