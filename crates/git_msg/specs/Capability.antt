-- Capability lines: `key` or `key=value`.
use Rattle.std.specs.Prelude.{◌≡◌, ℕ, ◌==◌, IsTrue, Bool, not, ◌&&◌, ◌||◌, List, ◌∷◌, ◌++◌, length, Option, Some, None}
use Rattle.std.specs.List.{list_all}
use Rattle.std.specs.Char.{is_ascii_alphanumeric}

-- a byte that a key may have: an ASCII letter or digit, `-` or `_`
abbrev pub is_key_byte : ℕ → Bool
is_key_byte c = is_ascii_alphanumeric c || c == 45 || c == 95

-- a byte that a value may have: any but NUL and LF
abbrev pub is_value_byte : ℕ → Bool
is_value_byte c = not (c == 0) && not (c == 10)

-- one or more bytes that a key may have
abbrev pub is_key : List ℕ → Bool
is_key key = not (length key == 0) && list_all is_key_byte key

abbrev pub is_value : List ℕ → Bool
is_value value = list_all is_value_byte value

-- the text is the capability of this key, without a value or with this one
abbrev pub IsCapability : List ℕ → List ℕ → Option (List ℕ) → Type 0
IsCapability text key None = IsTrue (is_key key) × (text ≡ key)
IsCapability text key (Some value) = IsTrue (is_key key) × (text ≡ key ++ 61 ∷ value) × IsTrue (is_value value)

-- the text is no capability
abbrev pub IsNoCapability : List ℕ → Type 0
IsNoCapability text = (key : List ℕ) (value : Option (List ℕ)) → IsCapability text key value → ⊥
