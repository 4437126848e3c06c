-- The names that the capability `agent` may have as its value.
use Rattle.std.specs.Prelude.{ℕ, ◌==◌, Bool, not, ◌&&◌, List, length, nat_le}
use Rattle.std.specs.List.{list_all}
use Rattle.std.specs.Char.{is_ascii_graphic}

-- 1 to 63 printable ASCII characters, none of them a space
abbrev pub is_agent : List ℕ → Bool
is_agent text = not (length text == 0) && nat_le (length text) 63 && list_all is_ascii_graphic text
