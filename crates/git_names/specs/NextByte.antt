-- Which byte may follow which bytes in a reference name.
use Rattle.std.specs.Prelude.{◌≡◌, ◌≢◌, ℕ, ◌≤◌, List, codes}
use Rattle.git_names.specs.RefName.{EndsWith}

-- the byte is not among those that no reference name has
pub record IsAllowed (byte : ℕ) : Type 0 where
  pub no_control : 32 ≤ byte
  pub no_space : byte ≢ 32
  pub no_asterisk : byte ≢ 42
  pub no_colon : byte ≢ 58
  pub no_question_mark : byte ≢ 63
  pub no_open_bracket : byte ≢ 91
  pub no_backslash : byte ≢ 92
  pub no_caret : byte ≢ 94
  pub no_tilde : byte ≢ 126
  pub no_delete : byte ≢ 127

-- no rule mentions the byte
pub record IsPlain (byte : ℕ) : Type 0 where
  pub allowed : IsAllowed byte
  pub no_slash : byte ≢ 47
  pub no_dot : byte ≢ 46
  pub no_brace : byte ≢ 123

-- the byte may follow these bytes
pub record MayFollow (front : List ℕ) (byte : ℕ) : Type 0 where
  pub allowed : IsAllowed byte
  pub no_empty_component : byte ≡ 47 → ¬ EndsWith front (codes "/")
  pub no_component_to_lock : byte ≡ 47 → ¬ EndsWith front (codes ".lock")
  pub no_component_from_dot : byte ≡ 46 → ¬ EndsWith front (codes "/")
  pub no_two_dots : byte ≡ 46 → ¬ EndsWith front (codes ".")
  pub no_at_brace : byte ≡ 123 → ¬ EndsWith front (codes "@")
