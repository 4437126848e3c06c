-- Reference names: the rules of git-check-ref-format(1), as the parts that no name has.
use Rattle.std.specs.Prelude.{◌≢◌, ℕ, ◌-◌, ◌<◌, ◌≤◌, List, length, slice_index, codes}
use Rattle.bstr.specs.Find.{OccursAt}
use Rattle.bstr.specs.Text.{Contains}

-- the text begins with the part
abbrev pub BeginsWith : List ℕ → List ℕ → Type 0
BeginsWith text part = OccursAt text part 0

-- the text ends with the part
abbrev pub EndsWith : List ℕ → List ℕ → Type 0
EndsWith text part = (length part ≤ length text) × OccursAt text part (length text - length part)

-- the byte is nowhere in the text
abbrev pub Lacks : List ℕ → ℕ → Type 0
Lacks text byte = (k : ℕ) → k < length text → slice_index text k ≢ byte

-- the text is a reference name
pub record IsRefName (text : List ℕ) : Type 0 where
  pub begins : text ≢ codes "HEAD" → BeginsWith text (codes "refs/")
  pub at_most : length text ≤ 32000
  pub no_empty_component : ¬ Contains text (codes "//")
  pub no_component_from_dot : ¬ Contains text (codes "/.")
  pub no_component_to_lock : ¬ Contains text (codes ".lock/")
  pub no_two_dots : ¬ Contains text (codes "..")
  pub no_at_brace : ¬ Contains text (codes "@{")
  pub no_slash_at_end : ¬ EndsWith text (codes "/")
  pub no_dot_at_end : ¬ EndsWith text (codes ".")
  pub no_lock_at_end : ¬ EndsWith text (codes ".lock")
  pub no_control : (k : ℕ) → k < length text → 32 ≤ slice_index text k
  pub no_space : Lacks text 32
  pub no_asterisk : Lacks text 42
  pub no_colon : Lacks text 58
  pub no_question_mark : Lacks text 63
  pub no_open_bracket : Lacks text 91
  pub no_backslash : Lacks text 92
  pub no_caret : Lacks text 94
  pub no_tilde : Lacks text 126
  pub no_delete : Lacks text 127
