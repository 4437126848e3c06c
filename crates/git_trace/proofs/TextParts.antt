-- The lines of a text in two parts.
use Rattle.std.proofs.Common.{◌≡◌, ℕ, ◌+◌, ◌==◌, Bool, true, false, ◌||◌, nat_lt, List, [], ◌∷◌, ◌++◌, length, refl, ap, ◌∙◌}
use Rattle.std.specs.List.{list_any}
use Rattle.std.proofs.lemmas.List.Folds.{list_any-append}
use Rattle.std.proofs.lemmas.Grind.{flat_map-append}
use Rattle.git_trace.specs.declared.shown_lines.Look.{Look}
use Rattle.git_trace.specs.ShownLines.{shown_line}
use Rattle.git_trace.specs.TraceTexts.{has_long, is_packet_line, left_after, lines_after, longest_line, shown_lines}

pub lines_joined : (begun s t : List ℕ) → lines_after begun (s ++ t) ≡ lines_after begun s ++ lines_after (left_after begun s) t
lines_joined begun [] t = refl
lines_joined begun (b ∷ s) t = at (lines_joined [] s t) (lines_joined (begun ++ b ∷ []) s t) (b == 10) refl where
  at : lines_after [] (s ++ t) ≡ lines_after [] s ++ lines_after (left_after [] s) t
      → lines_after (begun ++ b ∷ []) (s ++ t) ≡ lines_after (begun ++ b ∷ []) s ++ lines_after (left_after (begun ++ b ∷ []) s) t
      → (ends : Bool) → (b == 10) ≡ ends → lines_after begun (b ∷ s ++ t) ≡ lines_after begun (b ∷ s) ++ lines_after (left_after begun (b ∷ s)) t
  at next on true e = rw (e) (ap (λ (l : List (List ℕ)). begun ∷ l) next)
  at next on false e = rw (e) on

pub left_joined : (begun s t : List ℕ) → left_after begun (s ++ t) ≡ left_after (left_after begun s) t
left_joined begun [] t = refl
left_joined begun (b ∷ s) t = at (left_joined [] s t) (left_joined (begun ++ b ∷ []) s t) (b == 10) refl where
  at : left_after [] (s ++ t) ≡ left_after (left_after [] s) t
      → left_after (begun ++ b ∷ []) (s ++ t) ≡ left_after (left_after (begun ++ b ∷ []) s) t
      → (ends : Bool) → (b == 10) ≡ ends → left_after begun (b ∷ s ++ t) ≡ left_after (left_after begun (b ∷ s)) t
  at next on true e = rw (e) next
  at next on false e = rw (e) on

pub or_joined : (a b c : Bool) → (a || (b || c)) ≡ ((a || b) || c)
or_joined true b c = refl
or_joined false b c = refl

pub long_joined : (begun s t : List ℕ) → has_long begun (s ++ t) ≡ (has_long begun s || has_long (left_after begun s) t)
long_joined begun [] t = refl
long_joined begun (b ∷ s) t = at (long_joined [] s t) (long_joined (begun ++ b ∷ []) s t) (b == 10) refl where
  at : has_long [] (s ++ t) ≡ (has_long [] s || has_long (left_after [] s) t)
      → has_long (begun ++ b ∷ []) (s ++ t) ≡ (has_long (begun ++ b ∷ []) s || has_long (left_after (begun ++ b ∷ []) s) t)
      → (ends : Bool) → (b == 10) ≡ ends → has_long begun (b ∷ s ++ t) ≡ (has_long begun (b ∷ s) || has_long (left_after begun (b ∷ s)) t)
  at next on true e = rw (e) next
  at next on false e =
      rw (e) (ap (λ (x : Bool). nat_lt longest_line (length begun + 1) || x) on
      ∙ or_joined (nat_lt longest_line (length begun + 1)) (has_long (begun ++ b ∷ []) s) (has_long (left_after (begun ++ b ∷ []) s) t))

pub shown_joined : (look : Look) (begun s t : List ℕ)
    → shown_lines look (lines_after begun (s ++ t)) ≡ shown_lines look (lines_after begun s) ++ shown_lines look (lines_after (left_after begun s) t)
shown_joined look begun s t =
    ap (shown_lines look) (lines_joined begun s t)
    ∙ flat_map-append (shown_line look) (lines_after begun s) (lines_after (left_after begun s) t)

pub packets_joined : (begun s t : List ℕ) → list_any is_packet_line (lines_after begun (s ++ t))
    ≡ (list_any is_packet_line (lines_after begun s) || list_any is_packet_line (lines_after (left_after begun s) t))
packets_joined begun s t =
    ap (list_any is_packet_line) (lines_joined begun s t)
    ∙ list_any-append is_packet_line (lines_after begun s) (lines_after (left_after begun s) t)
