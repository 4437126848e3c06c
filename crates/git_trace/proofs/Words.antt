-- The word before the parts of a line.
use Rattle.std.proofs.Common.{◌≡◌, ℕ, ◌+◌, ◌<◌, true, false, Some, List, length, drop, nat_eq, codes, refl, sym, ap, ◌∙◌}
use Rattle.std.specs.List.{starts_with}
use Rattle.std.proofs.lemmas.List.{drop_more, drop-drop}
use Rattle.git_trace.specs.TraceLines.{after_word}

pub word_here : (line : List ℕ) (at : ℕ) → at < length line → starts_with nat_eq (drop at line) (codes "packet: ") ≡ true
    → after_word (drop at line) ≡ Some (drop (at + 8) line)
word_here line at below is =
    let front = drop_more line at 0 below in
    let here = rw front at is in
    rw (front, here) (ap Some (sym (ap (drop 8) front) ∙ drop-drop _ _ line))

pub word_later : (line : List ℕ) (at : ℕ) → at < length line → starts_with nat_eq (drop at line) (codes "packet: ") ≡ false
    → after_word (drop at line) ≡ after_word (drop (at + 1) line)
word_later line at below is =
    let front = drop_more line at 0 below in
    let here = rw front at is in
    rw (front, here) refl
