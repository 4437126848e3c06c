-- How reference names begin.
use Rattle.std.proofs.Common.{◌≡◌, ◌≢◌, ℕ, zero, suc, ◌+◌, ◌<◌, ◌⊎◌, inl, inr, Bool, true, false, List, [], ◌∷◌, ◌++◌, length, slice_index, drop}
use Rattle.std.proofs.Common.{take, codes, refl, sym, ap, ◌∙◌, arith}
use Rattle.std.specs.Str.{bytes_eq}
use Rattle.std.proofs.lemmas.Slice.Eq.{bytes_eq-Decides}
use Rattle.std.proofs.lemmas.List.{ext_get_or, get_or-take, length-take-le, take-append-drop}
use Rattle.git_names.specs.RefName.{BeginsWith, EndsWith, IsRefName}

-- the name is `HEAD`, or it is not
is_head_or_not : (text : List ℕ) (test : Bool) → bytes_eq text (codes "HEAD") ≡ test → (text ≡ codes "HEAD") ⊎ (text ≢ codes "HEAD")
is_head_or_not text true h = inl ((bytes_eq-Decides text (codes "HEAD")).0 h)
is_head_or_not text false h = inr (λ is. let other = (bytes_eq-Decides text (codes "HEAD")).1 is in cc (h, other))

-- a text that begins with a part is that part and the rest
after_part : (text part : List ℕ) → BeginsWith text part → text ≡ part ++ drop (length part) text
after_part text part h =
    let fits = h.fits in
    let long = length-take-le (length part) text (omega arith) in
    let front : take (length part) text ≡ part =
    ext_get_or 0 (take (length part) text) part long (λ i lt.
    let below : i < length part = omega arith in
    let place : 0 + i ≡ i = omega arith in
    get_or-take (length part) text i 0 below ∙ (rw place at (h.reads i below))
    ) in
    sym (take-append-drop (length part) text) ∙ ap (λ (s : List ℕ). s ++ drop (length part) text) front

only_slash : (j : ℕ) → j < 1 → slice_index (codes "refs/") (4 + j) ≡ slice_index (codes "/") j
only_slash zero lt = refl
only_slash (suc j) lt = absurd (omega arith)

-- `refs/` ends with a slash
refs_ends_with_slash : EndsWith (codes "refs/") (codes "/")
refs_ends_with_slash = (omega arith, record { fits = omega arith; reads = only_slash })

-- a name below `refs/` has more bytes after it
more_behind : (text rest : List ℕ) → IsRefName text → text ≡ codes "refs/" ++ rest → 0 < length rest
more_behind text [] h is = absurd (h.no_slash_at_end (rw is refs_ends_with_slash))
more_behind text (b ∷ rest) h is = omega arith

pub beginnings : (text : List ℕ) → IsRefName text → (text ≡ codes "HEAD") ⊎ ((rest : List ℕ) × (text ≡ codes "refs/" ++ rest) × (0 < length rest))
beginnings text h =
    elim (is_head_or_not text (bytes_eq text (codes "HEAD")) refl) [
      | inl head ↦ inl head
      | inr other ↦
          let is = after_part text (codes "refs/") (h.begins other) in
          inr (drop 5 text, is, more_behind text (drop 5 text) h is)
    ]
