-- Texts with shortened object names, and columns.
use Rattle.std.proofs.Common.{◌≡◌, ℕ, ◌+◌, ◌-◌, ◌<◌, ◌≤◌, Bool, true, false, ◌==◌, ◌&&◌, max, suc, nat_le, List, [], ◌∷◌, ◌++◌, length, take, drop}
use Rattle.std.proofs.Common.{zero-add, refl, sym, ap, ◌∙◌, arith, append_assoc, if◌then◌else◌}
use Rattle.std.proofs.lemmas.List.{drop-drop, length-drop, take-take}
use Rattle.std.proofs.Math.Seq.{take-nil}
use Rattle.std.proofs.lemmas.Bool.{leb-true, leb-false, eqb-true, eqb-false}
use Rattle.std.proofs.lemmas.Grind.{common_steps}
use Rattle.git_names.specs.Digits.{is_lower_digit}
use Rattle.git2show_lib.specs.PrettyLines.{is_name_length, run_length, run_shown, shortened, shortened_after}

-- what stays of a run that is read up to k
abbrev stays : ℕ → Bool → List ℕ → List ℕ
stays k name s = if name then take (12 - k) s else s

stays_none : (k : ℕ) (name : Bool) → stays k name [] ≡ []
stays_none k true = take-nil (12 - k)
stays_none k false = refl

one_more : (k : ℕ) (late name : Bool) (b : ℕ) (s rest : List ℕ) → nat_le 12 k ≡ late
    → (if late && name then [] else b ∷ []) ++ (stays (k + 1) name s ++ rest) ≡ stays k name (b ∷ s) ++ rest
one_more k true true b s rest e =
    let past = leb-true 12 k e in
    let none : 12 - (k + 1) ≡ 0 = omega (arith, past) in
    let none_before : 12 - k ≡ 0 = omega (arith, past) in
    rw (none, none_before) refl
one_more k false true b s rest e =
    let more : 12 - k ≡ suc (12 - (k + 1)) = omega (arith, leb-false 12 k e) in
    rw more refl
one_more k true false b s rest e = refl
one_more k false false b s rest e = refl

run_cut : (k : ℕ) (s : List ℕ)
    → shortened_after k s ≡ stays k (is_name_length (k + run_length s)) (take (run_length s) s) ++ shortened_after 0 (drop (run_length s) s)
run_cut k [] = grind (arith, common_steps)
run_cut k (b ∷ s) = at (run_cut (k + 1) s) (is_lower_digit b) refl where
  at : shortened_after (k + 1) s ≡ stays (k + 1) (is_name_length ((k + 1) + run_length s)) (take (run_length s) s) ++ shortened_after 0 (drop (run_length s) s)
      → (digit : Bool) → is_lower_digit b ≡ digit
      → shortened_after k (b ∷ s) ≡ stays k (is_name_length (k + run_length (b ∷ s))) (take (run_length (b ∷ s)) (b ∷ s))
      ++ shortened_after 0 (drop (run_length (b ∷ s)) (b ∷ s))
  at so true e =
      let sum : (k + 1) + run_length s ≡ k + (1 + run_length s) = omega arith in
      let rest = rw sum at so in
      let next : 1 + run_length s ≡ suc (run_length s) = omega arith in
      let more =
      one_more k (nat_le 12 k) (is_name_length (k + (1 + run_length s))) b (take (run_length s) s) (shortened_after 0 (drop (run_length s) s)) refl in
      rw (e, rest, next) (rw next at more)
  at so false e = rw (e, e) (ap (λ (l : List ℕ). l ++ b ∷ shortened_after 0 s) (sym (stays_none k (is_name_length (k + 0)))))

name_least : (n : ℕ) → is_name_length n ≡ true → 12 ≤ n
name_least n is = grind (arith)

whole : (s : List ℕ) (name : Bool) → is_name_length (run_length s) ≡ name
    → take (if name then 12 else run_length s) s ++ shortened (drop (run_length s) s) ≡ shortened s
whole s true is = sym (rw (zero-add (run_length s), is, take-take 12 (run_length s) s (name_least (run_length s) is)) at (run_cut 0 s))
whole s false is = sym (rw (zero-add (run_length s), is) at (run_cut 0 s))

-- the front of a text: a run, or the byte that stands where none is
front_by : (s : List ℕ) (none name : Bool) → 0 < length s → (run_length s == 0) ≡ none → is_name_length (run_length s) ≡ name
    → take (if none then 1 else (if name then 12 else run_length s)) s ++ shortened (drop (max (run_length s) 1) s) ≡ shortened s
front_by [] none name some e f = absurd (omega (arith, some))
front_by (b ∷ s) true name some e f = at (is_lower_digit b) refl e where
  at : (digit : Bool) → is_lower_digit b ≡ digit → (run_length (b ∷ s) == 0) ≡ true
      → take 1 (b ∷ s) ++ shortened (drop (max (run_length (b ∷ s)) 1) (b ∷ s)) ≡ shortened (b ∷ s)
  at true is zero = absurd (omega (arith, eqb-true (run_length (b ∷ s)) 0 zero, run_is))
    where
      run_is : run_length (b ∷ s) ≡ 1 + run_length s
      run_is = rw is refl
  at false is zero = rw is refl
front_by s false name some e f =
    let least : 1 ≤ run_length s = omega (arith, eqb-false (run_length s) 0 e) in
    let same : max (run_length s) 1 ≡ run_length s = omega (arith, least) in
    rw same (whole s name f)

pub run_front : (s : List ℕ) → 0 < length s → take (run_shown (run_length s)) s ++ shortened (drop (max (run_length s) 1) s) ≡ shortened s
run_front s some = front_by s (run_length s == 0) (is_name_length (run_length s)) some refl refl

pub run_on : (text done out : List ℕ) (at n : ℕ) → at < length text → n ≡ run_length (drop at text) → done ++ shortened (drop at text) ≡ shortened text
    → out ≡ done ++ take ((at + run_shown n) - at) (drop at text) → out ++ shortened (drop (at + max n 1) text) ≡ shortened text
run_on text done out at n below is so_far put =
    let shown : (at + run_shown n) - at ≡ run_shown n = omega arith in
    let front = rw (← is, drop-drop) at (run_front (drop at text) (omega (arith, below, length-drop at text))) in
    rw (put, shown, append_assoc) (ap (λ (l : List ℕ). done ++ l) front ∙ so_far)
