-- Lines that are copied in parts.
use Rattle.std.proofs.Common.{arith, ◌≡◌, ℕ, ◌+◌, ◌<◌, ◌≤◌, ◌-◌, min, true, List, [], ◌∷◌, ◌++◌, take, drop, length, refl, sym, ap, ◌∙◌, subst, append_assoc}
use Rattle.std.proofs.Common.{append-nil}
use Rattle.std.proofs.Math.Seq.{take-add}
use Rattle.std.proofs.lemmas.List.{length-drop, length-take-le, take-append-drop, take_all}
use Rattle.std.specs.Global.{Global}
use Rattle.git2show_lib.specs.Machine.Checker.{CarriesLines, Checks, Fed, Leads, StaysOpened, is_needed, lent_by, needed_by, needed_of}
use Rattle.git2show_lib.specs.declared.checker.Checker.{Checker}
use Rattle.git2show_lib.specs.declared.checker.Stream.{Stream}
use Rattle.git2show_lib.specs.declared.checker.Stream.TheVariants.{Requests, Responses}
use Rattle.gitwire.specs.CheckerAnswers.{CopiesLines, Gives, UsesBy, rest_of}
use Rattle.gitwire.specs.declared.judge.Judge.{Judge}

-- the slice of the lines that begins there
pub rest_is : (lines lent : List ℕ) (copied : ℕ) → lines ≡ lent → take (length lines - copied) (drop copied lines) ≡ drop copied lent
rest_is lines lent copied same =
    take_all (length lines - copied) (drop copied lines) (omega (arith, length-drop copied lines)) ∙ ap (drop copied) same

-- ---- bytes of a stream are used, or its end, where no line waits

nothing_lent : (c : Checker Global) (lines : List ℕ) (stream : Stream) → is_needed stream (needed_by c lines) ≡ true → lines ≡ []
nothing_lent c [] stream needs = refl
nothing_lent c (byte ∷ lines) Requests needs = absurd (cc)
nothing_lent c (byte ∷ lines) Responses needs = absurd (cc)

pub none_copied : (judge : Judge) (stream : Stream) → is_needed stream (needed_of judge.checker) ≡ true → judge.copied ≡ 0
none_copied judge stream needs =
    omega (arith, judge.within, ap length (nothing_lent judge.checker (lent_by judge.checker) stream needs))

pub uses_on : (stream : Stream) (step : Fed → Fed) (old new : Judge) → old.copied ≡ 0 → new.copied ≡ 0 → Leads stream step old.checker new.checker
    → UsesBy stream step old new
uses_on stream step old new none still leads t limit requests responses given h = record {
  taken = h.taken;
  given_is =
      h.given_is ∙ ap (λ (n : ℕ). h.taken ++ take n (lent_by old.checker)) none ∙ ap (λ (n : ℕ). h.taken ++ take n (lent_by new.checker)) (sym still);
  checks = leads t limit requests responses h.taken h.checks;
}

-- ---- lines are copied

-- all that was left is copied, and then the lines are taken
pub gives_last : (old new : Judge) (count : ℕ) → length (rest_of old) ≤ count → new.copied ≡ 0
    → CarriesLines old.checker new.checker → Gives (take count (rest_of old)) old new
gives_last old new count all none takes t limit requests responses given h =
    let lent = lent_by old.checker in
    record {
      taken = h.taken ++ lent;
      given_is =
          ap (λ (l : List ℕ). l ++ take count (rest_of old)) h.given_is
          ∙ ap (λ (l : List ℕ). (h.taken ++ take old.copied lent) ++ l) (take_all count (rest_of old) all)
          ∙ append_assoc h.taken (take old.copied lent) (rest_of old)
          ∙ ap (λ (l : List ℕ). h.taken ++ l) (take-append-drop old.copied lent) ∙ sym (append-nil (h.taken ++ lent))
          ∙ ap (λ (n : ℕ). (h.taken ++ lent) ++ take n (lent_by new.checker)) (sym none);
      checks = takes t limit requests responses h.taken h.checks;
    }

-- a part of it is
pub gives_more : (old new : Judge) (count : ℕ) → new.checker ≡ old.checker → new.copied ≡ old.copied + count
    → Gives (take count (rest_of old)) old new
gives_more old new count same more t limit requests responses given h =
    let lent = lent_by old.checker in
    record {
      taken = h.taken;
      given_is =
          ap (λ (l : List ℕ). l ++ take count (rest_of old)) h.given_is
          ∙ append_assoc h.taken (take old.copied lent) (take count (rest_of old))
          ∙ ap (λ (l : List ℕ). h.taken ++ l) (sym (take-add old.copied count lent))
          ∙ ap (λ (n : ℕ). h.taken ++ take n lent) (sym more)
          ∙ ap (λ (c : Checker Global). h.taken ++ take new.copied (lent_by c)) (sym same);
      checks = subst (λ (c : Checker Global). Checks t limit requests responses h.taken c) (sym same) h.checks;
    }

-- as many bytes as fit are at the front of the buffer
pub copies : (old new : Judge) (buffer filled : List ℕ) (count : ℕ) → 0 < length (lent_by old.checker)
    → old.copied ≤ length (lent_by old.checker) - 1 → 0 < length buffer → count ≡ min (length (rest_of old)) (length buffer)
    → filled ≡ take count (rest_of old) ++ drop count buffer → Gives (take count (rest_of old)) old new → StaysOpened old.checker new.checker
    → CopiesLines old buffer count filled new
copies old new buffer filled count waits within space least is gives stays =
    let left = length-drop old.copied (lent_by old.checker) in
    let count_is = length-take-le count (rest_of old) (omega (arith, least)) in
    record {
      count_is = least;
      some = omega (arith, least, left, waits, within, space);
      buffer_is = is ∙ ap (λ (n : ℕ). take count (rest_of old) ++ drop n buffer) (sym count_is);
      gives = gives;
      stays_opened = stays;
    }
