-- Texts that are names, by computing.
use Rattle.std.proofs.Common.{◌≡◌, ◌≢◌, ℕ, zero, suc, ◌+◌, ◌-◌, ◌<◌, ◌≤◌, ◌==◌, Bool, true, false, not, nat_le}
use Rattle.std.proofs.Common.{List, length, slice_index, codes, refl, arith, ◌&&◌}
use Rattle.std.proofs.lemmas.Bool.{and_parts}
use Rattle.bstr.specs.Find.{OccursAt}
use Rattle.bstr.specs.Text.{Contains}
use Rattle.git_names.specs.RefName.{BeginsWith, EndsWith, IsRefName, Lacks}
use Rattle.git_rows.proofs.TextsByComputing.{differ, not_true}
use Rattle.git_names.proofs.Tables.{all_pass, all_pass-at}

-- the part occurs in the text at this index
abbrev pub is_at : List ℕ → List ℕ → ℕ → Bool
is_at text part k =
    nat_le (k + length part) (length text) && all_pass (λ j. slice_index text (k + j) == slice_index part j) (length part)

-- a test that each number below n passes
all_pass-from : (test : ℕ → Bool) (n : ℕ) → ((k : ℕ) → k < n → test k ≡ true) → all_pass test n ≡ true
all_pass-from test zero h = refl
all_pass-from test (suc n) h =
    let first : test n ≡ true = h n (omega arith) in
    let others : all_pass test n ≡ true = all_pass-from test n (λ k lt. h k (omega arith)) in
    rw (first, others) refl

same_byte : (a b : ℕ) → (a == b) ≡ true → a ≡ b
same_byte a b h = grind arith

pub occurs : (text part : List ℕ) (k : ℕ) → is_at text part k ≡ true → OccursAt text part k
occurs text part k h =
    let parts = and_parts (nat_le (k + length part) (length text)) (all_pass (λ (j : ℕ). slice_index text (k + j) == slice_index part j) (length part)) h in
    let fits = parts.0 in
    record {
      fits = grind arith;
      reads = λ j lt.
          same_byte (slice_index text (k + j)) (slice_index part j)
          (all_pass-at (λ (i : ℕ). slice_index text (k + i) == slice_index part i) (length part) j parts.1 lt);
    }

pub occurs_not : (text part : List ℕ) (k : ℕ) → is_at text part k ≡ false → ¬ OccursAt text part k
occurs_not text part k h at =
    let fits : nat_le (k + length part) (length text) ≡ true = let le = at.fits in grind arith in
    let same : all_pass (λ (j : ℕ). slice_index text (k + j) == slice_index part j) (length part) ≡ true =
    all_pass-from (λ (j : ℕ). slice_index text (k + j) == slice_index part j) (length part) (λ j lt. let e = at.reads j lt in grind arith) in
    let both : is_at text part k ≡ true = rw (fits, same) refl in
    cc

-- the part occurs nowhere in the text
abbrev pub is_nowhere : List ℕ → List ℕ → Bool
is_nowhere text part = all_pass (λ k. not (is_at text part k)) (suc (length text))

pub contains_not : (text part : List ℕ) → is_nowhere text part ≡ true → ¬ Contains text part
contains_not text part h found =
    let at = found.1 in
    let fits = at.fits in
    occurs_not text part found.0 (not_true (is_at text part found.0)
    (all_pass-at (λ (k : ℕ). not (is_at text part k)) (suc (length text)) found.0 h (omega arith))) at

-- the text does not end with the part
pub ends_not : (text part : List ℕ) → is_at text part (length text - length part) ≡ false → ¬ EndsWith text part
ends_not text part h ends = occurs_not text part (length text - length part) h ends.1

pub ends : (text part : List ℕ) → length part ≤ length text → is_at text part (length text - length part) ≡ true → EndsWith text part
ends text part le h = (le, occurs text part (length text - length part) h)

-- a byte that a name may have
abbrev pub is_name_byte : ℕ → Bool
is_name_byte c =
    nat_le 33 c && not (c == 42) && not (c == 58) && not (c == 63) && not (c == 91) && not (c == 92) && not (c == 94) && not (c == 126)
    && not (c == 127)

-- the properties of such a byte
record BytesOf (c : ℕ) : Type 0 where
  no_control : 32 ≤ c
  no_space : c ≢ 32
  no_asterisk : c ≢ 42
  no_colon : c ≢ 58
  no_question_mark : c ≢ 63
  no_open_bracket : c ≢ 91
  no_backslash : c ≢ 92
  no_caret : c ≢ 94
  no_tilde : c ≢ 126
  no_delete : c ≢ 127

byte_by : (c : ℕ) → is_name_byte c ≡ true → BytesOf c
byte_by c h = record {
  no_control = grind arith;
  no_space = grind arith;
  no_asterisk = grind arith;
  no_colon = grind arith;
  no_question_mark = grind arith;
  no_open_bracket = grind arith;
  no_backslash = grind arith;
  no_caret = grind arith;
  no_tilde = grind arith;
  no_delete = grind arith;
}

-- the rules for a name other than that of its beginning
abbrev pub is_name : List ℕ → Bool
is_name text =
    nat_le (length text) 32000 && all_pass (λ k. is_name_byte (slice_index text k)) (length text) && is_nowhere text (codes "//")
    && is_nowhere text (codes "/.") && is_nowhere text (codes ".lock/") && is_nowhere text (codes "..") && is_nowhere text (codes "@{")
    && not (is_at text (codes "/") (length text - 1)) && not (is_at text (codes ".") (length text - 1))
    && not (is_at text (codes ".lock") (length text - 5))

-- a reference name
pub name_by : (text : List ℕ) → (text ≢ codes "HEAD" → BeginsWith text (codes "refs/")) → is_name text ≡ true → IsRefName text
name_by text begins h =
    let a = and_parts _ _ h in
    let b = and_parts _ _ a.0 in
    let d = and_parts _ _ b.0 in
    let e = and_parts _ _ d.0 in
    let f = and_parts _ _ e.0 in
    let g = and_parts _ _ f.0 in
    let i = and_parts _ _ g.0 in
    let j = and_parts _ _ i.0 in
    let l = and_parts _ _ j.0 in
    let at : (k : ℕ) → k < length text → BytesOf (slice_index text k) =
    λ k lt. byte_by (slice_index text k) (all_pass-at (λ (i : ℕ). is_name_byte (slice_index text i)) (length text) k l.1 lt) in
    record {
      begins = begins;
      at_most = (let most = l.0 in grind arith);
      no_empty_component = contains_not text (codes "//") j.1;
      no_component_from_dot = contains_not text (codes "/.") i.1;
      no_component_to_lock = contains_not text (codes ".lock/") g.1;
      no_two_dots = contains_not text (codes "..") f.1;
      no_at_brace = contains_not text (codes "@{") e.1;
      no_slash_at_end = ends_not text (codes "/") (not_true _ d.1);
      no_dot_at_end = ends_not text (codes ".") (not_true _ b.1);
      no_lock_at_end = ends_not text (codes ".lock") (not_true _ a.1);
      no_control = λ k lt. (at k lt).no_control;
      no_space = λ k lt. (at k lt).no_space;
      no_asterisk = λ k lt. (at k lt).no_asterisk;
      no_colon = λ k lt. (at k lt).no_colon;
      no_question_mark = λ k lt. (at k lt).no_question_mark;
      no_open_bracket = λ k lt. (at k lt).no_open_bracket;
      no_backslash = λ k lt. (at k lt).no_backslash;
      no_caret = λ k lt. (at k lt).no_caret;
      no_tilde = λ k lt. (at k lt).no_tilde;
      no_delete = λ k lt. (at k lt).no_delete;
    }

-- a reference name other than `HEAD`
pub ref_by : (text : List ℕ) → is_at text (codes "refs/") 0 ≡ true → is_name text ≡ true → IsRefName text
ref_by text begins h = name_by text (λ other. occurs text (codes "refs/") 0 begins) h

-- a byte that is nowhere in a text
pub lacks_by : (byte : ℕ) (text : List ℕ) → all_pass (λ k. not (slice_index text k == byte)) (length text) ≡ true → Lacks text byte
lacks_by byte text h k lt e =
    let other : not (slice_index text k == byte) ≡ true = all_pass-at (λ (i : ℕ). not (slice_index text i == byte)) (length text) k h lt in
    grind arith

pub head_is_name : IsRefName (codes "HEAD")
head_is_name = name_by (codes "HEAD") (λ other. absurd (other refl)) refl

pub main_is_none : ¬ IsRefName (codes "main")
main_is_none h = let fits = (h.begins (differ (codes "main") (codes "HEAD") refl)).fits in omega (arith, fits)
