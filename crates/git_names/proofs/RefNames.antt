-- The rules of reference names, stated as which byte may follow which bytes.
use Rattle.std.proofs.Common.{◌≡◌, ℕ, ◌+◌, ◌-◌, ◌<◌, ◌≤◌, List, [], ◌∷◌, ◌++◌, ◌≢◌, length, slice_index, take, refl, sym, ap, ◌∙◌, inl, inr, arith, codes}
use Rattle.std.proofs.lemmas.Bool.{cases_lt}
use Rattle.std.proofs.lemmas.List.{get_or_append_left, get_or-take, length-append, length-take-le}
use Rattle.std.proofs.Math.Seq.{get_or-append_right}
use Rattle.bstr.specs.Find.{OccursAt}
use Rattle.git_names.specs.NextByte.{MayFollow}
use Rattle.git_names.specs.RefName.{BeginsWith, EndsWith, IsRefName}

-- a byte after a part that ends before it
occurs_longer : (text part : List ℕ) (c k : ℕ) → k < length text → slice_index text k ≡ c → EndsWith (take k text) part
    → OccursAt text (part ++ c ∷ []) (k - length part)
occurs_longer text part c k lt is h =
    let long = length-take-le k text (omega arith) in
    let size = length-append part (c ∷ []) in
    let short : length part ≤ k = omega arith in
    record {
      fits = omega arith;
      reads = λ j below. elim (cases_lt j (length part)) [
        | inl front ↦
            let place : k - length part + j < k = omega arith in
            let same : length (take k text) - length part + j ≡ k - length part + j = omega arith in
            rw get_or_append_left (
            sym (get_or-take k text (k - length part + j) 0 place)
            ∙ ap (λ (n : ℕ). slice_index (take k text) n) (sym same) ∙ h.1.reads j front
            )
        | inr back ↦
            let last : k - length part + j ≡ k = omega arith in
            let end : j - length part ≡ 0 = omega arith in
            rw (last, get_or-append_right part (c ∷ []) j 0 back, end) is
      ];
    }

-- if a part with a byte after it occurs, the byte is in the text, and the text before it ends with the part
ends_before : (text part : List ℕ) (c j : ℕ) → OccursAt text (part ++ c ∷ []) j
    → (j + length part < length text) × (slice_index text (j + length part) ≡ c) × EndsWith (take (j + length part) text) part
ends_before text part c j h =
    let size = length-append part (c ∷ []) in
    let within : j + length part < length text = let fits = h.fits in omega arith in
    let long = length-take-le (j + length part) text (omega arith) in
    let start : length (take (j + length part) text) - length part ≡ j = omega arith in
    let end : length part - length part ≡ 0 = omega arith in (
      within,
      h.reads (length part) (omega arith) ∙ rw (get_or-append_right part (c ∷ []) (length part) 0 (omega arith), end) refl,
      (
        omega arith,
        record {
          fits = omega arith;
          reads = λ i below.
              let place : j + i < j + length part = omega arith in
              rw (start, get_or-take (j + length part) text (j + i) 0 place) (
              h.reads i (omega arith) ∙ get_or_append_left part (c ∷ []) 0 i below
              );
        },
      ),
    )

-- each byte of a reference name may follow those before it
pub follows_in_name : (text : List ℕ) → IsRefName text → (k : ℕ) → k < length text → MayFollow (take k text) (slice_index text k)
follows_in_name text h k lt = record {
  allowed = record {
    no_control = h.no_control k lt;
    no_space = h.no_space k lt;
    no_asterisk = h.no_asterisk k lt;
    no_colon = h.no_colon k lt;
    no_question_mark = h.no_question_mark k lt;
    no_open_bracket = h.no_open_bracket k lt;
    no_backslash = h.no_backslash k lt;
    no_caret = h.no_caret k lt;
    no_tilde = h.no_tilde k lt;
    no_delete = h.no_delete k lt;
  };
  no_empty_component = λ is ends. h.no_empty_component (_, occurs_longer text (codes "/") 47 k lt is ends);
  no_component_to_lock = λ is ends. h.no_component_to_lock (_, occurs_longer text (codes ".lock") 47 k lt is ends);
  no_component_from_dot = λ is ends. h.no_component_from_dot (_, occurs_longer text (codes "/") 46 k lt is ends);
  no_two_dots = λ is ends. h.no_two_dots (_, occurs_longer text (codes ".") 46 k lt is ends);
  no_at_brace = λ is ends. h.no_at_brace (_, occurs_longer text (codes "@") 123 k lt is ends);
}

-- a slash may follow a whole component
pub slash_follows : (front : List ℕ) → ¬ EndsWith front (codes "/") → ¬ EndsWith front (codes ".lock") → MayFollow front 47
slash_follows front no_slash no_lock = record {
  allowed = record {
    no_control = omega arith;
    no_space = omega arith;
    no_asterisk = omega arith;
    no_colon = omega arith;
    no_question_mark = omega arith;
    no_open_bracket = omega arith;
    no_backslash = omega arith;
    no_caret = omega arith;
    no_tilde = omega arith;
    no_delete = omega arith;
  };
  no_empty_component = λ _. no_slash;
  no_component_to_lock = λ _. no_lock;
  no_component_from_dot = λ is. absurd (omega arith);
  no_two_dots = λ is. absurd (omega arith);
  no_at_brace = λ is. absurd (omega arith);
}

-- so it may follow a reference name
pub slash_follows_name : (text : List ℕ) → IsRefName text → MayFollow text 47
slash_follows_name text h = slash_follows text h.no_slash_at_end h.no_lock_at_end

-- each byte may follow those before it
abbrev pub AllFollow : List ℕ → Type 0
AllFollow text = (k : ℕ) → k < length text → MayFollow (take k text) (slice_index text k)

-- a part with a byte after it does not occur if the byte may not follow the part
lacks_part : (text part : List ℕ) (c : ℕ) → AllFollow text
    → ((front : List ℕ) (byte : ℕ) → MayFollow front byte → byte ≡ c → ¬ EndsWith front part)
    → (j : ℕ) → ¬ OccursAt text (part ++ c ∷ []) j
lacks_part text part c all rule j h =
    let stands = ends_before text part c j h in
    rule (take (j + length part) text) (slice_index text (j + length part)) (all (j + length part) stands.0) stands.1 stands.2

-- the rules of reference names
pub ref_name_from : (text : List ℕ) → (text ≢ codes "HEAD" → BeginsWith text (codes "refs/")) → length text ≤ 32000
    → AllFollow text → ¬ EndsWith text (codes ".") → MayFollow text 47 → IsRefName text
ref_name_from text begins most all dot slash = record {
  begins = begins;
  at_most = most;
  no_empty_component = λ found. lacks_part text (codes "/") 47 all (λ front byte h. h.no_empty_component) found.0 found.1;
  no_component_from_dot = λ found. lacks_part text (codes "/") 46 all (λ front byte h. h.no_component_from_dot) found.0 found.1;
  no_component_to_lock = λ found. lacks_part text (codes ".lock") 47 all (λ front byte h. h.no_component_to_lock) found.0 found.1;
  no_two_dots = λ found. lacks_part text (codes ".") 46 all (λ front byte h. h.no_two_dots) found.0 found.1;
  no_at_brace = λ found. lacks_part text (codes "@") 123 all (λ front byte h. h.no_at_brace) found.0 found.1;
  no_slash_at_end = slash.no_empty_component refl;
  no_dot_at_end = dot;
  no_lock_at_end = slash.no_component_to_lock refl;
  no_control = λ k lt. (all k lt).allowed.no_control;
  no_space = λ k lt. (all k lt).allowed.no_space;
  no_asterisk = λ k lt. (all k lt).allowed.no_asterisk;
  no_colon = λ k lt. (all k lt).allowed.no_colon;
  no_question_mark = λ k lt. (all k lt).allowed.no_question_mark;
  no_open_bracket = λ k lt. (all k lt).allowed.no_open_bracket;
  no_backslash = λ k lt. (all k lt).allowed.no_backslash;
  no_caret = λ k lt. (all k lt).allowed.no_caret;
  no_tilde = λ k lt. (all k lt).allowed.no_tilde;
  no_delete = λ k lt. (all k lt).allowed.no_delete;
}
