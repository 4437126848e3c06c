-- A line that is gathered part by part, in a buffer that has space for it.
use Rattle.std.proofs.Common.{arith, ◌≡◌, ℕ, ◌+◌, ◌<◌, ◌≤◌, List, [], ◌++◌, drop, length, codes, slice_index_or, refl, sym, ap, ◌∙◌, append_assoc, append-nil}
use Rattle.std.proofs.lemmas.List.{drop_more, drop_all}
use Rattle.git_client.specs.Machine.LineParts.{line_shown, part_shown, space_for, space_of}
use Rattle.git_client.specs.declared.line.Part.{Part}

-- the parts before an index were put, and there is space for the others
pub record RowPut (old : List ℕ) (parts : List Part) (at : ℕ) (new : List ℕ) : Type 0 where
  pub put : List ℕ
  pub is : new ≡ old ++ put
  pub left : line_shown parts ≡ put ++ line_shown (drop at parts)
  pub space : length new + space_for (drop at parts) ≤ 327856

pub row_begun : (old : List ℕ) (parts : List Part) → length old + space_for parts ≤ 327856 → RowPut old parts 0 old
row_begun old parts space = record { put = []; is = sym (append-nil old); left = refl; space = space }

module _ {old mid : List ℕ} {parts : List Part} {at : ℕ} (part : Part) (some : RowPut old parts at mid) (within : at < length parts)
    (is : part ≡ slice_index_or parts at part) where
  space_left : space_for (drop at parts) ≡ space_of part + space_for (drop (at + 1) parts)
  space_left =
      ap space_for (drop_more parts at part within) ∙ ap (λ (p : Part). space_of p + space_for (drop (at + 1) parts)) (sym is)

  pub part_space : length mid + space_of part ≤ 327856
  part_space = omega (arith, some.space, space_left)

  pub row_further : {new : List ℕ} → new ≡ mid ++ part_shown part → length new ≤ length mid + space_of part → RowPut old parts (at + 1) new
  row_further {new} added few = record {
    put = some.put ++ part_shown part;
    is = added ∙ ap (λ (l : List ℕ). l ++ part_shown part) some.is ∙ append_assoc old some.put (part_shown part);
    left = some.left ∙ ap (λ (l : List Part). some.put ++ line_shown l) (drop_more parts at part within)
        ∙ ap (λ (p : Part). some.put ++ (part_shown p ++ line_shown (drop (at + 1) parts))) (sym is)
        ∙ sym (append_assoc some.put (part_shown part) (line_shown (drop (at + 1) parts)));
    space = omega (arith, some.space, space_left, few);
  }

module _ {old mid : List ℕ} {parts : List Part} {at : ℕ} (some : RowPut old parts at mid) (end : length parts ≤ at) where
  pub space_at_end : length mid + 1 ≤ 327856
  space_at_end = omega (arith, some.space, ap space_for (drop_all _ parts end))

  pub row_whole : {new : List ℕ} → new ≡ mid ++ codes "\n" → new ≡ old ++ line_shown parts
  row_whole added =
      added ∙ ap (λ (l : List ℕ). l ++ codes "\n") some.is ∙ append_assoc old some.put (codes "\n")
      ∙ ap (λ (l : List ℕ). old ++ l) (sym (some.left ∙ ap (λ (l : List Part). some.put ++ line_shown l) (drop_all _ parts end)))

-- no bytes are added
pub nothing_added : (lines : List ℕ) {bytes : List ℕ} → bytes ≡ [] → lines ≡ lines ++ bytes
nothing_added lines none = sym (ap (λ (l : List ℕ). lines ++ l) none ∙ append-nil lines)
