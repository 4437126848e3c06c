-- A text is one repository, or has one first bad line.
use Rattle.std.proofs.Common.{arith, ◌≡◌, ℕ, List, [], refl, ap, sym, ◌∙◌, subst, length, inl, inr}
use Rattle.git_names.specs.declared.object_format.Format.{Format}
use Rattle.git_names.specs.declared.object_format.Format.TheVariants.{Sha1, Sha256}
use Rattle.git_server.specs.Lists.{Lists}
use Rattle.git_msg.proofs.ItemLaws.{items_or_bad, one_bad, one_list}
use Rattle.git_msg.proofs.ReferenceLaws.{same_heads}
use Rattle.git_repository.specs.Packs.{PackBytes}
use Rattle.git_repository.specs.RepositoryLines.{LineContent, format_line, lines_of}
use Rattle.git_repository.specs.RepositoryText.{AfterFormat, Begins, HasNoFormat, IsFirstBad, IsRepositoryText, MayCome, lists_of_contents}
use Rattle.git_repository.proofs.LineContents.{one_content}

one_format : (f g : Format) → format_line f ≡ format_line g → f ≡ g
one_format Sha1 Sha1 e = refl
one_format Sha256 Sha256 e = refl
one_format Sha1 Sha256 e = let h : length (format_line Sha1) ≡ length (format_line Sha256) = ap (λ (t : List ℕ). length t) e in absurd (omega (arith, h))
one_format Sha256 Sha1 e = let h : length (format_line Sha256) ≡ length (format_line Sha1) = ap (λ (t : List ℕ). length t) e in absurd (omega (arith, h))

one_next : (format : Format) (before : List LineContent) (line : List ℕ) (a b : LineContent) → MayCome format before line a → MayCome format before line b
    → a ≡ b
one_next format before line a b h k = one_content format line a b h.0.1 k.0.1

-- lines have one format, so what is so of the lines after one is so of those after the other
same_others : (Are Other : Format → List (List ℕ) → Type 0) (f g : Format) (lines : List (List ℕ)) → AfterFormat Are f lines
    → (k : AfterFormat Other g lines) → (f ≡ g) × Are g k.others
same_others Are Other f g lines h k =
    let same = same_heads (format_line f) (format_line g) h.others k.others (sym h.spelled ∙ k.spelled) in
    let format = one_format f g same.0 in
    (format, subst (λ (x : Format). Are x k.others) format (subst (Are f) same.1 h.others_are))

one_beginning : (f g : Format) (lines : List (List ℕ)) (a b : List LineContent) → Begins f lines a → Begins g lines b → (f ≡ g) × (a ≡ b)
one_beginning f g lines a b h k =
    let (format, there) = same_others _ _ f g lines h k in
    (format, one_list (MayCome g) (one_next g) [] k.others a b there k.others_are)

pub one_repository : (text : List ℕ) (packs : PackBytes) (a b : Lists) → IsRepositoryText text packs a → IsRepositoryText text packs b → a ≡ b
one_repository text packs a b h k =
    let same = one_beginning h.format k.format (lines_of text) h.content k.content h.begins k.begins in
    h.lists_are ∙ ap (λ (f : Format). lists_of_contents f h.content packs) same.0 ∙ ap (λ (s : List LineContent). lists_of_contents k.format s packs) same.1
    ∙ sym k.lists_are

-- lines that begin with a format are not without one
format_or_none : (Are : Format → List (List ℕ) → Type 0) (format : Format) (lines : List (List ℕ)) (number : ℕ) → AfterFormat Are format lines
    → HasNoFormat lines number → ⊥
format_or_none Are format lines number h bad =
    bad.no_format format (same_heads bad.first (format_line format) bad.others h.others (sym bad.whole ∙ h.spelled)).0

pub repository_or_bad : (text : List ℕ) (packs : PackBytes) (lists : Lists) (number : ℕ) → IsRepositoryText text packs lists → IsFirstBad text number → ⊥
repository_or_bad text packs lists number h (inl bad) = format_or_none _ h.format (lines_of text) number h.begins bad
repository_or_bad text packs lists number h (inr (format, bad)) =
    items_or_bad (MayCome format) (one_next format) 2 number bad.others h.content (same_others _ _ h.format format (lines_of text) h.begins bad).1
    bad.others_are

pub one_first_bad : (text : List ℕ) (n m : ℕ) → IsFirstBad text n → IsFirstBad text m → n ≡ m
one_first_bad text n m (inl h) (inl k) = h.at_first ∙ sym k.at_first
one_first_bad text n m (inl h) (inr (format, k)) = absurd (format_or_none _ format (lines_of text) n k h)
one_first_bad text n m (inr (format, h)) (inl k) = absurd (format_or_none _ format (lines_of text) m h k)
one_first_bad text n m (inr (f, h)) (inr (format, k)) =
    one_bad (MayCome format) (one_next format) 2 n m k.others (same_others _ _ f format (lines_of text) h k).1 k.others_are
