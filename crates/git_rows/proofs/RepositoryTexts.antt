-- The text of a repository with a line of each kind.
use Rattle.std.proofs.Common.{◌≡◌, ℕ, ◌+◌, ◌≤◌, List, [], ◌∷◌, ◌++◌, true, codes, refl, arith, sym, subst, length, slice_index_or}
use Rattle.git_names.specs.declared.object_format.Format.TheVariants.{Sha1}
use Rattle.git_msg.specs.declared.Boundary.TheVariants.{Shallow}
use Rattle.git_server.specs.Repository.{comes_before}
use Rattle.git_repository.specs.Packs.{no_packs}
use Rattle.git_repository.specs.RepositoryLines.{IsCount, IsSizedObject, LineContent, boundary, object, ready, reference}
use Rattle.git_repository.specs.RepositoryText.{IsRepositoryText, MayStand, NamesRise, counts_in, names_in, objects_in}
use Rattle.git_rows.specs.Worked.{all_a, name_a}
use Rattle.git_rows.specs.WorkedTexts.{bare_entry, lists_of_size, repository_text}
use Rattle.git_rows.proofs.BareReferences.{head_line, x_line}
use Rattle.git_rows.proofs.NumbersByComputing.{number_by}
use Rattle.git_rows.proofs.ObjectNamesByComputing.{all_a_is_name}

abbrev names : List (List ℕ)
names = codes "HEAD" ∷ codes "refs/x" ∷ []

names_rise : NamesRise names
names_rise k d lt =
    let first : k ≡ 0 = omega arith in
    subst (λ (i : ℕ). comes_before (slice_index_or names i d) (slice_index_or names (i + 1) d) ≡ true) (sym first) refl

-- contents may be in one text if their names rise, and there is one object and one count at most
stands : (content : List LineContent) → NamesRise (names_in content) → length (objects_in content) ≤ 1 → length (counts_in content) ≤ 1 → MayStand content
stands content names objects counts =
    record { rising_names = names; rising_objects = λ k d lt. absurd (omega (arith, objects, lt)); one_count = counts }

object_line : IsSizedObject Sha1 name_a 12 (all_a ++ codes " 12")
object_line = record {
  name = all_a;
  number = codes "12";
  spelled = refl;
  name_is = all_a_is_name;
  number_is = number_by 49 (codes "2") refl;
  in_range = omega arith;
}

ready_line : IsCount 1 (codes "1")
ready_line = record { number_is = number_by 49 [] refl; from_one = omega arith; at_most = omega arith }

pub whole_text : IsRepositoryText repository_text no_packs (lists_of_size 12)
whole_text = record {
  format = Sha1;
  content =
      reference (bare_entry (codes "HEAD")) ∷ reference (bare_entry (codes "refs/x")) ∷ object name_a 12 ∷ ready 1 ∷ boundary (Shallow name_a) ∷ [];
  begins = record {
    others =
        (codes "ref " ++ all_a ++ codes " HEAD") ∷ (codes "ref " ++ all_a ++ codes " refs/x") ∷ (codes "object " ++ all_a ++ codes " 12")
        ∷ codes "ready 1" ∷ (codes "shallow " ++ all_a) ∷ [];
    spelled = refl;
    others_are = (
      (
        (omega arith, record { value = all_a ++ codes " HEAD"; spelled = refl; holds = head_line }),
        stands _ (λ k d lt. absurd (omega arith)) (omega arith) (omega arith),
      ),
      (
        ((omega arith, record { value = all_a ++ codes " refs/x"; spelled = refl; holds = x_line }), stands _ names_rise (omega arith) (omega arith)),
        (
          ((omega arith, record { value = all_a ++ codes " 12"; spelled = refl; holds = object_line }), stands _ names_rise (omega arith) (omega arith)),
          (
            ((omega arith, record { value = codes "1"; spelled = refl; holds = ready_line }), stands _ names_rise (omega arith) (omega arith)),
            (
              ((omega arith, record { value = all_a; spelled = refl; holds = all_a_is_name }), stands _ names_rise (omega arith) (omega arith)),
              tt,
            ),
          ),
        ),
      ),
    );
  };
  lists_are = refl;
}
