use Rattle.std.proofs.Common.{◌≡◌, ◌≢◌, [], ◌∷◌, codes, refl, arith, inl, inr}
use Rattle.git_names.specs.declared.object_format.Format.{Format}
use Rattle.git_names.specs.declared.object_format.Format.TheVariants.{Sha1, Sha256}
use Rattle.git_msg.specs.declared.Boundary.TheVariants.{Shallow, Unshallow}
use Rattle.git_repository.specs.Packs.{no_packs}
use Rattle.git_repository.specs.RepositoryLines.{HasNoContent, boundary, format_line, object, ready, reference, unborn}
use Rattle.git_repository.specs.RepositoryText.{IsFirstBad}
use Rattle.git_repository.proofs.TextLaws.{one_first_bad, repository_or_bad}
use Rattle.git_rows.specs.Worked.{name_a}
use Rattle.git_rows.specs.WorkedTexts.{lists_of_size, repository_text}
use Rattle.git_rows.proofs.RepositoryTexts.{whole_text}
use Rattle.git_rows.proofs.TextsByComputing.{begins_otherwise, differ}
use Rattle.git_rows.proofs.texts.repository_lines_refused.Goals as goal

no_line : (format : Format) → [] ≢ format_line format
no_line Sha1 = differ [] (codes "format sha1") refl
no_line Sha256 = differ [] (codes "format sha256") refl

nothing_stated : HasNoContent Sha1 (codes "x")
nothing_stated (reference entry) conveys = begins_otherwise (codes "ref ") (codes "x") refl conveys.value conveys.spelled
nothing_stated (unborn target) conveys = begins_otherwise (codes "ref ") (codes "x") refl conveys.value conveys.spelled
nothing_stated (object id size) conveys = begins_otherwise (codes "object ") (codes "x") refl conveys.value conveys.spelled
nothing_stated (ready count) conveys = begins_otherwise (codes "ready ") (codes "x") refl conveys.value conveys.spelled
nothing_stated (boundary (Shallow id)) conveys = begins_otherwise (codes "shallow ") (codes "x") refl conveys.value conveys.spelled
nothing_stated (boundary (Unshallow id)) conveys = begins_otherwise (codes "unshallow ") (codes "x") refl conveys.value conveys.spelled

bad_word : IsFirstBad (codes "format sha1\nx\n") 2
bad_word = inr (
  Sha1,
  record {
    others = codes "x" ∷ [];
    spelled = refl;
    others_are = record {
      front = [];
      at = codes "x";
      back = [];
      items = [];
      whole = refl;
      taken = tt;
      why = record { at_number = refl; refused = λ next may. nothing_stated next may.0.1 };
    };
  },
)

pub returns-clause-no_format : goal.returns-clause-no_format
returns-clause-no_format c = inl (record { at_first = refl; first = []; others = []; whole = refl; no_format = no_line })

pub returns-clause-no_word : goal.returns-clause-no_word
returns-clause-no_word c = bad_word

pub returns-clause-nothing_stated : goal.returns-clause-nothing_stated
returns-clause-nothing_stated c = nothing_stated

pub returns-clause-not_the_format : goal.returns-clause-not_the_format
returns-clause-not_the_format c = λ h.
    let number : 1 ≡ 2 = one_first_bad (codes "format sha1\nx\n") 1 2 h bad_word in
    omega (arith, number)

pub returns-clause-not_in_a_whole_text : goal.returns-clause-not_in_a_whole_text
returns-clause-not_in_a_whole_text c = λ h. repository_or_bad repository_text no_packs (lists_of_size 12) 2 whole_text h

pub returns-clause-names_that_fall : goal.returns-clause-names_that_fall
returns-clause-names_that_fall c = λ h. let rises = h.rising_names 0 [] (omega arith) in cc

pub returns-clause-one_name_twice : goal.returns-clause-one_name_twice
returns-clause-one_name_twice c = λ h. let rises = h.rising_names 0 [] (omega arith) in cc

pub returns-clause-two_counts : goal.returns-clause-two_counts
returns-clause-two_counts c = λ h. let count = h.one_count in omega (arith, count)

pub returns-clause-objects_that_fall : goal.returns-clause-objects_that_fall
returns-clause-objects_that_fall c = λ h. let rises = h.rising_objects 0 (name_a, 1) (omega arith) in cc
