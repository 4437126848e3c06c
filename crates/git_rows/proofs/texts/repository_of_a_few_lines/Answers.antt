use Rattle.std.proofs.Common.{[], ◌∷◌, codes, refl, ap}
use Rattle.git_names.specs.declared.object_format.Format.TheVariants.{Sha1}
use Rattle.git_server.specs.Lists.{Lists}
use Rattle.git_server.specs.Objects.{size_among}
use Rattle.git_repository.specs.Packs.{no_packs}
use Rattle.git_repository.proofs.TextLaws.{one_repository}
use Rattle.git_rows.specs.Worked.{all_a, name_a}
use Rattle.git_rows.specs.WorkedTexts.{lists_of_size, repository_text}
use Rattle.git_rows.proofs.Attributes.{target_passes}
use Rattle.git_rows.proofs.NamesByComputing.{head_is_name, ref_by}
use Rattle.git_rows.proofs.ObjectNamesByComputing.{all_a_is_name}
use Rattle.git_rows.proofs.RepositoryTexts.{whole_text}
use Rattle.git_rows.proofs.texts.repository_of_a_few_lines.Goals as goal

pub returns-clause-read : goal.returns-clause-read
returns-clause-read c = whole_text

pub returns-clause-unborn_head : goal.returns-clause-unborn_head
returns-clause-unborn_head c = record {
  value = codes "unborn HEAD symref-target:refs/x";
  spelled = refl;
  holds = record {
    id = codes "unborn";
    attributes = codes "symref-target:refs/x" ∷ [];
    words = refl;
    id_is = refl;
    name_is = head_is_name;
    attributes_are = record { passes = (target_passes Sha1 (codes "refs/x") (ref_by (codes "refs/x") refl refl), tt); target_is = refl; peeled_is = refl };
  };
}

pub returns-clause-no_longer_shallow : goal.returns-clause-no_longer_shallow
returns-clause-no_longer_shallow c = record { value = all_a; spelled = refl; holds = all_a_is_name }

pub returns-clause-not_of_another_size : goal.returns-clause-not_of_another_size
returns-clause-not_of_another_size c = λ h.
    let same = ap (λ (lists : Lists). size_among lists.objects name_a)
    (one_repository repository_text no_packs (lists_of_size 21) (lists_of_size 12) h whole_text) in
    cc
