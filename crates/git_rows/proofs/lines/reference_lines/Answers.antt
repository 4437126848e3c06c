use Rattle.std.proofs.Common.{◌≡◌, ◌∷◌, [], ◌++◌, Some, None, codes, refl, arith, inl, inr, ap}
use Rattle.git_names.specs.RefName.{IsRefName}
use Rattle.git_names.specs.declared.object_format.Format.TheVariants.{Sha1}
use Rattle.git_pkt.specs.declared.fault.Kind.TheVariants.{BadObjectName}
use Rattle.git_msg.specs.References.{Ref, IsReferenceLine, reference_of}
use Rattle.git_msg.proofs.ReferenceLaws.{one_reference}
use Rattle.git_msg.proofs.ReferenceFaults.{reference_or_fault}
use Rattle.git_rows.specs.Worked.{all_a, name_a}
use Rattle.git_rows.proofs.Attributes.{other_passes, peeled_passes, target_passes}
use Rattle.git_rows.proofs.BareReferences.{x_line}
use Rattle.git_rows.proofs.NamesByComputing.{head_is_name, main_is_none, ref_by}
use Rattle.git_rows.proofs.ObjectNamesByComputing.{all_a_is_name}
use Rattle.git_rows.proofs.TextsByComputing.{differ}
use Rattle.git_rows.proofs.lines.reference_lines.Goals as goal

x_is_name : IsRefName (codes "refs/x")
x_is_name = ref_by (codes "refs/x") refl refl

y_is_name : IsRefName (codes "refs/y")
y_is_name = ref_by (codes "refs/y") refl refl

symbolic : IsReferenceLine Sha1 (all_a ++ codes " HEAD symref-target:refs/x") (reference_of (Some name_a) (codes "HEAD") (Some (codes "refs/x")) None)
symbolic = record {
  id = all_a;
  attributes = codes "symref-target:refs/x" ∷ [];
  words = refl;
  id_is = all_a_is_name;
  name_is = head_is_name;
  attributes_are = record { passes = (target_passes Sha1 (codes "refs/x") x_is_name, tt); target_is = refl; peeled_is = refl };
}

twice : IsReferenceLine Sha1 (all_a ++ codes " HEAD symref-target:refs/x later symref-target:refs/y")
    (reference_of (Some name_a) (codes "HEAD") (Some (codes "refs/y")) None)
twice = record {
  id = all_a;
  attributes = codes "symref-target:refs/x" ∷ codes "later" ∷ codes "symref-target:refs/y" ∷ [];
  words = refl;
  id_is = all_a_is_name;
  name_is = head_is_name;
  attributes_are = record {
    passes = (
      target_passes Sha1 (codes "refs/x") x_is_name,
      (other_passes Sha1 (codes "later") refl refl, (target_passes Sha1 (codes "refs/y") y_is_name, tt)),
    );
    target_is = refl;
    peeled_is = refl;
  };
}

pub returns-clause-bare : goal.returns-clause-bare
returns-clause-bare c = x_line

pub returns-clause-symbolic : goal.returns-clause-symbolic
returns-clause-symbolic c = symbolic

pub returns-clause-tag : goal.returns-clause-tag
returns-clause-tag c = record {
  id = all_a;
  attributes = (codes "peeled:" ++ all_a) ∷ [];
  words = refl;
  id_is = all_a_is_name;
  name_is = x_is_name;
  attributes_are = record {
    passes = (peeled_passes Sha1 all_a name_a all_a_is_name, tt);
    target_is = refl;
    peeled_is = (name_a, all_a_is_name, refl);
  };
}

pub returns-clause-last_target : goal.returns-clause-last_target
returns-clause-last_target c = twice

pub returns-clause-unborn : goal.returns-clause-unborn
returns-clause-unborn c = record {
  id = codes "unborn";
  attributes = codes "symref-target:refs/x" ∷ [];
  words = refl;
  id_is = refl;
  name_is = head_is_name;
  attributes_are = record { passes = (target_passes Sha1 (codes "refs/x") x_is_name, tt); target_is = refl; peeled_is = refl };
}

pub returns-clause-no_name : goal.returns-clause-no_name
returns-clause-no_name c = inr ((Some name_a, all_a_is_name), inl (main_is_none, refl))

pub returns-clause-no_target : goal.returns-clause-no_target
returns-clause-no_target c =
    inr ((Some name_a, all_a_is_name), inr (head_is_name, inl (record { value = codes "main"; spelled = refl; holds = main_is_none })))

pub returns-clause-no_peeled_object : goal.returns-clause-no_peeled_object
returns-clause-no_peeled_object c =
    inr (
      (Some name_a, all_a_is_name),
      inr (
        x_is_name,
        inl (record { value = codes "aa"; spelled = refl; holds = λ id h. let count = h.count in omega (arith, count) }),
      ),
    )

pub returns-clause-not_the_first_target : goal.returns-clause-not_the_first_target
returns-clause-not_the_first_target c = λ h.
    let same = ap (λ (ref : Ref). ref.target) (one_reference Sha1 _ _ _ h twice) in
    differ (codes "refs/x") (codes "refs/y") refl (let texts : codes "refs/x" ≡ codes "refs/y" = cc in texts)

pub returns-clause-not_without_its_target : goal.returns-clause-not_without_its_target
returns-clause-not_without_its_target c = λ h. let same = ap (λ (ref : Ref). ref.target) (one_reference Sha1 _ _ _ h symbolic) in cc

pub returns-clause-not_refused : goal.returns-clause-not_refused
returns-clause-not_refused c = λ h. reference_or_fault Sha1 (all_a ++ codes " refs/x") _ BadObjectName x_line h
