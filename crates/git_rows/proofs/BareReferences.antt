-- The lines of references without attributes.
use Rattle.std.proofs.Common.{[], ◌++◌, None, Some, codes, refl}
use Rattle.git_names.specs.declared.object_format.Format.TheVariants.{Sha1}
use Rattle.git_msg.specs.References.{IsReferenceLine, reference_of}
use Rattle.git_rows.specs.Worked.{all_a, name_a}
use Rattle.git_rows.proofs.NamesByComputing.{head_is_name, ref_by}
use Rattle.git_rows.proofs.ObjectNamesByComputing.{all_a_is_name}

pub head_line : IsReferenceLine Sha1 (all_a ++ codes " HEAD") (reference_of (Some name_a) (codes "HEAD") None None)
head_line = record {
  id = all_a;
  attributes = [];
  words = refl;
  id_is = all_a_is_name;
  name_is = head_is_name;
  attributes_are = record { passes = tt; target_is = refl; peeled_is = refl };
}

pub x_line : IsReferenceLine Sha1 (all_a ++ codes " refs/x") (reference_of (Some name_a) (codes "refs/x") None None)
x_line = record {
  id = all_a;
  attributes = [];
  words = refl;
  id_is = all_a_is_name;
  name_is = ref_by (codes "refs/x") refl refl;
  attributes_are = record { passes = tt; target_is = refl; peeled_is = refl };
}
