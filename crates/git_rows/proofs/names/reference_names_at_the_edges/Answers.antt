use Rattle.std.proofs.Common.{◌∷◌, [], ◌++◌, codes, refl}
use Rattle.git_rows.proofs.NamesByComputing.{head_is_name, ref_by}
use Rattle.git_rows.proofs.names.reference_names_at_the_edges.Goals as goal

pub returns : goal.returns
returns c = record {
  head = head_is_name;
  at_sign = ref_by (codes "refs/heads/@") refl refl;
  dash = ref_by (codes "refs/heads/-x") refl refl;
  longer_than_lock = ref_by (codes "refs/a.lockb") refl refl;
  braces = ref_by (codes "refs/{a}") refl refl;
  high_byte = ref_by (codes "refs/" ++ 255 ∷ []) refl refl;
  least_bytes = ref_by (codes "refs/!") refl refl;
}
