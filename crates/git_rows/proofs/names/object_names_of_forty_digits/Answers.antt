use Rattle.std.proofs.Common.{◌≡◌, ap, codes, refl, arith, slice_index}
use Rattle.git_names.specs.Digits.{digit_value, lower_digit}
use Rattle.git_names.specs.ObjectName.{ObjectName}
use Rattle.hex.specs.Hex.{decode_pairs, encode_with}
use Rattle.git_names.specs.declared.object_format.Format.TheVariants.{Sha1}
use Rattle.git_names.proofs.ObjectNames.{IsOid-of_text, one_object_name}
use Rattle.git_names.proofs.WrittenForms.{digits-object_name}
use Rattle.git_rows.specs.Worked.{all_a, all_upper_a, name_a, name_ab}
use Rattle.git_rows.proofs.ObjectNamesByComputing.{all_a_is_name, object_name_by}
use Rattle.git_rows.proofs.names.object_names_of_forty_digits.Goals as goal

pub returns-clause-lower : goal.returns-clause-lower
returns-clause-lower c = all_a_is_name

pub returns-clause-upper : goal.returns-clause-upper
unfolding decode_pairs
returns-clause-upper c = object_name_by Sha1 all_upper_a name_a refl refl refl refl

pub returns-clause-written_in_lower_case : goal.returns-clause-written_in_lower_case
unfolding encode_with lower_digit
returns-clause-written_in_lower_case c = refl

pub returns-clause-value : goal.returns-clause-value
returns-clause-value c = IsOid-of_text Sha1 all_a name_a all_a_is_name

pub returns-clause-no_other_letter : goal.returns-clause-no_other_letter
unfolding digit_value
returns-clause-no_other_letter c = λ id h.
    let digit = digits-object_name Sha1 (codes "aaaaaaaaaaaaaaaaaaaaaaaaaaaaaaaaaaaaaaag") id h 39 (omega arith) in
    omega arith

pub returns-clause-not_refused : goal.returns-clause-not_refused
returns-clause-not_refused c = λ none. none name_a all_a_is_name

pub returns-clause-not_of_another_text : goal.returns-clause-not_of_another_text
unfolding decode_pairs
returns-clause-not_of_another_text c = λ h.
    let other = object_name_by Sha1 (codes "aaaaaaaaaaaaaaaaaaaaaaaaaaaaaaaaaaaaaaab") name_ab refl refl refl refl in
    let same = one_object_name Sha1 (codes "aaaaaaaaaaaaaaaaaaaaaaaaaaaaaaaaaaaaaaab") name_a name_ab h other in
    let last : 170 ≡ 171 = ap (λ (id : ObjectName). slice_index id.bytes 19) same in
    omega (arith, last)
