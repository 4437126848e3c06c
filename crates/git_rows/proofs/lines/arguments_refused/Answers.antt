use Rattle.std.proofs.Common.{[], codes, refl, arith, inl, inr}
use Rattle.git_pkt.specs.declared.fault.Kind.TheVariants.{BadLine, BadNumber, NotAdvertised}
use Rattle.git_msg.specs.Arguments.{IsArgumentFault, alone}
use Rattle.git_msg.specs.declared.arguments.Command.TheVariants.{Fetch, LsRefs}
use Rattle.git_msg.specs.declared.flags.Flag.{Flag}
use Rattle.git_msg.specs.declared.words.Word.TheVariants.{Object as of_object, Text as of_text, Number as of_number}
use Rattle.git_msg.specs.declared.words.ObjectWord.{ObjectWord}
use Rattle.git_msg.specs.declared.words.TextWord.{TextWord}
use Rattle.git_msg.specs.declared.words.NumberWord.{NumberWord}
use Rattle.git_msg.proofs.HeadWords.{none_named}
use Rattle.git_msg.proofs.Rows.{argument_or_fault, one_argument_fault}
use Rattle.git_rows.specs.Worked.{offer_all}
use Rattle.git_rows.proofs.NamesByComputing.{main_is_none}
use Rattle.git_rows.proofs.TextsByComputing.{begins_otherwise}
use Rattle.git_rows.proofs.lines.arguments_refused.Goals as goal

pub returns-clause-of_another_command : goal.returns-clause-of_another_command
returns-clause-of_another_command c = inl (inl (none_named LsRefs (codes "done") (λ of value h. cc), refl))

pub returns-clause-without_a_space : goal.returns-clause-without_a_space
returns-clause-without_a_space c =
    let otherwise = begins_otherwise (codes "deepen-not ") (codes "deepen-not") refl in
    inl (inl (none_named Fetch (codes "deepen-not") (λ of value h. otherwise value h), refl))

depth_of_zero : IsArgumentFault Fetch offer_all (codes "deepen 0") BadNumber
depth_of_zero = inl (inr (record {
  word = of_number NumberWord.Deepen;
  value = codes "0";
  of = refl;
  spelled = refl;
  refused = λ number h. let is = h.is_number.value in let low = h.in_range.0 in omega arith;
  named = refl;
}))

pub returns-clause-depth_of_zero : goal.returns-clause-depth_of_zero
returns-clause-depth_of_zero c = depth_of_zero

pub returns-clause-depth_too_great : goal.returns-clause-depth_too_great
returns-clause-depth_too_great c = inl (inr (record {
  word = of_number NumberWord.Deepen;
  value = codes "2147483648";
  of = refl;
  spelled = refl;
  refused = λ number h. let is = h.is_number.value in let most = h.in_range.1 in omega arith;
  named = refl;
}))

pub returns-clause-time_too_late : goal.returns-clause-time_too_late
returns-clause-time_too_late c = inl (inr (record {
  word = of_number NumberWord.DeepenSince;
  value = codes "9223372036854775808";
  of = refl;
  spelled = refl;
  refused = λ number h. let is = h.is_number.value in let most = h.in_range in omega arith;
  named = refl;
}))

pub returns-clause-no_digits : goal.returns-clause-no_digits
returns-clause-no_digits c = inl (inr (record {
  word = of_number NumberWord.Deepen;
  value = [];
  of = refl;
  spelled = refl;
  refused = λ number h. h.is_number.some refl;
  named = refl;
}))

pub returns-clause-no_digit : goal.returns-clause-no_digit
returns-clause-no_digit c = inl (inr (record {
  word = of_number NumberWord.Deepen;
  value = codes "1x";
  of = refl;
  spelled = refl;
  refused = λ number h. let digit = h.is_number.digits 1 0 (omega arith) in let most = digit.1 in omega arith;
  named = refl;
}))

pub returns-clause-empty_revision : goal.returns-clause-empty_revision
returns-clause-empty_revision c = inl (inr (record {
  word = of_text TextWord.DeepenNot;
  value = [];
  of = refl;
  spelled = refl;
  refused = inl (omega arith);
  named = refl;
}))

pub returns-clause-short_name : goal.returns-clause-short_name
returns-clause-short_name c = inl (inr (record {
  word = of_object ObjectWord.Want;
  value = codes "aa";
  of = refl;
  spelled = refl;
  refused = λ id h. let count = h.count in omega (arith, count);
  named = refl;
}))

pub returns-clause-no_reference_name : goal.returns-clause-no_reference_name
returns-clause-no_reference_name c = inl (inr (record {
  word = of_text TextWord.WantRef;
  value = codes "main";
  of = refl;
  spelled = refl;
  refused = main_is_none;
  named = refl;
}))

pub returns-clause-not_offered : goal.returns-clause-not_offered
returns-clause-not_offered c =
    inr (record { arg = alone Flag.Unborn; is_argument = (refl, record { value = []; spelled = refl; states = tt }); unoffered = refl }, refl)

pub returns-clause-not_by_another_name : goal.returns-clause-not_by_another_name
returns-clause-not_by_another_name c = λ h. let same = one_argument_fault Fetch offer_all (codes "deepen 0") BadLine BadNumber h depth_of_zero in cc

pub returns-clause-not_where_it_is_read : goal.returns-clause-not_where_it_is_read
returns-clause-not_where_it_is_read c =
    λ h. argument_or_fault LsRefs offer_all (codes "unborn") (alone Flag.Unborn) NotAdvertised
    (record { is_argument = (refl, record { value = []; spelled = refl; states = tt }); offered = refl }) h
