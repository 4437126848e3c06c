use Rattle.std.proofs.Common.{◌++◌, [], Some, codes, refl, arith, ap}
use Rattle.git_names.specs.declared.object_format.Format.TheVariants.{Sha1}
use Rattle.git_pkt.specs.declared.fault.Kind.TheVariants.{BadNumber}
use Rattle.git_msg.specs.ResponseLines.{IsInfoLine, IsWantedLine, Wanted, wanted_of}
use Rattle.git_msg.specs.declared.response_lines.Info.{Info}
use Rattle.git_msg.proofs.ResponseFaults.{info_or_fault}
use Rattle.git_msg.proofs.ResponseLines.{one_info, one_wanted}
use Rattle.git_rows.specs.Worked.{all_a, info_of, name_a}
use Rattle.git_rows.proofs.NamesByComputing.{lacks_by, main_is_none, ref_by}
use Rattle.git_rows.proofs.NumbersByComputing.{number_by}
use Rattle.git_rows.proofs.ObjectNamesByComputing.{all_a_is_name}
use Rattle.git_rows.proofs.TextsByComputing.{differ}
use Rattle.git_rows.proofs.lines.wanted_references_and_sizes.Goals as goal

wanted : IsWantedLine Sha1 (all_a ++ codes " refs/x") (wanted_of name_a (codes "refs/x"))
wanted = record { id = all_a; spelled = refl; id_is = all_a_is_name; name_is = ref_by (codes "refs/x") refl refl }

sized : IsInfoLine Sha1 (all_a ++ codes " 12") (info_of name_a (Some 12))
sized = record {
  id = all_a;
  size = codes "12";
  spelled = refl;
  id_is = all_a_is_name;
  size_is = record { is_number = number_by 49 (codes "2") refl; in_range = omega arith };
}

pub returns-clause-wanted : goal.returns-clause-wanted
returns-clause-wanted c = wanted

pub returns-clause-sized : goal.returns-clause-sized
returns-clause-sized c = sized

pub returns-clause-without_size : goal.returns-clause-without_size
returns-clause-without_size c = record { id = all_a; size = []; spelled = refl; id_is = all_a_is_name; size_is = refl }

pub returns-clause-no_wanted_object : goal.returns-clause-no_wanted_object
returns-clause-no_wanted_object c = (
  codes "aa",
  codes "refs/x",
  record { spelled = refl; first = lacks_by 32 (codes "aa") refl },
  λ id h. let count = h.count in omega (arith, count),
)

pub returns-clause-no_wanted_name : goal.returns-clause-no_wanted_name
returns-clause-no_wanted_name c =
    (all_a, codes "main", record { spelled = refl; first = lacks_by 32 all_a refl }, (name_a, all_a_is_name), main_is_none)

pub returns-clause-size_too_great : goal.returns-clause-size_too_great
returns-clause-size_too_great c = (
  all_a,
  codes "18446744073709551616",
  record { spelled = refl; first = lacks_by 32 all_a refl },
  (name_a, all_a_is_name),
  record { some = λ e. cc; no_number = λ number h. let is = h.is_number.value in let most = h.in_range in omega arith },
)

pub returns-clause-not_another_name : goal.returns-clause-not_another_name
returns-clause-not_another_name c = λ h.
    differ (codes "refs/y") (codes "refs/x") refl (ap (λ (wanted : Wanted). wanted.name) (one_wanted Sha1 _ _ _ h wanted))

pub returns-clause-not_another_size : goal.returns-clause-not_another_size
returns-clause-not_another_size c = λ h. let same = ap (λ (info : Info). info.size) (one_info Sha1 _ _ _ h sized) in cc

pub returns-clause-not_refused : goal.returns-clause-not_refused
returns-clause-not_refused c = λ h. info_or_fault Sha1 (all_a ++ codes " 12") (info_of name_a (Some 12)) BadNumber sized h
