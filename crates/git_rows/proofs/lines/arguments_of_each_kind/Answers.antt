use Rattle.std.proofs.Common.{[], ◌++◌, codes, refl, arith}
use Rattle.git_rows.specs.Worked.{all_a}
use Rattle.git_rows.proofs.NamesByComputing.{ref_by}
use Rattle.git_rows.proofs.NumbersByComputing.{number_by}
use Rattle.git_rows.proofs.ObjectNamesByComputing.{all_a_is_name}
use Rattle.git_rows.proofs.TextsByComputing.{begins_otherwise}
use Rattle.git_rows.proofs.lines.arguments_of_each_kind.Goals as goal

pub returns-clause-object : goal.returns-clause-object
returns-clause-object c = record { is_argument = (refl, record { value = all_a; spelled = refl; states = all_a_is_name }); offered = refl }

pub returns-clause-common : goal.returns-clause-common
returns-clause-common c = record { is_argument = (refl, record { value = all_a; spelled = refl; states = all_a_is_name }); offered = refl }

pub returns-clause-shallow_commit : goal.returns-clause-shallow_commit
returns-clause-shallow_commit c = record { is_argument = (refl, record { value = all_a; spelled = refl; states = all_a_is_name }); offered = refl }

pub returns-clause-sized : goal.returns-clause-sized
returns-clause-sized c = record { is_argument = (refl, record { value = all_a; spelled = refl; states = all_a_is_name }); offered = refl }

pub returns-clause-depth : goal.returns-clause-depth
returns-clause-depth c = record {
  is_argument = (
    refl,
    record {
      value = codes "0002147483647";
      spelled = refl;
      states = record { is_number = number_by 48 (codes "002147483647") refl; in_range = (omega arith, omega arith) };
    },
  );
  offered = refl;
}

pub returns-clause-time : goal.returns-clause-time
returns-clause-time c = record {
  is_argument = (
    refl,
    record {
      value = codes "9223372036854775807";
      spelled = refl;
      states = record { is_number = number_by 57 (codes "223372036854775807") refl; in_range = omega arith };
    },
  );
  offered = refl;
}

pub returns-clause-reference : goal.returns-clause-reference
returns-clause-reference c =
    record {
      is_argument = (refl, record { value = codes "refs/heads/@"; spelled = refl; states = (refl, ref_by (codes "refs/heads/@") refl refl) });
      offered = refl;
    }

pub returns-clause-flag : goal.returns-clause-flag
returns-clause-flag c = record { is_argument = (refl, record { value = []; spelled = refl; states = tt }); offered = refl }

pub returns-clause-revision : goal.returns-clause-revision
returns-clause-revision c =
    record { is_argument = (refl, record { value = codes "x"; spelled = refl; states = (refl, (omega arith, omega arith)) }); offered = refl }

pub returns-clause-filter : goal.returns-clause-filter
returns-clause-filter c =
    record { is_argument = (refl, record { value = codes "blob:none"; spelled = refl; states = (refl, (omega arith, omega arith)) }); offered = refl }

pub returns-clause-prefix : goal.returns-clause-prefix
returns-clause-prefix c =
    record { is_argument = (refl, record { value = codes "refs/"; spelled = refl; states = (refl, (omega arith, omega arith)) }); offered = refl }

pub returns-clause-empty_prefix : goal.returns-clause-empty_prefix
returns-clause-empty_prefix c =
    record { is_argument = (refl, record { value = []; spelled = refl; states = (refl, (omega arith, omega arith)) }); offered = refl }

pub returns-clause-not_another_flag : goal.returns-clause-not_another_flag
returns-clause-not_another_flag c = λ h. let spelled = h.is_argument.1.spelled in cc

pub returns-clause-not_of_another_command : goal.returns-clause-not_of_another_command
returns-clause-not_of_another_command c = λ h. let of = h.is_argument.0 in cc

pub returns-clause-not_another_word : goal.returns-clause-not_another_word
returns-clause-not_another_word c =
    λ h. begins_otherwise (codes "have ") (codes "want " ++ all_a) refl h.is_argument.1.value h.is_argument.1.spelled

pub returns-clause-not_what_is_not_offered : goal.returns-clause-not_what_is_not_offered
returns-clause-not_what_is_not_offered c = λ h. let offered = h.offered in cc
