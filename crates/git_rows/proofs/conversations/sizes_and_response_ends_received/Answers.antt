use Rattle.std.proofs.Common.{◌++◌, codes, refl, arith}
use Rattle.git_rows.specs.Worked.{all_a}
use Rattle.git_rows.proofs.NumbersByComputing.{number_by}
use Rattle.git_rows.proofs.ObjectNamesByComputing.{all_a_is_name}
use Rattle.git_rows.proofs.ReceivedPackets.{gives_at, refuses_at}
use Rattle.git_rows.proofs.TextsByComputing.{no_error_by}
use Rattle.git_rows.proofs.conversations.sizes_and_response_ends_received.Goals as goal

pub returns-clause-line : goal.returns-clause-line
returns-clause-line c = gives_at _ _ _ _ _ _ refl (record { no_error = no_error_by (codes "size") refl; conveys = refl })

pub returns-clause-size : goal.returns-clause-size
returns-clause-size c = gives_at _ _ _ _ _ _ refl (record {
  no_error = no_error_by (all_a ++ codes " 12") refl;
  conveys = record {
    id = all_a;
    size = codes "12";
    spelled = refl;
    id_is = all_a_is_name;
    size_is = record { is_number = number_by 49 (codes "2") refl; in_range = omega arith };
  };
})

pub returns-clause-end : goal.returns-clause-end
returns-clause-end c = gives_at _ _ _ _ _ _ refl refl

pub returns-clause-second_flush : goal.returns-clause-second_flush
returns-clause-second_flush c = refuses_at _ _ _ _ _ _ refl refl
