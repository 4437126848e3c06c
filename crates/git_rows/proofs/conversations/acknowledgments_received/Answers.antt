use Rattle.std.proofs.Common.{◌++◌, codes, refl, inl, inr}
use Rattle.git_rows.specs.Worked.{all_a}
use Rattle.git_rows.proofs.ObjectNamesByComputing.{all_a_is_name}
use Rattle.git_rows.proofs.ReceivedPackets.{gives_at, refuses_at}
use Rattle.git_rows.proofs.TextsByComputing.{differ, no_error_by}
use Rattle.git_rows.proofs.conversations.acknowledgments_received.Goals as goal

pub returns-clause-header : goal.returns-clause-header
returns-clause-header c = gives_at _ _ _ _ _ _ refl (record { no_error = no_error_by (codes "acknowledgments") refl; conveys = (refl, refl) })

pub returns-clause-none : goal.returns-clause-none
returns-clause-none c = gives_at _ _ _ _ _ _ refl (record { no_error = no_error_by (codes "NAK") refl; conveys = (refl, refl) })

pub returns-clause-one : goal.returns-clause-one
returns-clause-one c = gives_at _ _ _ _ _ _ refl (record {
  no_error = no_error_by (codes "ACK " ++ all_a) refl;
  conveys = (record { value = all_a; spelled = refl; holds = all_a_is_name }, refl);
})

pub returns-clause-is_ready : goal.returns-clause-is_ready
returns-clause-is_ready c = gives_at _ _ _ _ _ _ refl (record { no_error = no_error_by (codes "ready") refl; conveys = (refl, refl) })

pub returns-clause-end : goal.returns-clause-end
returns-clause-end c = gives_at _ _ _ _ _ _ refl refl

pub returns-clause-end_where_ready : goal.returns-clause-end_where_ready
returns-clause-end_where_ready c = gives_at _ _ _ _ _ _ refl refl

pub returns-clause-none_after_done : goal.returns-clause-none_after_done
returns-clause-none_after_done c = refuses_at _ _ _ _ _ _ refl (inr (no_error_by (codes "acknowledgments") refl, (refl, refl)))

pub returns-clause-one_after_none : goal.returns-clause-one_after_none
returns-clause-one_after_none c = refuses_at _ _ _ _ _ _ refl (inr (
  no_error_by (codes "ACK " ++ all_a) refl,
  inl (
    record {
      nak = λ e. refl;
      ready = λ e. absurd (differ (codes "ACK " ++ all_a) (codes "ready") refl e);
      ack = λ name e. refl;
    },
    refl,
  ),
))

pub returns-clause-flush_where_ready : goal.returns-clause-flush_where_ready
returns-clause-flush_where_ready c = refuses_at _ _ _ _ _ _ refl refl

pub returns-clause-delimiter_where_not : goal.returns-clause-delimiter_where_not
returns-clause-delimiter_where_not c = refuses_at _ _ _ _ _ _ refl refl
