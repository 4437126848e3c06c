use Rattle.std.proofs.Common.{[]}
use Rattle.git_laws.proofs.ReceivingSessions.{all_arrived, ended_by_flush}
use Rattle.git_laws.proofs.answer_laws.received_answers.Goals as goal

pub returns : goal.returns
returns c = record {
  arrived = λ t repo earlier later asked before packets gs sound written same asks answers before_whole flush_only cut.
      (all_arrived t repo sound written same asked earlier later before packets gs asks (rw flush_only (ended_by_flush repo asked packets answers))
      before_whole cut).0;
  whole = λ t repo earlier asked before packets gs sound written same asks answers before_whole flush_only cut.
      (all_arrived t repo sound written same asked earlier [] before packets gs asks (rw flush_only (ended_by_flush repo asked packets answers))
      before_whole cut).1;
}
