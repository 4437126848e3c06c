use Rattle.git_laws.proofs.ReceivingAnswers.{arrived, whole_after}
use Rattle.git_laws.proofs.answer_laws.received_answer.Goals as goal

pub returns : goal.returns
returns c = record {
  arrived = λ t repo earlier later q before packets gs sound written same asks answer before_whole cut.
      arrived t repo earlier q before packets gs sound written same asks answer before_whole cut later;
  whole = whole_after;
}
