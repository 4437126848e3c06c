use Rattle.git_msg.proofs.LinesLeft.{more_left}
use Rattle.git_msg.proofs.writer.RequestWriter.is_done.Goals as goal

pub returns-in_default : goal.returns-in_default
returns-in_default c = λ format asked.
    let w = c.args.self.now in
    ((λ h. absurd (cc)), (λ none. absurd (more_left w.next w.agent w.names_agent w.object_format format asked c.in_default.not-Done none)))
