use Rattle.git_client.specs.Machine.Gathered.{dropped}
use Rattle.git_client.proofs.SendingSteps.{asks_stated}
use Rattle.git_client.proofs.conversing.ask_unsent.Goals as goal

pub returns-in-Err : goal.returns-in-Err
returns-in-Err g c =
    let refusal = c.in-Err.ensures.asked in
    record { refused = refusal.refused; at = refusal.at; stays = refusal.stays; content = tt; announced = tt }

pub returns : goal.returns
returns g c =
    rw c.in-Ok.is at (asks_stated c.send_all.result _ c.ask.new.self _ _ dropped dropped c.in_default.ensures.asked tt c.send_all.ensures.conveys
    c.send_all.ensures.fault)
