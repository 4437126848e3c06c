use Rattle.std.proofs.Common.{arith, refl}
use Rattle.git_client.proofs.Questions.{asks, ready_phase}
use Rattle.git_client.proofs.client.Client.ask.Goals as goal

pub returns-in-Ok : goal.returns-in-Ok
returns-in-Ok g c = record {
  asked = record {
    passes = c.in-Ok.ensures;
    asks = asks c.args.self.now _ c.args.request c.new.result (record {
      terms = record { format = refl; ending = refl; agent = refl; caps = refl };
      was = ready_phase c.args.self.now.phase c.requires;
      now = refl;
      keeps = refl;
      reader = refl;
      format = c.in-Ok.ensures.0;
      writes = c.new.ensures;
    });
    has_unsent = c.new.ensures;
    no_more = refl;
    credit = omega arith;
  };
}
