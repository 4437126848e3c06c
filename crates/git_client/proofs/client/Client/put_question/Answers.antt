use Rattle.std.proofs.Common.{arith, refl, ap, length}
use Rattle.git_msg.specs.Machine.HeldRequest.{asked_of, format_of}
use Rattle.git_client.specs.Machine.Turns.{fault_in, takes_packets, is_asking}
use Rattle.git_client.proofs.Questions.{lent, puts_next, asks_on, receives_now}
use Rattle.git_client.proofs.client.Client.put_question.Goals as goal

pub returns-then-not-is_done : goal.returns-then-not-is_done
returns-then-not-is_done g c =
    let old = c.args.self.now in
    let was = c.in-Asking.is in
    let reader = lent old.reader c.pull.new.hold (omega (arith, c.hold.ensures.fits, ap length c.hold.ensures.value))
    (old.shut (ap fault_in was) (ap takes_packets was)) in
    asks_on old _ c.in-Some.request c.in-Asking.writer c.pull.new.self c.pull.new.hold.items (record {
      terms = record { format = refl; ending = refl; agent = refl; caps = refl };
      was = was;
      kept = c.in-Some.is;
      reader = reader.0;
      held = reader.1;
      shut = reader.2;
      puts = puts_next old c.in-Some.request c.in-Asking.writer _ _ c.pull.result _ _ was c.in-Some.is (old.has_unsent (ap is_asking was))
          c.pull.ensures.more c.pull.ensures.none;
    }) refl c.in-Some.is

pub returns : goal.returns
returns g c =
    let old = c.args.self.now in
    let was = c.in-Asking.is in
    let request = c.in-Some.request in
    let reader = lent old.reader c.pull.new.hold (omega (arith, c.hold.ensures.fits, ap length c.hold.ensures.value))
    (old.shut (ap fault_in was) (ap takes_packets was)) in
    receives_now old _ request c.in-Asking.writer c.pull.new.self c.pull.new.hold.items c.response_expected.result (record {
      terms = record { format = refl; ending = refl; agent = refl; caps = refl };
      was = was;
      kept = c.in-Some.is;
      reader = reader.0;
      held = reader.1;
      shut = reader.2;
      puts = puts_next old request c.in-Asking.writer _ _ c.pull.result _ _ was c.in-Some.is (old.has_unsent (ap is_asking was))
          c.pull.ensures.more c.pull.ensures.none;
    }) refl c.response_expected.ensures ((c.if-not-is_done.ensures (format_of request) (asked_of request)).0 refl)
