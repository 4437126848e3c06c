use Rattle.std.proofs.Common.{[], refl}
use Rattle.git2show_lib.proofs.shower.Shower.new.Goals as goal

pub returns-clause-shown : goal.returns-clause-shown
returns-clause-shown g c = record {
  packets = [];
  rest = [];
  by = refl;
  reads = c.new.ensures.reads;
  lines = c.new-2.ensures;
  tally = refl;
  stands = c.new.ensures.sound;
}

pub returns-clause-waits : goal.returns-clause-waits
returns-clause-waits g c = record {
  gathering = refl;
  all_given = c.new-2.ensures;
  sound = record { sound = λ e. c.new.ensures.sound; gathers = c.new.ensures.gathers };
}
