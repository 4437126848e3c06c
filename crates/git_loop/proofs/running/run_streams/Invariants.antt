-- Each turn is one read that was needed, nothing has failed, the machine is done with each input that has ended, nothing is left of
-- that, and all that it gave for what it used was written.
use Rattle.std.proofs.Common.{◌≡◌, ◌≤◌, ◌+◌, ◌-◌, ◌^◌, min, false}
use Rattle.git_loop.specs.Machines.{states_of, AreSound, HasNothing, IsAt, KnowsEnds, ReadsAsNeeded, Went}
use Rattle.git_loop.proofs.RunLemmas.{AreSpentAtEnd}
use Rattle.git_loop.proofs.running.run_streams.Given as goal

abbrev pub invariant-loop : goal.invariant-loop
invariant-loop g l = record {
  at : IsAt l.next (g.M.Machine.needs_input l.machine) (g.M.Machine.finished l.machine);
  nothing : HasNothing l.next (g.I.Inputs.input l.inputs);
  most : g.I.Inputs.reads l.inputs ≤ g.I.Inputs.reads l.fn.inputs + l.counter;
  all : min (g.I.Inputs.reads l.fn.inputs + l.counter) (2 ^ 64 - 1) ≤ g.I.Inputs.reads l.inputs;
  sound : AreSound g.I.Inputs.has (g.I.Inputs.input l.inputs);
  known : KnowsEnds g.I.Inputs.has (g.I.Inputs.input l.inputs) (g.M.Machine.done_with l.machine);
  spent : AreSpentAtEnd g.I.Inputs.has (g.I.Inputs.input l.inputs);
  sound_outputs : g.O.Outputs.failed l.outputs ≡ false;
  same_readers : g.I.Inputs.same_readers l.fn.inputs l.inputs;
  same_writers : g.O.Outputs.same_writers l.fn.outputs l.outputs;
  went : Went (states_of g.M.Machine.reaches g.M.Machine.needs_input g.M.Machine.done_with g.M.Machine.stopped_short g.M.Machine.reachable)
      false l.fn.machine l.machine (g.I.Inputs.input l.fn.inputs) (g.I.Inputs.input l.inputs) (g.O.Outputs.contents l.fn.outputs)
      (g.O.Outputs.contents l.outputs);
  needed : ReadsAsNeeded (states_of g.M.Machine.reaches g.M.Machine.needs_input g.M.Machine.done_with g.M.Machine.stopped_short g.M.Machine.reachable)
      (record { input = g.I.Inputs.input; contents = g.O.Outputs.contents; flushed = g.O.Outputs.flushed }) false
      (record { machine = l.fn.machine; inputs = l.fn.inputs; outputs = l.fn.outputs })
      (record { machine = l.machine; inputs = l.inputs; outputs = l.outputs });
}
