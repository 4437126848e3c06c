-- What the machine gave for what it used was written, no read was made, and nothing has failed since the call began. Each turn uses bytes
-- that wait, or the machine has finished after it.
use Rattle.std.proofs.Common.{◌≡◌, ℕ, ◌+◌, false}
use Rattle.git_loop.specs.Machines.{states_of, IsAt, KeepsEmptyOnes, SameCalls, Went}
use Rattle.git_loop.proofs.RunLemmas.{if_needed}
use Rattle.git_loop.proofs.running.advance.Given as goal

abbrev pub invariant-loop-next : goal.invariant-loop-next
invariant-loop-next g l = record {
  at : IsAt l.next (g.M.Machine.needs_input l.machine) (g.M.Machine.finished l.machine);
  failed : g.O.Outputs.failed l.outputs ≡ g.O.Outputs.failed l.fn.outputs;
  counted : g.I.Inputs.reads l.inputs ≡ g.I.Inputs.reads l.fn.inputs;
  calls : (k : ℕ) → SameCalls (g.I.Inputs.input l.fn.inputs k) (g.I.Inputs.input l.inputs k);
  empty_kept : KeepsEmptyOnes (g.I.Inputs.input l.fn.inputs) (g.I.Inputs.input l.inputs);
  same_readers : g.I.Inputs.same_readers l.fn.inputs l.inputs;
  same_writers : g.O.Outputs.same_writers l.fn.outputs l.outputs;
  went : Went (states_of g.M.Machine.reaches g.M.Machine.needs_input g.M.Machine.done_with g.M.Machine.stopped_short g.M.Machine.reachable)
      false l.fn.machine l.machine (g.I.Inputs.input l.fn.inputs) (g.I.Inputs.input l.inputs) (g.O.Outputs.contents l.fn.outputs)
      (g.O.Outputs.contents l.outputs);
}

abbrev pub decreases-loop-next : goal.decreases-loop-next
decreases-loop-next g l = g.I.Inputs.waiting l.inputs + if_needed l.next
