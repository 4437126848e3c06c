-- What the machine gave was written, and nothing has failed since the call began.
use Rattle.std.proofs.Common.{◌≡◌, ℕ, false}
use Rattle.git_loop.specs.Streams.{InputState}
use Rattle.git_loop.specs.Machines.{states_of, Went}
use Rattle.git_loop.proofs.running.drain.Given as goal

abbrev pub invariant-loop-to : goal.invariant-loop-to
invariant-loop-to g l = record {
  failed : g.O.Outputs.failed l.outputs ≡ g.O.Outputs.failed l.fn.outputs;
  holds : g.M.Machine.holds l.machine l.fed;
  same_writers : g.O.Outputs.same_writers l.fn.outputs l.outputs;
  went : (inputs : ℕ → InputState)
      → Went (states_of g.M.Machine.reaches g.M.Machine.needs_input g.M.Machine.done_with g.M.Machine.stopped_short g.M.Machine.reachable)
      false l.fn.machine l.machine inputs inputs (g.O.Outputs.contents l.fn.outputs) (g.O.Outputs.contents l.outputs);
}

abbrev pub decreases-loop-to : goal.decreases-loop-to
decreases-loop-to g l = g.M.Machine.parts_left l.machine
