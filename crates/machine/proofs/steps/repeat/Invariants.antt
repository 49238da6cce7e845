-- Of `machine::steps::repeat`, for both loops: after so many steps the machine holds the state that the rules have after so many;
-- and the measure is how many steps are left. Assumes nothing.
use Prim.Native.Nat.{◌-◌, ◌≤◌}
use mathlib.Core.Path.{◌≡◌}
use Rattle.machine.specs.States.{HasStep}
use Rattle.machine.specs.declared.state.Mode.TheVariants.{Running}
use Rattle.machine.proofs.Underway.{Underway}
use Rattle.machine.proofs.steps.repeat.Given as goal

abbrev pub invariant-run : goal.invariant-run
invariant-run l = record {
  so_far : Underway l.fn.status l.code l.schedule l.most l.stack l.machine;
  running : l.machine.mode ≡ Running l.address;
}

abbrev pub decreases-run : goal.decreases-run
decreases-run l = l.most - l.machine.steps

abbrev pub invariant-loop-machine : goal.invariant-loop-machine
invariant-loop-machine l = record {
  so_far : Underway l.fn.status l.code l.schedule l.most l.stack l.machine;
  has : HasStep l.code l.machine;
  later : l.initial.machine.steps ≤ l.machine.steps;
}

abbrev pub decreases-loop-machine : goal.decreases-loop-machine
decreases-loop-machine l = l.most - l.machine.steps
