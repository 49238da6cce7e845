-- `machine::steps::repeat` meets its contract, by the turns of its loops. Assumes nothing.
use Prim.Native.Nat.{◌<◌}
use native.Mathlib.Omega.{arith}
use mathlib.Core.Path.{refl}
use Rattle.machine.proofs.Underway.{Underway, underway_fresh, goes_on, out_of_steps}
use Rattle.machine.proofs.Turns.{at_the_length, nothing_to_unwind, at_an_instruction, an_item_to_unwind}
use Rattle.machine.proofs.Turns.{steppable, step_refused, ran}
use Rattle.machine.proofs.steps.repeat.Goals as goal
use Rattle.machine.proofs.steps.repeat.Goals.{In-Ok}

-- ---- where a loop begins, and its step

pub run-init : goal.run-init
run-init c =
    rw c.new-machine.ensures
    (record {
      so_far = underway_fresh c.args.status c.args.code.now c.args.schedule.now c.args.most c.args.stack.now;
      running = refl;
    })

pub loop-machine-init : goal.loop-machine-init
loop-machine-init c = record {
  so_far = c.run.invariant.so_far;
  has = at_an_instruction c.requires.few c.run.invariant.running c.if-length-address.false;
  later = omega arith;
}

pub step-requires : goal.step-requires
step-requires c =
    steppable c.loop-machine.invariant.so_far c.if-machine-most.false c.requires c.loop-machine.invariant.has

-- ---- a step was taken

taken : (c : In-Ok)
    → (c.loop-machine.machine.steps < c.in-Ok.next.steps)
    × Underway c.args.status c.args.code.now c.args.schedule.now c.args.most c.step.new.stack c.in-Ok.next
taken c = goes_on c.loop-machine.invariant.so_far c.loop-machine.invariant.has c.if-machine-most.false _ _ c.in-Ok.ensures

pub loop-machine-smaller : goal.loop-machine-smaller
loop-machine-smaller c =
    let (further, after) = taken (goal.at.loop-machine-smaller c).In-Ok in omega (arith, further, after.steps)

pub loop-machine-preserved : goal.loop-machine-preserved
loop-machine-preserved c =
    let (further, after) = taken (goal.at.loop-machine-preserved c).In-Ok in
    record {
      so_far = after;
      has = an_item_to_unwind c.in-Unwinding.is c.if-machine-eq0.false;
      later = omega (arith, further, c.loop-machine.invariant.later);
    }

pub run-smaller : goal.run-smaller
run-smaller c =
    let (further, after) = taken (goal.at.run-smaller c).In-Ok in
    omega (arith, further, after.steps, c.loop-machine.invariant.later)

pub run-preserved : goal.run-preserved
run-preserved c = record { so_far = (taken (goal.at.run-preserved c).In-Ok).1; running = c.in-Running.is }

-- ---- the ends
-- What a refused step leaves on the stack does not matter.

pub returns-then-length-address : goal.returns-then-length-address
returns-then-length-address c =
    ran (at_the_length c.run.invariant.so_far c.run.invariant.running c.if-length-address.true c.at_length-outcome.ensures)

pub returns-then-machine-most : goal.returns-then-machine-most
returns-then-machine-most c =
    rw c.at.ensures (ran (out_of_steps c.loop-machine.invariant.so_far c.loop-machine.invariant.has c.if-machine-most.true))

pub returns-in-Err : goal.returns-in-Err
returns-in-Err c =
    rw (c.at-in-Err.ensures, c.place.ensures)
    (ran (step_refused c.loop-machine.invariant.so_far c.if-machine-most.false _ _ c.in-Err.ensures))

pub returns-then-machine-eq0 : goal.returns-then-machine-eq0
returns-then-machine-eq0 c =
    let (further, after) = taken (goal.at.returns-then-machine-eq0 c).In-Ok in
    ran (nothing_to_unwind after c.in-Unwinding.is c.if-machine-eq0.true)
