-- The page of the machine: what one step of it promises, and what the loop that repeats it does, for the page of demands
-- (`salnegris`, `Demands`).
--
--   step_answers, loop_answers   the promises of `Machine::step` (`src/step.rt`) and of `repeat` (`src/steps.rt`) are kept
--   step_asks, step_says         what a step asks of its caller and what it says, spelt out
--   loop_asks, loop_says         and the loop, which is told how many steps it may take
--   EachStep, each_step          so the states of a run are the rules', one by one
--
-- Assumes nothing.
use Prim.Native.Nat.{ℕ, ◌+◌}
use contract.Lifetimes.{Lfts}
use denote.MutBor.{MutBor}
use denote.Ref.{Bor}
use mathlib.Core.List.{List}
use mathlib.Core.Option.{some}
use mathlib.Core.Path.{◌≡◌, refl, sym}
use Rattle.std.specs.Prelude.{Result, Ok, Err}
use Rattle.rules.specs.CodeBytes.{instructions}
use Rattle.rules.specs.Machine.{State, Stuck, step}
use Rattle.rules.specs.Run.{state_after}
use Rattle.rules.specs.Schedule.{asks}
use Rattle.rules.specs.declared.Reason.{Reason}
use Rattle.rules.specs.declared.Status.{Status}
use Rattle.machine.specs.Runs.{Runnable, Ran}
use Rattle.machine.specs.States.{state_of, step_of, place_of, fresh_of, Steppable, Steps}
use Rattle.machine.specs.declared.state.Machine.{Machine}
use Rattle.machine.specs.declared.steps.Stopped.{Stopped}
use Rattle.machine.proofs.EachState.{Holds, begins, counts_one, each_state}
use Rattle.machine.proofs.state.Machine.step.Met as step-proof
use Rattle.machine.proofs.state.Machine.step.Reads as step-promise
use Rattle.machine.proofs.state.Machine.step.Statement as step-statement
use Rattle.machine.proofs.steps.repeat.Met as loop-proof
use Rattle.machine.proofs.steps.repeat.Reads as loop-promise
use Rattle.machine.proofs.steps.repeat.Statement as loop-statement

pub step_answers : {M : Type 1} → step-statement.statement M
step_answers = step-proof.met

pub loop_answers : {M : Type 1} → loop-statement.statement M
loop_answers = loop-proof.met

module _ (lifetimes : Lfts 3) (m : Machine) (code schedule : Bor (List ℕ)) (stack : MutBor (List ℕ)) where
  pub step_asks : step-promise.Asked lifetimes (m, (code, (schedule, (stack, tt)))) ≡ Steppable code.now m
  step_asks = refl

  pub step_says : (r : Result Machine Reason) (left : MutBor (List ℕ))
      → step-promise.Learnt lifetimes (m, (code, (schedule, (stack, tt)))) r (m, (code, (schedule, (left, tt))))
      ≡ Steps code.now schedule.now stack.now m r left.now
  step_says r left = refl

module _ (lifetimes : Lfts 3) (i : Status) (code schedule : Bor (List ℕ)) (stack : MutBor (List ℕ)) (most : ℕ) where
  pub loop_asks : loop-promise.Asked lifetimes (i, (code, (schedule, (stack, (most, tt)))))
      ≡ Runnable code.now most
  loop_asks = refl

  pub loop_says : (r : Stopped) (left : MutBor (List ℕ))
      → loop-promise.Learnt lifetimes (i, (code, (schedule, (stack, (most, tt))))) r
      (i, (code, (schedule, (left, (most, tt)))))
      ≡ Ran i code.now schedule.now most r left.now
  loop_says r left = refl

-- "each state and both counts are those of the rules"
pub record EachStep : Type 0 where
  -- A fresh machine holds the rules' fresh state.
  pub fresh : (i : Status) (code schedule stack : List ℕ) → Holds i code schedule stack (fresh_of i)
  -- From the rules' state after k steps, a step that is taken leads to their state after k + 1, and no further.
  pub next : (i : Status) (code schedule stack : List ℕ) (m : Machine) → Steppable code m → Holds i code schedule stack m
      → (after : List ℕ) (following : Machine) → Steps code schedule stack m (Ok following) after
      → (following.steps ≡ m.steps + 1) × Holds i code schedule after following
  -- A step that is refused is refused by the rules, for the same reason at the same place.
  pub refused : (code schedule stack : List ℕ) (m : Machine) (reason : Reason) (after : List ℕ)
      → Steps code schedule stack m (Err reason) after
      → step (instructions code) (asks schedule) (state_of stack m) ≡ Stuck (record { reason = reason; place = place_of m.mode })
  -- Told to take at most k steps, the loop stops in the rules' state after k, where they come as far: one that does all at the
  -- first step, or idles, does not.
  pub loop : (i : Status) (code schedule : List ℕ) (k : ℕ) (stopped : Stopped) (after : List ℕ)
      → Ran i code schedule k stopped after
      → (s : State) → state_after (instructions code) (asks schedule) i k ≡ some s → state_of after stopped.machine ≡ s

pub each_step : EachStep
unfolding step_of
each_step = record {
  fresh = begins;
  next = λ i code schedule stack m can here after following does. (
    (counts_one can.has can.within.height schedule stack after following does).steps,
    each_state can.has can.within.height schedule stack after following does i here,
  );
  refused = λ code schedule stack m reason after does. sym does;
  loop = λ i code schedule k stopped after ran. ran.state;
}
