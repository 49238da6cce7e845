-- The turns of the run's loops, by where the machine is.
--
--   at_the_length           it runs at the length: the end, or 14
--   nothing_to_unwind       it unwinds with no item: a throw
--   at_an_instruction, an_item_to_unwind
--                           otherwise there is a step to take
--   steppable               and with steps left it can be taken
--   step_refused            and is refused
--   ran                     what a run promises, where it stops
--
-- Assumes nothing.
use Prim.Native.Nat.{ℕ, ◌≤◌, ◌<◌}
use native.Mathlib.Omega.{arith}
use lib.ListN.{length}
use mathlib.Core.List.{List}
use mathlib.Core.Path.{◌≡◌, sym, ◌∙◌}
use Rattle.rules.specs.Bytes.{records}
use Rattle.rules.specs.Limits.{code_limit}
use Rattle.rules.specs.Machine.{Over, at_length, step_at, unwind}
use Rattle.rules.specs.declared.End.{End}
use Rattle.rules.specs.declared.Reason.{Reason}
use Rattle.rules.specs.declared.Status.{Status}
use Rattle.rules.proofs.Bytes.Instructions.{instruction_missing}
use Rattle.machine.specs.Runs.{Runnable, Ran}
use Rattle.machine.specs.States.{state_of, step_of, place_of, HasStep, Steppable, Steps}
use Rattle.machine.specs.declared.state.Machine.{Machine}
use Rattle.machine.specs.declared.state.Mode.TheVariants.{Running, Unwinding}
use Rattle.machine.proofs.Stacked.{items_none}
use Rattle.machine.proofs.Stepping.{step_running, step_unwinding}
use Rattle.std.specs.Prelude.{Result, Ok, Err}
use Rattle.machine.proofs.Underway.{Underway, Stops, ended, refused}
use Rattle.rules.specs.declared.Refusal.{Refusal}

module _ {i : Status} {code schedule : List ℕ} {most : ℕ} {stack : List ℕ} {m : Machine}
    (so_far : Underway i code schedule most stack m) where
  -- ---- where there is none

  pub at_the_length : {a : ℕ} → m.mode ≡ Running a → records code ≤ a
      → {o : Result End Refusal} → Over o ≡ at_length (state_of stack m) a → Stops i code schedule most stack m o
  unfolding step_at
  at_the_length {a} running past e =
      ended so_far
      (step_running code schedule stack m running ∙ rw (instruction_missing code a past, step_at) (sym e))

  pub nothing_to_unwind : m.mode ≡ Unwinding → m.height ≡ 0 → Stops i code schedule most stack m (Ok End.Throw)
  unfolding unwind
  nothing_to_unwind unwinding e =
      ended so_far (step_unwinding code schedule stack m unwinding ∙ rw (items_none stack m.height e, unwind))

  -- ---- the step

  module _ (left : (m.steps ≡ most → ⊥)) where
    pub steppable : Runnable code most → HasStep code m → Steppable code m
    steppable lent has = record {
      within = record {
        counting = record { steps = omega (arith, left, so_far.steps, lent.steps); reached = so_far.reached };
        height = so_far.height;
      };
      has = has;
    }

    pub step_refused : (reason : Reason) (after : List ℕ) → Steps code schedule stack m (Err reason) after
        → Stops i code schedule most after m (Err (record { reason = reason; place = place_of m.mode }))
    unfolding step_of
    step_refused reason after does = refused so_far left after (sym does)

-- ---- where there is one

module _ {code : List ℕ} {m : Machine} where
  pub at_an_instruction : length code ≤ code_limit → {a : ℕ} → m.mode ≡ Running a → a < records code → HasStep code m
  at_an_instruction few {a} running below = record {
    running = λ b e.
        let same : a ≡ b = cc (running, e) in
        record { below = rw same at below; limit = omega (arith, below, few, same) };
    unwinding = λ e. absurd (cc (running, e));
  }

  pub an_item_to_unwind : m.mode ≡ Unwinding → (m.height ≡ 0 → ⊥) → HasStep code m
  an_item_to_unwind unwinding some = record {
    running = λ b e. absurd (cc (unwinding, e));
    unwinding = λ e. omega (arith, some);
  }

-- ---- where it stops

pub ran : {i : Status} {code schedule : List ℕ} {most : ℕ} {stack : List ℕ} {m : Machine} {o : Result End Refusal}
    → Stops i code schedule most stack m o → Ran i code schedule most (record { machine = m; outcome = o }) stack
ran end = record { answered = end.answered; state = end.state }
