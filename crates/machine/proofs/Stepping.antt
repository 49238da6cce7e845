-- A step of the machine is by the rule for what it does: at an instruction of its code, or unwinding with an item.
--
--   or_else_unwinds     a machine that does not run unwinds
--   ready               what carrying out asks of a machine that runs
--   unwound             unwinding: an item is removed
--   cut                 running: a recall that bites
--   carried_out         without one, what is done is what the instruction's rule says
--   thrown              and THROW begins unwinding
--   counted             it counts one step, and is no end
--
-- Assumes nothing.
use Prim.Native.Nat.{ℕ, ◌≤◌}
use native.Mathlib.Omega.{arith}
use lib.ListN.{length, get_elem?}
use mathlib.Core.Bool.{true, false}
use mathlib.Core.List.{List}
use mathlib.Core.Path.{◌≡◌, refl, sym, ap, ◌∙◌}
use Rattle.std.specs.Prelude.{Result, Ok}
use Rattle.rules.specs.CodeBytes.{instruction_at, instructions}
use Rattle.rules.specs.Limits.{item_limit}
use Rattle.rules.specs.Machine.{execute, cuts, at_instruction, step_at, step_in, step, unwind}
use Rattle.rules.specs.Schedule.{asks}
use Rattle.rules.specs.declared.Instruction.{Instruction}
use Rattle.rules.specs.declared.Instruction.TheVariants.{Throw}
use Rattle.rules.specs.declared.Reason.{Reason}
use Rattle.rules.proofs.Step.Counted.{Counted, instruction_counted, unwound_counted}
use Rattle.rules.proofs.Bytes.Instructions.{instruction_found}
use Rattle.machine.specs.Items.{items_of}
use Rattle.machine.specs.States.{state_of, step_of, place_of, thrown_of, Ready, AtInstruction, HasStep, Steppable}
use Rattle.machine.specs.States.{Carries, Steps, Unwinds}
use Rattle.machine.specs.declared.state.Machine.{Machine}
use Rattle.machine.specs.declared.state.Mode.{Mode}
use Rattle.machine.specs.declared.state.Mode.TheVariants.{Running, Unwinding}
use Rattle.machine.proofs.Stacked.{length_items_of}

-- ---- the rule, by what the machine does

module _ (code schedule stack : List ℕ) (m : Machine) where
  pub step_running : {a : ℕ} → m.mode ≡ Running a
      → step (instructions code) (asks schedule) (state_of stack m)
      ≡ step_at (asks schedule) (state_of stack m) a (get_elem? (instructions code) a)
  unfolding step step_in
  step_running e = rw e

  pub step_unwinding : m.mode ≡ Unwinding
      → step (instructions code) (asks schedule) (state_of stack m) ≡ unwind (state_of stack m) (items_of stack m.height)
  unfolding step step_in
  step_unwinding e = rw e

  at_its_instruction : {a : ℕ} → m.mode ≡ Running a → AtInstruction code a
      → step (instructions code) (asks schedule) (state_of stack m)
      ≡ at_instruction (asks schedule) (state_of stack m) a (instruction_at code a)
  unfolding step_at
  at_its_instruction {a} running here = step_running running ∙ rw (instruction_found code a here.below, step_at)

  -- ---- what it counts

  module _ (has : HasStep code m) (height : m.height ≤ item_limit) where
    abbrev One : Type 0
    One = Counted (state_of stack m) (step (instructions code) (asks schedule) (state_of stack m))

    few : length (items_of stack m.height) ≤ item_limit
    few = omega (arith, height, length_items_of stack m.height)

    by_mode : (mode : Mode) → m.mode ≡ mode → One
    by_mode (Running a) e =
        rw (at_its_instruction e (has.running a e))
        (instruction_counted (state_of stack m) few (asks schedule) a (instruction_at code a))
    by_mode Unwinding e =
        rw (step_unwinding e)
        (unwound_counted (state_of stack m) (items_of stack m.height)
        (omega (arith, has.unwinding e, length_items_of stack m.height))
        few)

    pub counted : One
    counted = by_mode m.mode refl

-- ---- what is done

pub or_else_unwinds : (mode : Mode) → ((a : ℕ) → mode ≡ Running a → ⊥) → mode ≡ Unwinding
or_else_unwinds (Running a) none = absurd (none a refl)
or_else_unwinds Unwinding none = refl

pub thrown : (a : ℕ) (stack : List ℕ) (m : Machine) → Carries Throw a stack m (Ok (thrown_of m)) stack
unfolding execute step_of
thrown a stack m = refl

module _ {code : List ℕ} {m : Machine} (can : Steppable code m) where
  pub ready : {a : ℕ} → m.mode ≡ Running a → Ready a m
  ready {a} running = record { within = can.within; limit = (can.has.running a running).limit }

  module _ (schedule stack : List ℕ) where
    pub unwound : m.mode ≡ Unwinding → (next : Machine) → Unwinds stack m next → Steps code schedule stack m (Ok next) stack
    unfolding step_of
    unwound unwinding next e = sym (step_unwinding code schedule stack m unwinding ∙ e)

    module _ {a : ℕ} (running : m.mode ≡ Running a) where
      rule : step (instructions code) (asks schedule) (state_of stack m)
          ≡ at_instruction (asks schedule) (state_of stack m) a (instruction_at code a)
      rule = at_its_instruction code schedule stack m running (can.has.running a running)

      pub cut : true ≡ cuts m.status (asks schedule m.reached) → Steps code schedule stack m (Ok (thrown_of m)) stack
      unfolding at_instruction step_of
      cut e = sym (rule ∙ rw (← e))

      pub carried_out : false ≡ cuts m.status (asks schedule m.reached) → {x : Instruction} → x ≡ instruction_at code a
          → (r : Result Machine Reason) (after : List ℕ) → Carries x a stack m r after → Steps code schedule stack m r after
      unfolding at_instruction
      carried_out e f r after does =
          rw (ap place_of running) (does ∙ sym (rule ∙ rw (← e, ← f)))
