-- A step that is taken counts one step and at most one instruction reached, and leaves at most 512 items.
--
--   CountsOne              of the state after it
--   Counted                of what a step comes to: such a state, or a step refused, but no end
--   instruction_counted    running at an instruction
--   unwound_counted        unwinding, with an item left
--   run_limit              with no steps left such a step is not taken: 15
--
-- Assumes nothing.
use Prim.Native.Nat.{ℕ, zero, ◌+◌, ◌≤◌, ◌<◌}
use native.Mathlib.Omega.{arith}
use lib.ListN.{length}
use mathlib.Core.List.{List}
use mathlib.Core.Path.{◌≡◌, refl, ap}
use Rattle.rules.specs.Limits.{item_limit}
use Rattle.rules.specs.Machine.{State, Mode, Step, Placing, Next, Over, Stuck, at_instruction, unwind, step}
use Rattle.rules.specs.Run.{answer, too_many_steps, run}
use Rattle.rules.specs.declared.Instruction.{Instruction}
use Rattle.rules.specs.declared.Item.{Item}
use Rattle.rules.specs.declared.Status.{Status}
use Rattle.rules.proofs.Step.Effects.{Change, pushed, popped, replaced, thrown}
use Rattle.rules.proofs.Step.Effects.{Effect, carried, refused, instruction_effect}
use Rattle.rules.proofs.Step.Effects.{Unwound, removed, empty, unwound_effect}
use Rattle.rules.proofs.Step.Order.{run_limit_next, run_limit_stuck}

pub record CountsOne (s next : State) : Type 0 where
  pub steps : next.steps ≡ s.steps + 1
  pub reached : next.reached ≤ s.reached + 1
  pub items : length next.items ≤ item_limit

abbrev pub Counted : State → Step → Type 0
Counted s (Next next) = CountsOne s next
Counted s (Over o) = ⊥
Counted s (Stuck r) = Unit

-- ---- running at an instruction

module _ (s : State) (few : length s.items ≤ item_limit) where
  change_few : {x : Instruction} {a : ℕ} {m : Mode} {i : Status} {items : List Item} → Change x a s m i items
      → length items ≤ item_limit
  change_few (pushed pushes room) = room
  change_few (popped e) = omega (arith, ap length e)
  change_few (replaced takes e) = omega (arith, ap length e)
  change_few thrown = few

  effect_counted : {x : Instruction} {a : ℕ} {next : Step} → Effect x a s next → Counted s next
  effect_counted (carried change) = record { steps = refl; reached = omega arith; items = change_few change }
  effect_counted refused = tt

  pub instruction_counted : (placing : Placing) (a : ℕ) (x : Instruction) → Counted s (at_instruction placing s a x)
  instruction_counted placing a x = effect_counted (instruction_effect a s placing x)

-- ---- unwinding

removed_counted : {s : State} {items : List Item} {next : Step} → 0 < length items → length items ≤ item_limit
    → Unwound s items next → Counted s next
removed_counted some few (removed undoes) = record { steps = refl; reached = omega arith; items = omega arith }
removed_counted some few empty = absurd (omega arith)

pub unwound_counted : (s : State) (items : List Item) → 0 < length items → length items ≤ item_limit → Counted s (unwind s items)
unwound_counted s items some few = removed_counted some few (unwound_effect s items)

-- ---- the limit

module _ (code : List Instruction) (placing : Placing) (s : State) where
  limit_by : (x : Step) → step code placing s ≡ x → Counted s x → run code placing zero s ≡ answer s too_many_steps
  limit_by (Next next) e counted = run_limit_next code placing s e
  limit_by (Over o) e counted = absurd counted
  limit_by (Stuck r) e counted = run_limit_stuck code placing s e

  pub run_limit : Counted s (step code placing s) → run code placing zero s ≡ answer s too_many_steps
  run_limit counted = limit_by (step code placing s) refl counted
