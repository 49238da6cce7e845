-- A step of the machine leads from one of the rules' states to the next (document 01, "each state and both counts are those of
-- the rules").
--
--   Holds        after its steps the machine, with its stack, holds the rules' state after so many
--   begins       a fresh machine does
--   each_state   and so does the machine after a step that is taken, which is one step later
--
-- Assumes nothing.
use Prim.Native.Nat.{ℕ, suc, ◌≤◌}
use native.Mathlib.Omega.{arith}
use mathlib.Core.List.{List}
use mathlib.Core.Option.{some}
use mathlib.Core.Path.{◌≡◌, refl, sym, ap, ◌∙◌}
use Rattle.std.specs.Prelude.{Ok}
use Rattle.rules.specs.CodeBytes.{instructions}
use Rattle.rules.specs.Limits.{item_limit}
use Rattle.rules.specs.Run.{state_after}
use Rattle.rules.specs.Schedule.{asks}
use Rattle.rules.specs.declared.Status.{Status}
use Rattle.rules.proofs.Step.Counted.{CountsOne}
use Rattle.rules.proofs.Step.States.{state_next}
use Rattle.machine.specs.Items.{items_of}
use Rattle.machine.specs.States.{state_of, step_of, fresh_of, HasStep, Steps}
use Rattle.machine.specs.declared.state.Machine.{Machine}
use Rattle.machine.proofs.Stepping.{counted}

module _ (i : Status) (code schedule : List ℕ) where
  abbrev pub Holds : List ℕ → Machine → Type 0
  Holds stack m = state_after (instructions code) (asks schedule) i m.steps ≡ some (state_of stack m)

  pub begins : (stack : List ℕ) → Holds stack (fresh_of i)
  unfolding state_after items_of
  begins stack = refl

module _ {code : List ℕ} {m : Machine} (has : HasStep code m) (height : m.height ≤ item_limit)
    (schedule stack after : List ℕ) (next : Machine) (does : Steps code schedule stack m (Ok next) after) where
  pub counts_one : CountsOne (state_of stack m) (state_of after next)
  unfolding step_of
  counts_one = rw (sym does) at (counted code schedule stack m has height)

  pub each_state : (i : Status) → Holds i code schedule stack m → Holds i code schedule after next
  unfolding step_of
  each_state i here =
      let later : next.steps ≡ suc m.steps = omega (arith, counts_one.steps) in
      ap (state_after (instructions code) (asks schedule) i) later
      ∙ state_next (instructions code) (asks schedule) i m.steps here (sym does)
