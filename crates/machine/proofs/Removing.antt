-- What the machine does with the top item in unwinding is what the rules say (`rules`, `specs/Machine`, `unwind`).
--
--   number_dropped, handler_entered, status_restored
--
-- Assumes nothing.
use Prim.Native.Nat.{ℕ, ◌-◌, ◌<◌}
use native.Mathlib.Omega.{arith}
use lib.IntN.{ℤ}
use mathlib.Core.List.{List}
use mathlib.Core.Path.{◌≡◌}
use Rattle.rules.specs.Machine.{unwind}
use Rattle.rules.specs.declared.Item.{Item}
use Rattle.rules.specs.declared.Item.TheVariants.{Number, Handler, Saved}
use Rattle.rules.specs.declared.Status.{Status}
use Rattle.machine.specs.Items.{item_at}
use Rattle.machine.specs.States.{unwound_of, Unwinds}
use Rattle.machine.specs.declared.state.Machine.{Machine}
use Rattle.machine.specs.declared.state.Mode.TheVariants.{Running, Unwinding}
use Rattle.machine.proofs.Stacked.{items_top}

module _ (stack : List ℕ) (m : Machine) (some : 0 < m.height) where
  -- with this item on top, this is the machine after the step
  abbrev Removes : Item → Machine → Type 0
  Removes x next = x ≡ item_at stack (m.height - 1) → Unwinds stack m next

  pub number_dropped : {n : ℤ} → Removes (Number n) (record (unwound_of m) { mode = Unwinding; height = m.height - 1 })
  unfolding unwind
  number_dropped e = rw (items_top stack m.height (omega arith), ← e, unwind)

  pub handler_entered : {a : ℕ} → Removes (Handler a) (record (unwound_of m) { mode = Running a; height = m.height - 1 })
  unfolding unwind
  handler_entered e = rw (items_top stack m.height (omega arith), ← e, unwind)

  pub status_restored : {i : Status}
      → Removes (Saved i) (record (unwound_of m) { mode = Unwinding; status = i; height = m.height - 1 })
  unfolding unwind
  status_restored e = rw (items_top stack m.height (omega arith), ← e, unwind)
