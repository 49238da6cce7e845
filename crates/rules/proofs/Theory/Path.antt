-- Paths of the machine: runs of steps that end in a state, with never more than `room` items on the stack.
--
--   Goes, Path              one step; some steps, one after another
--   go, pushes, cut         the step at an instruction that is carried out, that pushes, that is cut
--   drop, restore, handle   the steps of unwinding
--
-- Assumes nothing.
use Prim.Native.Nat.{ℕ, suc, ◌+◌, ◌≤◌}
use lib.IntN.{ℤ}
use lib.ListN.{length}
use borrow.Author.Tests.{lt-ltb}
use native.Mathlib.Omega.{arith}
use mathlib.Core.Bool.{true, false}
use mathlib.Core.List.{List, ◌∷◌}
use mathlib.Core.Path.{◌≡◌, refl, ◌∙◌}
use Rattle.rules.specs.Limits.{item_limit}
use Rattle.rules.specs.Machine.{State, Mode, Placing, Next, onward, cuts, execute, push, unwind, step_in, step}
use Rattle.rules.specs.declared.Status.{Status}
use Rattle.rules.specs.declared.Instruction.{Instruction}
use Rattle.rules.specs.declared.Item.{Item}
use Rattle.rules.specs.declared.Item.TheVariants.{Number, Handler, Saved}
use Rattle.rules.proofs.Step.Order.{running, unwinding, Has, step_cut, step_carried}

module _ (code : List Instruction) (placing : Placing) (room : ℕ) where
  pub record Goes (s u : State) : Type 0 where
    pub taken : step code placing s ≡ Next u
    pub counted : u.steps ≡ s.steps + 1
    pub fits : length u.items ≤ room

  infixr 40 ◌▸◌
  pub data Path : State → State → Type 0 where
    done : {s : State} → Path s s
    ◌▸◌ : {s u v : State} → Goes s u → Path u v → Path s v

module _ {code : List Instruction} {placing : Placing} {room : ℕ} where
  infixr 35 ◌▹◌
  pub ◌▹◌ : {s u v : State} → Path code placing room s u → Path code placing room u v → Path code placing room s v
  done ▹ q = q
  (g ▸ p) ▹ q = g ▸ (p ▹ q)

  -- ---- at an instruction

  module _ {a t r : ℕ} {x : Instruction} {i : Status} {s : List Item} where
    pub go : {m : Mode} {j : Status} {s' : List Item} → Has code a x → cuts i (placing r) ≡ false
        → execute x a (running a i s t r) ≡ onward (running a i s t r) m j s' → length s' ≤ room
        → Goes code placing room (running a i s t r) (record { mode = m; status = j; items = s'; steps = t + 1; reached = r + 1 })
    go h calm e f = record { taken = step_carried placing i s t r h calm ∙ e; counted = refl; fits = f }

    pub cut : Has code a x → cuts i (placing r) ≡ true → length s ≤ room
        → Goes code placing room (running a i s t r) (unwinding i s (t + 1) (r + 1))
    cut h struck f = record { taken = step_cut placing i s t r h struck; counted = refl; fits = f }

  -- ---- a push: what PUSH, MARK and SET have in common

  pub pushes : {a t r : ℕ} {x : Instruction} {i j : Status} {s : List Item} {item : Item}
      → room ≤ item_limit → Has code a x → cuts i (placing r) ≡ false
      → execute x a (running a i s t r) ≡ push item a (running a i s t r) j → suc (length s) ≤ room
      → Goes code placing room (running a i s t r) (running (a + 1) j (item ∷ s) (t + 1) (r + 1))
  unfolding push
  pushes {s = s} small h calm e f =
      let below : suc (length s) ≤ item_limit = omega arith in
      go h calm (e ∙ rw (lt-ltb (length s) item_limit below)) f

  -- ---- unwinding

  module _ {i : Status} {s : List Item} {t r : ℕ} (f : length s ≤ room) where
    pub drop : {n : ℤ} → Goes code placing room (unwinding i (Number n ∷ s) t r) (unwinding i s (t + 1) r)
    unfolding step step_in unwind
    drop = record { taken = refl; counted = refl; fits = f }

    pub restore : {j : Status} → Goes code placing room (unwinding i (Saved j ∷ s) t r) (unwinding j s (t + 1) r)
    unfolding step step_in unwind
    restore = record { taken = refl; counted = refl; fits = f }

    pub handle : {h : ℕ} → Goes code placing room (unwinding i (Handler h ∷ s) t r) (running h i s (t + 1) r)
    unfolding step step_in unwind
    handle = record { taken = refl; counted = refl; fits = f }
