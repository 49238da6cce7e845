-- Where a run can come to: an instruction goes on one past itself or at its target, a throw at a handler, and a handler is the
-- target of a MARK.
--
--   Within         a state whose address, and each handler's, is at most n
--   Bounded        a code whose targets are at most n
--   step_within    a step keeps a state within
--   meets_within   and so does a run
--
-- Assumes nothing.
use Prim.Native.Nat.{ℕ, ◌≤◌, ◌<◌}
use native.Mathlib.Omega.{arith}
use lib.ListN.{length, get_elem?}
use mathlib.Core.List.{List, [], ◌∷◌}
use mathlib.Core.Option.{some}
use mathlib.Core.Path.{◌≡◌}
use Rattle.rules.specs.Code.{target_of}
use Rattle.rules.specs.Machine.{State, Mode, Running, Unwinding, Step, Placing, Next, Over, Stuck, step}
use Rattle.rules.specs.declared.Instruction.{Instruction}
use Rattle.rules.specs.declared.Item.{Item}
use Rattle.rules.specs.declared.Item.TheVariants.{Number, Handler, Saved}
use Rattle.rules.specs.declared.Status.{Status}
use Rattle.rules.proofs.Lists.{below_found}
use Rattle.rules.proofs.Step.Effects.{Pushes, number, handler, saved, Takes, Change}
use Rattle.rules.proofs.Step.Effects.{pushed, popped, replaced, thrown, carried, refused}
use Rattle.rules.proofs.Step.Effects.{Undoes, removed, empty, Stepped, instruction, ended, unended, unwinding, step_effect}
use Rattle.rules.proofs.Step.States.{Meets, here, later}

-- ---- states and codes within n

abbrev pub Handlers : ℕ → List Item → Type 0
Handlers n [] = Unit
Handlers n (Number k ∷ rest) = Handlers n rest
Handlers n (Handler a ∷ rest) = (a ≤ n) × Handlers n rest
Handlers n (Saved i ∷ rest) = Handlers n rest

abbrev pub At : ℕ → Mode → Type 0
At n (Running a) = a ≤ n
At n Unwinding = Unit

pub record Within (n : ℕ) (s : State) : Type 0 where
  pub address : At n s.mode
  pub handlers : Handlers n s.items

pub record Bounded (n : ℕ) (code : List Instruction) : Type 0 where
  pub targets : (a : ℕ) (x : Instruction) → get_elem? code a ≡ some x → target_of x ≤ n

-- ---- a step

abbrev Keeps : ℕ → Step → Type 0
Keeps n (Next next) = Within n next
Keeps n (Over o) = Unit
Keeps n (Stuck r) = Unit

module _ (n : ℕ) where
  pushed_within : {i j : Status} {x : Instruction} {item : Item} (rest : List Item) → Pushes i x item j → target_of x ≤ n
      → Handlers n rest → Handlers n (item ∷ rest)
  pushed_within rest number target handlers = handlers
  pushed_within rest handler target handlers = (target, handlers)
  pushed_within rest saved target handlers = handlers

  taken_within : {a b : ℕ} {i j : Status} {x : Instruction} {item : Item} (rest : List Item) → Takes a i x item b j → a < n
      → target_of x ≤ n → Handlers n (item ∷ rest) → (b ≤ n) × Handlers n rest
  taken_within rest number below target handlers = (omega arith, handlers)
  taken_within rest handler below target handlers = (target, handlers.1)
  taken_within rest saved below target handlers = (omega arith, handlers)

  undone_within : {i j : Status} {item : Item} {m : Mode} (rest : List Item) → Undoes i item m j → Handlers n (item ∷ rest)
      → At n m × Handlers n rest
  undone_within rest number handlers = (tt, handlers)
  undone_within rest handler handlers = handlers
  undone_within rest saved handlers = (tt, handlers)

  module _ (s : State) (within : Handlers n s.items) where
    change_within : {x : Instruction} {a : ℕ} {m : Mode} {j : Status} {items : List Item} → a < n → target_of x ≤ n
        → Change x a s m j items → At n m × Handlers n items
    change_within below target (pushed pushes room) = (omega arith, pushed_within s.items pushes target within)
    change_within below target (popped e) = (omega arith, rw e at within)
    change_within below target (replaced {rest = rest} takes e) = taken_within rest takes below target (rw e at within)
    change_within below target thrown = (tt, within)

    stepped_within : {code : List Instruction} {m : Mode} {next : Step} → Bounded n code → length code ≤ n
        → Stepped code s m next → Keeps n next
    stepped_within {code} bounded long (instruction {a} {x} e (carried change)) =
        let after = change_within (omega (arith, below_found code a e)) (bounded.targets a x e) change in
        record { address = after.0; handlers = after.1 }
    stepped_within bounded long (instruction e refused) = tt
    stepped_within bounded long ended = tt
    stepped_within bounded long unended = tt
    stepped_within bounded long (unwinding e (removed {rest = rest} undoes)) =
        let after = undone_within rest undoes (rw e at within) in
        record { address = after.0; handlers = after.1 }
    stepped_within bounded long (unwinding e empty) = tt

module _ {n : ℕ} {code : List Instruction} (bounded : Bounded n code) (long : length code ≤ n) (placing : Placing) where
  pub step_within : {s next : State} → Within n s → step code placing s ≡ Next next → Within n next
  step_within {s} within e = rw e at (stepped_within n s within.handlers bounded long (step_effect code s placing))

  pub meets_within : {s met : State} → Within n s → Meets code placing s met → Within n met
  meets_within within here = within
  meets_within within (later e meets) = meets_within (step_within within e) meets
