-- What a step does to a state, by a few cases. The instructions are walked here and nowhere else.
--
--   Pushes               what an instruction pushes
--   Takes                what it takes from under a number, and where it then goes on
--   Change               what becomes of mode, status and items where an instruction is carried out or cut
--   Effect               what an instruction comes to: a change, or refused at its address
--   instruction_effect   such is every instruction
--   Undoes               what becomes of mode and status where an item is removed in unwinding
--   Unwound              what unwinding comes to: an item removed, or a throw where there is none
--   unwound_effect       such is all unwinding
--   Stepped              what a step comes to: one of these, or the run is over at the length
--   step_effect          such is every step
--
-- Assumes nothing.
use Prim.Native.Nat.{ℕ, ◌+◌, ◌<◌}
use borrow.Author.Tests.{ltb-true}
use lib.Dec.{ltb}
use lib.IntN.{ℤ}
use lib.ListN.{length, get_elem?}
use mathlib.Core.Bool.{Bool, true, false, cond}
use mathlib.Core.List.{List, [], ◌∷◌}
use mathlib.Core.Option.{Option, none, some}
use mathlib.Core.Path.{◌≡◌, refl, ap, ◌∙◌}
use Rattle.rules.specs.Limits.{item_limit}
use Rattle.rules.specs.Machine.{State, Mode, Running, Unwinding, Placing, Step, Over, Stuck, onward, unwound, no_rule}
use Rattle.rules.specs.Machine.{with_number, with_handler, with_saved}
use Rattle.rules.specs.Machine.{with_nothing, push, execute, cuts, at_instruction, at_length}
use Rattle.rules.specs.Machine.{unwind, step_at, step_in, step}
use Rattle.rules.specs.declared.End.{End}
use Rattle.rules.specs.declared.Instruction.{Instruction}
use Rattle.rules.specs.declared.Instruction.TheVariants.{Push, Throw, Add, Pop, Mark, Unmark, Set, Reset}
use Rattle.rules.specs.declared.Item.{Item}
use Rattle.rules.specs.declared.Item.TheVariants.{Number, Handler, Saved}
use Rattle.rules.specs.declared.Reason.{Reason}
use Rattle.std.specs.Prelude.{Ok, Err}
use Rattle.rules.specs.declared.Status.{Status}

-- ---- an instruction

-- in status i: the item, and the status to go on in
pub data Pushes (i : Status) : Instruction → Item → Status → Type 0 where
  number : {n : ℤ} → Pushes i (Push n) (Number n) i
  handler : {t : ℕ} → Pushes i (Mark t) (Handler t) i
  saved : {j : Status} → Pushes i (Set j) (Saved i) j

-- at address a, in status i: the item, and the address and the status to go on in
pub data Takes (a : ℕ) (i : Status) : Instruction → Item → ℕ → Status → Type 0 where
  number : {n : ℤ} → Takes a i Add (Number n) (a + 1) i
  handler : {t h : ℕ} → Takes a i (Unmark t) (Handler h) t i
  saved : {j : Status} → Takes a i Reset (Saved j) (a + 1) j

module _ (x : Instruction) (a : ℕ) (s : State) where
  pub data Change : Mode → Status → List Item → Type 0 where
    pushed : {item : Item} {j : Status} → Pushes s.status x item j → length s.items < item_limit
        → Change (Running (a + 1)) j (item ∷ s.items)
    popped : {n : ℤ} {rest : List Item} → s.items ≡ Number n ∷ rest → Change (Running (a + 1)) s.status rest
    replaced : {n m : ℤ} {item : Item} {rest : List Item} {b : ℕ} {j : Status} → Takes a s.status x item b j
        → s.items ≡ Number n ∷ item ∷ rest → Change (Running b) j (Number m ∷ rest)
    -- by THROW, or by a recall
    thrown : Change Unwinding s.status s.items

  pub data Effect : Step → Type 0 where
    carried : {m : Mode} {j : Status} {items : List Item} → Change m j items → Effect (onward s m j items)
    refused : {reason : Reason} → Effect (Stuck (record { reason = reason; place = a }))

-- ---- by what an instruction finds

module _ (P : Step → Type 0) where
  either : (test : Bool) (x y : Step) → (test ≡ true → P x) → P y → P (cond test x y)
  either true x y p q = p refl
  either false x y p q = q

  module _ (otherwise : Step) (p : P otherwise) where
    with_number_lem : (items : List Item) (f : ℤ → List Item → Step)
        → ((n : ℤ) (rest : List Item) → items ≡ Number n ∷ rest → P (f n rest)) → P (with_number items otherwise f)
    unfolding with_number
    with_number_lem [] f q = p
    with_number_lem (Number n ∷ rest) f q = q n rest refl
    with_number_lem (Handler h ∷ rest) f q = p
    with_number_lem (Saved i ∷ rest) f q = p

    with_handler_lem : (items : List Item) (f : List Item → Step)
        → ((h : ℕ) (rest : List Item) → items ≡ Handler h ∷ rest → P (f rest)) → P (with_handler items otherwise f)
    unfolding with_handler
    with_handler_lem [] f q = p
    with_handler_lem (Number n ∷ rest) f q = p
    with_handler_lem (Handler h ∷ rest) f q = q h rest refl
    with_handler_lem (Saved i ∷ rest) f q = p

    with_saved_lem : (items : List Item) (f : Status → List Item → Step)
        → ((i : Status) (rest : List Item) → items ≡ Saved i ∷ rest → P (f i rest)) → P (with_saved items otherwise f)
    unfolding with_saved
    with_saved_lem [] f q = p
    with_saved_lem (Number n ∷ rest) f q = p
    with_saved_lem (Handler h ∷ rest) f q = p
    with_saved_lem (Saved i ∷ rest) f q = q i rest refl

    with_nothing_lem : (items : List Item) (x : Step) → P x → P (with_nothing items otherwise x)
    unfolding with_nothing
    with_nothing_lem [] x q = q
    with_nothing_lem (item ∷ rest) x q = p

module _ (a : ℕ) (s : State) where
  push_effect : {x : Instruction} {item : Item} {j : Status} → Pushes s.status x item j → Effect x a s (push item a s j)
  unfolding push
  push_effect {x} pushes =
      either (Effect x a s) (ltb (length s.items) item_limit) _ _
      (λ room. carried (pushed pushes (ltb-true _ _ room))) refused

  execute_effect : (x : Instruction) → Effect x a s (execute x a s)
  unfolding execute
  execute_effect (Push n) = push_effect number
  execute_effect Throw = carried thrown
  execute_effect Add =
      with_number_lem (Effect Add a s) _ refused s.items _ λ m below e.
      with_number_lem (Effect Add a s) _ refused below _ λ n rest f.
      carried (replaced number (e ∙ ap (λ items. Number m ∷ items) f))
  execute_effect Pop = with_number_lem (Effect Pop a s) _ refused s.items _ λ n rest e. carried (popped e)
  execute_effect (Mark t) = push_effect handler
  execute_effect (Unmark t) =
      with_number_lem (Effect (Unmark t) a s) _ refused s.items _ λ n below e.
      with_handler_lem (Effect (Unmark t) a s) _ refused below _ λ h rest f.
      carried (replaced handler (e ∙ ap (λ items. Number n ∷ items) f))
  execute_effect (Set j) = push_effect saved
  execute_effect Reset =
      with_number_lem (Effect Reset a s) _ refused s.items _ λ n below e.
      with_saved_lem (Effect Reset a s) _ refused below _ λ j rest f.
      carried (replaced saved (e ∙ ap (λ items. Number n ∷ items) f))

  pub instruction_effect : (placing : Placing) (x : Instruction) → Effect x a s (at_instruction placing s a x)
  unfolding at_instruction
  instruction_effect placing x =
      either (Effect x a s) (cuts s.status (placing s.reached)) _ _ (λ cut. carried thrown) (execute_effect x)

-- ---- unwinding

-- in status i: the mode and the status to go on in
pub data Undoes (i : Status) : Item → Mode → Status → Type 0 where
  number : {n : ℤ} → Undoes i (Number n) Unwinding i
  handler : {h : ℕ} → Undoes i (Handler h) (Running h) i
  saved : {j : Status} → Undoes i (Saved j) Unwinding j

module _ (s : State) where
  pub data Unwound : List Item → Step → Type 0 where
    removed : {item : Item} {rest : List Item} {m : Mode} {j : Status} → Undoes s.status item m j
        → Unwound (item ∷ rest) (unwound s m j rest)
    empty : Unwound [] (Over (Ok End.Throw))

  pub unwound_effect : (items : List Item) → Unwound items (unwind s items)
  unfolding unwind
  unwound_effect [] = empty
  unwound_effect (Number n ∷ rest) = removed number
  unwound_effect (Handler h ∷ rest) = removed handler
  unwound_effect (Saved j ∷ rest) = removed saved

-- ---- a step

module _ (code : List Instruction) (s : State) where
  pub data Stepped : Mode → Step → Type 0 where
    instruction : {a : ℕ} {x : Instruction} {step : Step} → get_elem? code a ≡ some x → Effect x a s step
        → Stepped (Running a) step
    -- at the length
    ended : {a : ℕ} {n : ℤ} → Stepped (Running a) (Over (Ok (End.Number n)))
    unended : {a : ℕ} → Stepped (Running a) (Over (Err (no_rule a)))
    unwinding : {items : List Item} {step : Step} → s.items ≡ items → Unwound s items step → Stepped Unwinding step

  at_length_effect : (a : ℕ) → Stepped (Running a) (at_length s a)
  unfolding at_length
  at_length_effect a =
      with_number_lem (Stepped (Running a)) _ unended s.items _ λ n rest e.
      with_nothing_lem (Stepped (Running a)) _ unended rest _ ended

  step_at_effect : (placing : Placing) (a : ℕ) (found : Option Instruction) → get_elem? code a ≡ found
      → Stepped (Running a) (step_at placing s a found)
  unfolding step_at
  step_at_effect placing a none e = at_length_effect a
  step_at_effect placing a (some x) e = instruction e (instruction_effect a s placing x)

  step_in_effect : (placing : Placing) (m : Mode) → Stepped m (step_in code placing s m)
  unfolding step_in
  step_in_effect placing (Running a) = step_at_effect placing a (get_elem? code a) refl
  step_in_effect placing Unwinding = unwinding refl (unwound_effect s s.items)

  pub step_effect : (placing : Placing) → Stepped s.mode (step code placing s)
  unfolding step
  step_effect placing = step_in_effect placing s.mode
