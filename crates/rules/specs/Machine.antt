-- One step of the machine (document 01, the section of that name; 001, section 7).
--
--   Mode       running at an address, or unwinding
--   State      mode, status, items with the top first, steps taken, instructions reached
--   fresh      the state in which a run begins
--   Placing    which instructions a recall is asked for at, by the number reached
--   Step       what a step comes to: the next state; over, with no step taken; stuck, a step that is refused
--   cuts       whether the instruction reached is cut
--   step       one step
--
-- Assumes nothing.
use Rattle.std.specs.Prelude.{ℕ, ◌+◌, ℤ, ltb, length, Bool, false, cond, List, [], ◌∷◌, Result, Ok, Err}
use Rattle.std.proofs.Math.ListN.{get_elem?}
use Rattle.std.proofs.Math.Option.{Option, none, some}
use Rattle.rules.specs.Limits.{item_limit}
use Rattle.rules.specs.Number.{sum}
use Rattle.rules.specs.declared.Status.{Status}
use Rattle.rules.specs.declared.Status.TheVariants.{Blocked, Unblocked}
use Rattle.rules.specs.declared.Instruction.{Instruction}
use Rattle.rules.specs.declared.Instruction.TheVariants.{Push, Pop, Mark, Unmark, Set, Reset}
use Rattle.rules.specs.declared.Item.{Item}
use Rattle.rules.specs.declared.Item.TheVariants.{Number, Handler, Saved}
use Rattle.rules.specs.declared.End.{End}
use Rattle.rules.specs.declared.Reason.TheVariants.{StackFull, NoRule}
use Rattle.rules.specs.declared.Refusal.{Refusal}

pub data Mode : Type 0 where
  Running : ℕ → Mode
  Unwinding : Mode

pub record State : Type 0 where
  pub mode : Mode
  pub status : Status
  pub items : List Item
  pub steps : ℕ
  pub reached : ℕ

abbrev pub fresh : Status → State
fresh i = record { mode = Running 0; status = i; items = []; steps = 0; reached = 0 }

abbrev pub Placing : Type 0
Placing = ℕ → Bool

pub data Step : Type 0 where
  Next : State → Step
  Over : Result End Refusal → Step
  Stuck : Refusal → Step

-- ---- the ways on from a state

-- the instruction was carried out or cut: both counts grow
abbrev pub onward : State → Mode → Status → List Item → Step
onward s m i items = Next (record { mode = m; status = i; items = items; steps = s.steps + 1; reached = s.reached + 1 })

-- an item was removed in unwinding: no instruction is reached
abbrev pub unwound : State → Mode → Status → List Item → Step
unwound s m i items = Next (record { mode = m; status = i; items = items; steps = s.steps + 1; reached = s.reached })

abbrev pub no_rule : ℕ → Refusal
no_rule a = record { reason = NoRule; place = a }

-- ---- the items that an instruction needs: `otherwise` where they are not there

unfoldable pub with_number : {A : Type 0} → List Item → A → (ℤ → List Item → A) → A
with_number [] otherwise f = otherwise
with_number (Number n ∷ rest) otherwise f = f n rest
with_number (Handler h ∷ rest) otherwise f = otherwise
with_number (Saved i ∷ rest) otherwise f = otherwise

unfoldable pub with_handler : {A : Type 0} → List Item → A → (List Item → A) → A
with_handler [] otherwise f = otherwise
with_handler (Number n ∷ rest) otherwise f = otherwise
with_handler (Handler h ∷ rest) otherwise f = f rest
with_handler (Saved i ∷ rest) otherwise f = otherwise

unfoldable pub with_saved : {A : Type 0} → List Item → A → (Status → List Item → A) → A
with_saved [] otherwise f = otherwise
with_saved (Number n ∷ rest) otherwise f = otherwise
with_saved (Handler h ∷ rest) otherwise f = otherwise
with_saved (Saved i ∷ rest) otherwise f = f i rest

unfoldable pub with_nothing : {A : Type 0} → List Item → A → A → A
with_nothing [] otherwise x = x
with_nothing (item ∷ rest) otherwise x = otherwise

-- ---- an instruction carried out, at its address

unfoldable pub push : Item → ℕ → State → Status → Step
push item a s i =
    cond (ltb (length s.items) item_limit)
    (onward s (Running (a + 1)) i (item ∷ s.items))
    (Stuck (record { reason = StackFull; place = a }))

unfoldable pub execute : Instruction → ℕ → State → Step
execute (Push n) a s = push (Number n) a s s.status
execute Instruction.Throw a s = onward s Unwinding s.status s.items
execute Instruction.Add a s =
    with_number s.items (Stuck (no_rule a)) λ m below.
    with_number below (Stuck (no_rule a)) λ n rest.
    onward s (Running (a + 1)) s.status (Number (sum n m) ∷ rest)
execute Pop a s =
    with_number s.items (Stuck (no_rule a)) λ n rest.
    onward s (Running (a + 1)) s.status rest
execute (Mark t) a s = push (Handler t) a s s.status
execute (Unmark t) a s =
    with_number s.items (Stuck (no_rule a)) λ n below.
    with_handler below (Stuck (no_rule a)) λ rest.
    onward s (Running t) s.status (Number n ∷ rest)
execute (Set i) a s = push (Saved s.status) a s i
execute Reset a s =
    with_number s.items (Stuck (no_rule a)) λ n below.
    with_saved below (Stuck (no_rule a)) λ i rest.
    onward s (Running (a + 1)) i (Number n ∷ rest)

-- ---- one step

-- "If the status is unblocked and the schedule asks for a recall here"
unfoldable pub cuts : Status → Bool → Bool
cuts Blocked asked = false
cuts Unblocked asked = asked

unfoldable pub at_instruction : Placing → State → ℕ → Instruction → Step
at_instruction placing s a x =
    cond (cuts s.status (placing s.reached)) (onward s Unwinding s.status s.items) (execute x a s)

-- "Running at the length with one item, a number, ends in that number"
unfoldable pub at_length : State → ℕ → Step
at_length s a =
    with_number s.items (Over (Err (no_rule a))) λ n rest.
    with_nothing rest (Over (Err (no_rule a))) (Over (Ok (End.Number n)))

unfoldable pub unwind : State → List Item → Step
unwind s [] = Over (Ok End.Throw)
unwind s (Number n ∷ rest) = unwound s Unwinding s.status rest
unwind s (Handler h ∷ rest) = unwound s (Running h) s.status rest
unwind s (Saved i ∷ rest) = unwound s Unwinding i rest

unfoldable pub step_at : Placing → State → ℕ → Option Instruction → Step
step_at placing s a none = at_length s a
step_at placing s a (some x) = at_instruction placing s a x

unfoldable pub step_in : List Instruction → Placing → State → Mode → Step
step_in code placing s (Running a) = step_at placing s a (get_elem? code a)
step_in code placing s Unwinding = unwind s s.items

unfoldable pub step : List Instruction → Placing → State → Step
step code placing s = step_in code placing s s.mode
