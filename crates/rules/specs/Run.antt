-- A run (document 01, "One step of the machine" and "Refusal numbers").
--
--   run code placing left s   what running from s comes to, with `left` more steps allowed
--   runs                      a run from a fresh state, with all its steps
--   state_after               its states one by one: the one after so many steps, where so many can be taken
--
-- Assumes nothing.
use Rattle.std.specs.Prelude.{ℕ, zero, suc, List, Result, Err}
use Rattle.std.proofs.Math.Option.{Option, none, some}
use Rattle.rules.specs.Limits.{step_limit}
use Rattle.rules.specs.Machine.{State, fresh, Placing, Step, Next, Over, Stuck, step}
use Rattle.rules.specs.declared.Status.{Status}
use Rattle.rules.specs.declared.Instruction.{Instruction}
use Rattle.rules.specs.declared.Answer.{Answer}
use Rattle.rules.specs.declared.Reason.{Reason}
use Rattle.rules.specs.declared.Refusal.{Refusal}
use Rattle.rules.specs.declared.End.{End}

-- with the totals of the last state
abbrev pub answer : State → Result End Refusal → Answer
answer s o = record { outcome = o; steps = s.steps; reached = s.reached }

abbrev pub too_many_steps : Result End Refusal
too_many_steps = Err (record { reason = Reason.Steps; place = 0 })

-- "an end or 14 at the length comes before 15, 15 before a step"; "a refused step counts in neither total"
unfoldable pub run : List Instruction → Placing → ℕ → State → Answer
run code placing zero s =
    elim (step code placing s) [ Next next ↦ answer s too_many_steps | Over o ↦ answer s o | Stuck r ↦ answer s too_many_steps ]
run code placing (suc left) s =
    elim (step code placing s) [ Next next ↦ run code placing left next | Over o ↦ answer s o | Stuck r ↦ answer s (Err r) ]

unfoldable pub runs : List Instruction → Placing → Status → Answer
runs code placing i = run code placing step_limit (fresh i)

-- ---- the states on the way

unfoldable pub next_of : Step → Option State
next_of (Next next) = some next
next_of (Over o) = none
next_of (Stuck r) = none

unfoldable pub step_from : List Instruction → Placing → Option State → Option State
step_from code placing none = none
step_from code placing (some s) = next_of (step code placing s)

-- "each state .. [is] those of the rules": the state after so many steps
unfoldable pub state_after : List Instruction → Placing → Status → ℕ → Option State
state_after code placing i zero = some (fresh i)
state_after code placing i (suc k) = step_from code placing (state_after code placing i k)
