-- The laws by which a run is followed, step by step: what comes before what (document 01, "Refusal numbers": "an end or 14 at
-- the length comes before 15, 15 before a step, a recall before 13 or 14; a refused step counts in neither total").
--
--   running, unwinding   the two forms of a state
--   Has                  the code has an instruction at an address
--   step_cut             a recall cuts, whether or not the instruction could be carried out
--   step_carried         without one, the instruction is carried out
--   run_next             a step that is taken, with steps left
--   run_stuck            a step that is refused, with steps left: the totals are those before it
--   run_limit_next, run_limit_stuck   no steps left, and one to be taken or refused: 15
--   run_over             no step to be taken: the end, or 14 at the length, with steps left or none
--
-- Here and above: a an address, x an instruction, i a status, s the items, t the steps, r the instructions reached.
-- Assumes nothing.
use Prim.Native.Nat.{ℕ, zero, suc}
use lib.ListN.{get_elem?}
use mathlib.Core.Bool.{true, false}
use mathlib.Core.List.{List}
use mathlib.Core.Option.{some}
use mathlib.Core.Path.{◌≡◌}
use Rattle.rules.specs.Machine.{State, Running, Unwinding, Placing, Next, Over, Stuck}
use Rattle.rules.specs.Machine.{onward, execute, cuts, at_instruction, step_at, step_in, step}
use Rattle.rules.specs.Run.{answer, too_many_steps, run}
use Rattle.rules.specs.declared.Status.{Status}
use Rattle.rules.specs.declared.Instruction.{Instruction}
use Rattle.rules.specs.declared.Item.{Item}
use Rattle.std.specs.Prelude.{Result, Err}
use Rattle.rules.specs.declared.Refusal.{Refusal}
use Rattle.rules.specs.declared.End.{End}

abbrev pub running : ℕ → Status → List Item → ℕ → ℕ → State
running a i s t r = record { mode = Running a; status = i; items = s; steps = t; reached = r }

abbrev pub unwinding : Status → List Item → ℕ → ℕ → State
unwinding i s t r = record { mode = Unwinding; status = i; items = s; steps = t; reached = r }

pub record Has (code : List Instruction) (a : ℕ) (x : Instruction) : Type 0 where
  pub found : get_elem? code a ≡ some x

module _ {code : List Instruction} {a : ℕ} {x : Instruction} (placing : Placing) (i : Status) (s : List Item) (t r : ℕ)
    (h : Has code a x) where
  pub step_cut : cuts i (placing r) ≡ true → step code placing (running a i s t r) ≡ onward (running a i s t r) Unwinding i s
  unfolding step step_in step_at at_instruction
  step_cut e = rw (h.found, step_at, e)

  pub step_carried : cuts i (placing r) ≡ false → step code placing (running a i s t r) ≡ execute x a (running a i s t r)
  unfolding step step_in step_at at_instruction
  step_carried e = rw (h.found, step_at, e)

module _ (code : List Instruction) (placing : Placing) (s : State) where
  pub run_next : (left : ℕ) {next : State} → step code placing s ≡ Next next
      → run code placing (suc left) s ≡ run code placing left next
  unfolding run
  run_next left e = rw (e, run)

  pub run_stuck : (left : ℕ) {r : Refusal} → step code placing s ≡ Stuck r → run code placing (suc left) s ≡ answer s (Err r)
  unfolding run
  run_stuck left e = rw (e, run)

  pub run_limit_next : {next : State} → step code placing s ≡ Next next → run code placing zero s ≡ answer s too_many_steps
  unfolding run
  run_limit_next e = rw (e, run)

  pub run_limit_stuck : {r : Refusal} → step code placing s ≡ Stuck r → run code placing zero s ≡ answer s too_many_steps
  unfolding run
  run_limit_stuck e = rw (e, run)

  pub run_over : (left : ℕ) {o : Result End Refusal} → step code placing s ≡ Over o → run code placing left s ≡ answer s o
  unfolding run
  run_over zero e = rw (e, run)
  run_over (suc left) e = rw (e, run)
