-- The place and the totals of an answer are small, whatever the bytes: in the interface for C each has 32 bits.
--
--   compile_place   compiling is refused at a place below 512, if at all
--   Small           an answer with a place of at most 1,023, at most 1,535 steps, and no more instructions reached than steps
--   run_small       such is every answer of running
--
-- Assumes nothing.
use Prim.Native.Nat.{ℕ, zero, suc, ◌+◌, ◌≤◌, ◌<◌}
use native.Mathlib.Omega.{arith}
use lib.ListN.{length}
use mathlib.Core.List.{List}
use mathlib.Core.Option.{Option, none, some}
use mathlib.Core.Path.{◌≡◌, refl}
use Rattle.rules.specs.Answers.{status_numbered, outcome_place, compiled_place}
use Rattle.rules.specs.Bytes.{records}
use Rattle.rules.specs.CodeBytes.{instructions, code_tests}
use Rattle.rules.specs.Compiling.{compile_tests, compile_answer}
use Rattle.rules.specs.Limits.{node_limit, instruction_limit, step_limit}
use Rattle.rules.specs.Machine.{State, fresh, Step, Placing, Next, Over, Stuck, step}
use Rattle.rules.specs.Refusals.{first_refusal}
use Rattle.rules.specs.Run.{answer, too_many_steps, run, runs}
use Rattle.rules.specs.Running.{run_tests, run_answer}
use Rattle.rules.specs.Schedule.{asks}
use Rattle.rules.specs.declared.Answer.{Answer}
use Rattle.rules.specs.declared.Instruction.{Instruction}
use Rattle.rules.specs.declared.Refusal.{Refusal}
use Rattle.rules.specs.declared.Status.{Status}
use Rattle.rules.proofs.Step.Addresses.{Within, Bounded, step_within}
use Rattle.rules.proofs.Bytes.AcceptedCode.{bounded_accepted}
use Rattle.rules.proofs.Bytes.Answered.{compile_passed, compile_refused, run_passed, run_refused}
use Rattle.rules.proofs.Bytes.Instructions.{length_instructions}
use Rattle.rules.proofs.Step.Order.{run_next, run_stuck, run_limit_next, run_limit_stuck, run_over}
use Rattle.rules.proofs.Bytes.RefusedPlaces.{RefusesBelow, passes, refuses, compiling_below, accepted_few, running_below}
use Rattle.rules.proofs.Step.Bounds.{Limited, step_limited}
use Rattle.std.specs.Prelude.{Result, Err}
use Rattle.rules.proofs.Refusals.{first_none}
use Rattle.rules.specs.declared.End.{End}

-- ---- compiling

module _ (table buffer : List ℕ) where
  place_by : (first : Option Refusal) → first_refusal (compile_tests table buffer) ≡ first → RefusesBelow node_limit first
      → compiled_place (compile_answer table buffer) < node_limit
  unfolding compiled_place
  place_by none e passes = rw (compile_passed table buffer e).0 (omega arith)
  place_by (some r) e (refuses low) = rw (compile_refused table buffer e).0 low

  pub compile_place : compiled_place (compile_answer table buffer) < node_limit
  compile_place = place_by (first_refusal (compile_tests table buffer)) refl (compiling_below table buffer)

-- ---- a run

pub record Small (a : Answer) : Type 0 where
  pub place : outcome_place a.outcome ≤ instruction_limit
  pub steps : a.steps ≤ step_limit
  pub reached : a.reached ≤ a.steps

-- a state of a run, with `left` more steps allowed
record Underway (n left : ℕ) (s : State) : Type 0 where
  within : Within n s
  steps : s.steps + left ≤ step_limit
  reached : s.reached ≤ s.steps

module _ {n : ℕ} {code : List Instruction} (bounded : Bounded n code) (long : length code ≤ n) (few : n ≤ instruction_limit)
    (placing : Placing) where
  module _ {left : ℕ} {s : State} (underway : Underway n left s) where
    answer_small : (o : Result End Refusal) → outcome_place o ≤ n → Small (answer s o)
    answer_small o low = omega (arith, underway)

    limit_small : Small (answer s too_many_steps)
    unfolding outcome_place
    limit_small = answer_small too_many_steps (omega arith)

    limited_here : Limited n s (step code placing s)
    limited_here = step_limited n s code placing underway.within.address

  small_at_limit : {s : State} → Underway n zero s → (x : Step) → step code placing s ≡ x → Limited n s x
      → Small (run code placing zero s)
  small_at_limit {s} underway (Next next) e limited = rw (run_limit_next code placing s e) (limit_small underway)
  small_at_limit {s} underway (Over o) e limited = rw (run_over code placing s zero e) (answer_small underway o limited)
  small_at_limit {s} underway (Stuck r) e limited = rw (run_limit_stuck code placing s e) (limit_small underway)

  small_before_limit : {left : ℕ} {s : State} → Underway n (suc left) s
      → ((next : State) → Underway n left next → Small (run code placing left next))
      → (x : Step) → step code placing s ≡ x → Limited n s x → Small (run code placing (suc left) s)
  unfolding outcome_place
  small_before_limit {left} {s} underway later (Next next) e limited =
      let onward : Underway n left next = record {
        within = step_within bounded long placing underway.within e;
        steps = omega (arith, underway.steps, limited);
        reached = omega (arith, underway.reached, limited);
      } in
      rw (run_next code placing s left e) (later next onward)
  small_before_limit {left} {s} underway later (Over o) e limited =
      rw (run_over code placing s (suc left) e) (answer_small underway o limited)
  small_before_limit {left} {s} underway later (Stuck r) e limited =
      rw (run_stuck code placing s left e) (answer_small underway (Err r) limited)

  underway_small : (left : ℕ) (s : State) → Underway n left s → Small (run code placing left s)
  underway_small zero s underway = small_at_limit underway (step code placing s) refl (limited_here underway)
  underway_small (suc left) s underway =
      small_before_limit underway (underway_small left) (step code placing s) refl (limited_here underway)

  runs_small : (i : Status) → Small (runs code placing i)
  unfolding runs
  runs_small i =
      let start : Within n (fresh i) = record { address = omega arith; handlers = tt } in
      underway_small step_limit (fresh i) (record { within = start; steps = omega arith; reached = omega arith })

-- ---- running

module _ (status : ℕ) (code schedule stack : List ℕ) where
  small_by : (first : Option Refusal) → first_refusal (run_tests status code stack) ≡ first → RefusesBelow instruction_limit first
      → Small (run_answer status code schedule stack)
  unfolding run_tests outcome_place
  small_by none e passes =
      let passed : first_refusal (code_tests code) ≡ none = (first_none _ _ (first_none _ _ e).1).1 in
      let long : length (instructions code) ≤ records code = omega (arith, length_instructions code) in
      rw (run_passed status code schedule stack e).0
      (runs_small (bounded_accepted code passed) long (accepted_few code passed) (asks schedule) (status_numbered status))
  small_by (some r) e (refuses low) = rw (run_refused status code schedule stack e).0 (omega arith)

  pub run_small : Small (run_answer status code schedule stack)
  run_small = small_by (first_refusal (run_tests status code stack)) refl (running_below code status stack)
