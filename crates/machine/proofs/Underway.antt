-- A run, followed from state to state: after so many steps the machine holds the rules' state after so many.
--
--   Underway         so it is, and the counts and the items are within their limits
--   underway_fresh   at the beginning
--   goes_on          after a step that is taken
--   Stops            the answer of the whole run, and the state that it is left in
--   ended, refused, out_of_steps
--                    where no step is to be taken, where one is refused, and where none is left
--
-- Assumes nothing.
use Prim.Native.Nat.{ℕ, suc, ◌-◌, ◌≤◌, ◌<◌}
use native.Mathlib.Decide.{dec_lt}
use native.Mathlib.Omega.{arith}
use mathlib.Core.List.{List}
use mathlib.Core.Option.{none, some}
use mathlib.Core.Path.{◌≡◌, sym, ◌∙◌}
use Rattle.rules.specs.CodeBytes.{instructions}
use Rattle.rules.specs.Limits.{item_limit}
use Rattle.rules.specs.Machine.{State, fresh, Over, Stuck, step}
use Rattle.rules.specs.Run.{answer, too_many_steps, run, next_of, state_after}
use Rattle.rules.specs.Schedule.{asks}
use Rattle.rules.specs.declared.Refusal.{Refusal}
use Rattle.rules.specs.declared.Status.{Status}
use Rattle.rules.proofs.Step.Counted.{run_limit}
use Rattle.rules.proofs.Step.Order.{run_stuck, run_over}
use Rattle.rules.proofs.Step.States.{same_state, none_later, run_from}
use Rattle.machine.specs.States.{state_of, fresh_of, HasStep, Steps}
use Rattle.machine.specs.declared.state.Machine.{Machine}
use Rattle.machine.proofs.EachState.{Holds, begins, counts_one, each_state}
use Rattle.machine.proofs.Stacked.{length_items_of}
use Rattle.std.specs.Prelude.{Result, Ok, Err}
use Rattle.machine.proofs.Stepping.{counted}
use Rattle.rules.specs.declared.End.{End}

-- of a run of at most so many steps
pub record Underway (i : Status) (code schedule : List ℕ) (most : ℕ) (stack : List ℕ) (m : Machine) : Type 0 where
  pub steps : m.steps ≤ most
  pub reached : m.reached ≤ m.steps
  pub height : m.height ≤ item_limit
  pub state : Holds i code schedule stack m

pub underway_fresh : (i : Status) (code schedule : List ℕ) (most : ℕ) (stack : List ℕ)
    → Underway i code schedule most stack (fresh_of i)
underway_fresh i code schedule most stack = record {
  steps = omega arith;
  reached = omega arith;
  height = omega arith;
  state = begins i code schedule stack;
}

pub record Stops (i : Status) (code schedule : List ℕ) (most : ℕ) (stack : List ℕ) (m : Machine)
    (o : Result End Refusal) : Type 0 where
  pub answered : answer (state_of stack m) o ≡ run (instructions code) (asks schedule) most (fresh i)
  pub state : (s : State) → state_after (instructions code) (asks schedule) i most ≡ some s → state_of stack m ≡ s

module _ {i : Status} {code schedule : List ℕ} {most : ℕ} {stack : List ℕ} {m : Machine}
    (so_far : Underway i code schedule most stack m) where
  what_is_left : run (instructions code) (asks schedule) (most - m.steps) (state_of stack m)
      ≡ run (instructions code) (asks schedule) most (fresh i)
  what_is_left =
      run_from (instructions code) (asks schedule) i m.steps (most - m.steps) most
      (omega (arith, so_far.steps))
      (state_of stack m)
      so_far.state

  -- ---- where no step is taken

  abbrev NoStep : Type 0
  NoStep = next_of (step (instructions code) (asks schedule) (state_of stack m)) ≡ none

  the_state : (m.steps ≡ most) → (s : State) → state_after (instructions code) (asks schedule) i most ≡ some s
      → state_of stack m ≡ s
  the_state e s at =
      same_state (instructions code) (asks schedule) i m.steps so_far.state (rw (sym e) at at)

  no_state : NoStep → m.steps < most → (s : State) → state_after (instructions code) (asks schedule) i most ≡ some s → ⊥
  no_state stopped past s at =
      none_later (instructions code) (asks schedule) i m.steps so_far.state stopped most past at

  last_state : NoStep → (s : State) → state_after (instructions code) (asks schedule) i most ≡ some s → state_of stack m ≡ s
  last_state stopped s at = elim (dec_lt m.steps most) [
    | yes past ↦ absurd (no_state stopped past s at)
    | no all ↦ the_state (omega (arith, all, so_far.steps)) s at
  ]

  pub ended : {o : Result End Refusal} → step (instructions code) (asks schedule) (state_of stack m) ≡ Over o
      → Stops i code schedule most stack m o
  unfolding next_of
  ended e = record {
    answered = sym (run_over (instructions code) (asks schedule) (state_of stack m) (most - m.steps) e) ∙ what_is_left;
    state = last_state (rw (e, next_of));
  }

  -- what a refused step leaves on the stack does not matter
  pub refused : (m.steps ≡ most → ⊥) → (after : List ℕ) {r : Refusal}
      → step (instructions code) (asks schedule) (state_of stack m) ≡ Stuck r → Stops i code schedule most after m (Err r)
  unfolding next_of
  refused left after e =
      let more : most - m.steps ≡ suc (most - m.steps - 1) = omega (arith, left, so_far.steps) in
      record {
        answered =
            sym (run_stuck (instructions code) (asks schedule) (state_of stack m) (most - m.steps - 1) e)
            ∙ rw more at what_is_left;
        state = λ s at. absurd (no_state (rw (e, next_of)) (omega (arith, left, so_far.steps)) s at);
      }

  module _ (has : HasStep code m) where
    pub out_of_steps : m.steps ≡ most → Stops i code schedule most stack m too_many_steps
    out_of_steps e =
        let nothing : most - m.steps ≡ 0 = omega (arith, e) in
        let one = counted code schedule stack m has so_far.height in
        record {
          answered =
              sym (run_limit (instructions code) (asks schedule) (state_of stack m) one) ∙ rw nothing at what_is_left;
          state = the_state e;
        }

    pub goes_on : (m.steps ≡ most → ⊥) → (after : List ℕ) (next : Machine) → Steps code schedule stack m (Ok next) after
        → (m.steps < next.steps) × Underway i code schedule most after next
    goes_on left after next does =
        let counts = counts_one has so_far.height schedule stack after next does in (
          omega (arith, counts.steps),
          record {
            steps = omega (arith, counts.steps, left, so_far.steps);
            reached = omega (arith, counts.steps, counts.reached, so_far.reached);
            height = omega (arith, counts.items, length_items_of after next.height);
            state = each_state has so_far.height schedule stack after next does i so_far.state;
          },
        )
