-- What the run's loop asks and promises. How many steps it may take is told to it, so that its promise speaks of every state of a
-- run, and not of the last one alone.
--
--   Runnable    a code of a size that test 9 lets pass, and no more steps than a run may take
--   answer_of   the answer of a run that has stopped
--   tried_answer
--               that of a run from its beginning, or the refusal of the tests before it
--   Ran         the run from a fresh state in this status, of at most so many steps: its answer, and the state that it is left in
--
-- Assumes nothing.
use Rattle.std.specs.Prelude.{ℕ, ◌≤◌, length, List, ◌≡◌, Result, Ok, Err}
use Rattle.std.proofs.Math.Option.{some}
use Rattle.rules.specs.Answers.{status_numbered}
use Rattle.rules.specs.Checking.{answer_by}
use Rattle.rules.specs.CodeBytes.{instructions}
use Rattle.rules.specs.Limits.{code_limit, step_limit}
use Rattle.rules.specs.Machine.{State, fresh}
use Rattle.rules.specs.Refusals.{first_refusal}
use Rattle.rules.specs.Run.{run, runs, state_after}
use Rattle.rules.specs.Running.{run_tests}
use Rattle.rules.specs.Schedule.{asks}
use Rattle.rules.specs.declared.Answer.{Answer}
use Rattle.rules.specs.declared.Refusal.{Refusal}
use Rattle.rules.specs.declared.Status.{Status}
use Rattle.machine.specs.States.{state_of}
use Rattle.machine.specs.declared.steps.Stopped.{Stopped}

pub record Runnable (code : List ℕ) (most : ℕ) : Type 0 where
  pub few : length code ≤ code_limit
  pub steps : most ≤ step_limit

abbrev pub answer_of : Stopped → Answer
answer_of s = record { outcome = s.outcome; steps = s.machine.steps; reached = s.machine.reached }

abbrev pub tried_answer : ℕ → List ℕ → List ℕ → List ℕ → Result Answer Refusal
tried_answer status code schedule stack =
    answer_by (first_refusal (run_tests status code stack)) Err
    (Ok (runs (instructions code) (asks schedule) (status_numbered status)))

pub record Ran (i : Status) (code schedule : List ℕ) (most : ℕ) (stopped : Stopped) (after : List ℕ) : Type 0 where
  pub answered : answer_of stopped ≡ run (instructions code) (asks schedule) most (fresh i)
  -- "each state": where the rules come as far as that, it stands in their state
  pub state : (s : State) → state_after (instructions code) (asks schedule) i most ≡ some s → state_of after stopped.machine ≡ s
