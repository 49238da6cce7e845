-- What compiling, evaluating and running answer and leave, by the first of their tests that refuses (`specs/Compiling`,
-- `specs/Evaluating`, `specs/Running`).
--
--   compile_passed, compile_refused
--   evaluate_passed, evaluate_refused
--   run_passed, run_refused
--
-- Assumes nothing.
use Prim.Native.Nat.{ℕ, ◌*◌}
use lib.ListN.{drop, replicate}
use mathlib.Core.List.{List, ◌++◌}
use mathlib.Core.Option.{none, some}
use mathlib.Core.Path.{◌≡◌}
use Rattle.rules.specs.Answers.{status_numbered}
use Rattle.rules.specs.Code.{code_length}
use Rattle.rules.specs.CodeBytes.{bytes_of, instructions}
use Rattle.rules.specs.Compiling.{code_of, compile_tests, compile_answer, compile_leaves}
use Rattle.rules.specs.Evaluating.{evaluate_answer}
use Rattle.rules.specs.Evaluation.{quiet}
use Rattle.rules.specs.Limits.{record_bytes, stack_bytes}
use Rattle.rules.specs.Recipe.{recipe}
use Rattle.rules.specs.Refusals.{first_refusal}
use Rattle.rules.specs.Run.{runs}
use Rattle.rules.specs.Running.{run_tests, refused_answer, run_answer, run_leaves}
use Rattle.rules.specs.Schedule.{asks}
use Rattle.rules.specs.Table.{table_tests}
use Rattle.std.specs.Prelude.{Ok, Err}
use Rattle.rules.specs.declared.Refusal.{Refusal}

module _ (table buffer : List ℕ) where
  pub compile_passed : first_refusal (compile_tests table buffer) ≡ none
      → (compile_answer table buffer ≡ Ok (code_length (recipe table)))
      × (compile_leaves table buffer ≡ bytes_of (code_of table) ++ drop (record_bytes * code_length (recipe table)) buffer)
  unfolding compile_answer compile_leaves
  compile_passed e = (rw (e, compile_answer), rw (e, compile_leaves))

  pub compile_refused : {r : Refusal} → first_refusal (compile_tests table buffer) ≡ some r
      → (compile_answer table buffer ≡ Err r) × (compile_leaves table buffer ≡ buffer)
  unfolding compile_answer compile_leaves
  compile_refused e = (rw (e, compile_answer), rw (e, compile_leaves))

module _ (table : List ℕ) where
  pub evaluate_passed : first_refusal (table_tests table) ≡ none → evaluate_answer table ≡ Ok (quiet (recipe table))
  unfolding evaluate_answer
  evaluate_passed e = rw (e, evaluate_answer)

  pub evaluate_refused : {r : Refusal} → first_refusal (table_tests table) ≡ some r → evaluate_answer table ≡ Err r
  unfolding evaluate_answer
  evaluate_refused e = rw (e, evaluate_answer)

module _ (status : ℕ) (code schedule stack : List ℕ) where
  pub run_passed : first_refusal (run_tests status code stack) ≡ none
      → (run_answer status code schedule stack ≡ runs (instructions code) (asks schedule) (status_numbered status))
      × (run_leaves status code stack ≡ replicate stack_bytes 0 ++ drop stack_bytes stack)
  unfolding run_answer run_leaves
  run_passed e = (rw (e, run_answer), rw (e, run_leaves))

  pub run_refused : {r : Refusal} → first_refusal (run_tests status code stack) ≡ some r
      → (run_answer status code schedule stack ≡ refused_answer r) × (run_leaves status code stack ≡ stack)
  unfolding run_answer run_leaves
  run_refused e = (rw (e, run_answer), rw (e, run_leaves))
