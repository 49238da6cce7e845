-- What running answers and what it leaves in the stack buffer, for every status, code, schedule and buffer (document 01,
-- "Refusal numbers").
--
--   run_tests    the tests 7 to 12 in their order
--   run_answer   the answer: refusals 7 to 12 report no totals, the others both
--   run_leaves   "Refusals 7 to 12 write nothing. Otherwise the first 4,096 bytes are zero afterwards and the rest is
--                untouched."
--
-- Assumes nothing.
use Rattle.std.specs.Prelude.{ℕ, ltb, leb, length, drop, replicate, List, ◌∷◌, ◌++◌, Err}
use Rattle.std.proofs.Math.Option.{Option, none, some}
use Rattle.rules.specs.Answers.{status_numbered}
use Rattle.rules.specs.CodeBytes.{instructions, code_tests}
use Rattle.rules.specs.Limits.{stack_bytes}
use Rattle.rules.specs.Refusals.{unless, first_refusal}
use Rattle.rules.specs.Run.{runs}
use Rattle.rules.specs.Schedule.{asks}
use Rattle.rules.specs.declared.Reason.{Reason}
use Rattle.rules.specs.declared.Reason.TheVariants.{StackBuffer}
use Rattle.rules.specs.declared.Refusal.{Refusal}
use Rattle.rules.specs.declared.Answer.{Answer}

unfoldable pub run_tests : ℕ → List ℕ → List ℕ → List (Option Refusal)
run_tests status code stack =
    unless (ltb status 2) Reason.Status 0
    ∷ unless (leb stack_bytes (length stack)) StackBuffer 0
    ∷ code_tests code

abbrev pub refused_answer : Refusal → Answer
refused_answer r = record { outcome = Err r; steps = 0; reached = 0 }

unfoldable pub run_answer : ℕ → List ℕ → List ℕ → List ℕ → Answer
run_answer status code schedule stack =
    elim (first_refusal (run_tests status code stack))
    [ none ↦ runs (instructions code) (asks schedule) (status_numbered status) | some r ↦ refused_answer r ]

unfoldable pub run_leaves : ℕ → List ℕ → List ℕ → List ℕ
run_leaves status code stack =
    elim (first_refusal (run_tests status code stack))
    [ none ↦ replicate stack_bytes 0 ++ drop stack_bytes stack | some r ↦ stack ]
