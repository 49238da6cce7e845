-- What running answers and leaves, by the first of its tests that refuses (`rules`, `specs/Running`).
--
--   status_refused, stack_refused, code_refused
--              the tests 7, 8, and 9 to 12
--   ran        none refuses
--   runnable   then the code and the stack are of the sizes that a run asks
--   answered, refused
--              the answer, with totals or without
--
-- Assumes nothing.
use Prim.Native.Nat.{ℕ, ◌≤◌, ◌<◌}
use native.Mathlib.Omega.{arith}
use borrow.Author.Tests.{le-leb, lt-leb}
use lib.Dec.{ltb}
use lib.ListN.{length, drop, replicate}
use mathlib.Core.List.{List, ◌++◌}
use mathlib.Core.Option.{none, some}
use mathlib.Core.Path.{◌≡◌, refl, sym, ◌∙◌}
use Rattle.std.specs.Prelude.{Result, Ok, Err}
use Rattle.rules.specs.Answers.{status_numbered}
use Rattle.rules.specs.Checking.{answer_by, check_answer}
use Rattle.rules.specs.CodeBytes.{instructions, code_tests}
use Rattle.rules.specs.Limits.{code_limit, stack_bytes, step_limit}
use Rattle.rules.specs.Refusals.{unless, first_refusal}
use Rattle.rules.specs.Run.{runs}
use Rattle.rules.specs.Running.{run_tests, refused_answer, run_answer, run_leaves}
use Rattle.rules.specs.Schedule.{asks}
use Rattle.rules.specs.declared.Answer.{Answer}
use Rattle.rules.specs.declared.Reason.TheVariants.{StackBuffer, CodeSize, Status as WrongStatus}
use Rattle.rules.specs.declared.Refusal.{Refusal}
use Rattle.rules.specs.declared.Status.{Status}
use Rattle.rules.proofs.Bytes.Answered.{run_passed, run_refused}
use Rattle.rules.proofs.Bytes.Sizes.{whole_means}
use Rattle.rules.proofs.Checking.{answer_passed, answer_refused, answer_told, check_accepted, check_refused, refusal_of}
use Rattle.rules.proofs.Refusals.{unless_passed, first_none}
use Rattle.machine.specs.Runs.{Runnable, tried_answer}

module _ (status : ℕ) (code schedule stack : List ℕ) where
  -- ---- with the tests as they come

  abbrev status_read : Result Status Refusal
  status_read = answer_by (unless (ltb status 2) WrongStatus 0) Err (Ok (status_numbered status))

  status_told : {answer : Result Status Refusal} → status_read ≡ answer → unless (ltb status 2) WrongStatus 0 ≡ refusal_of answer
  status_told = answer_told refusal_of Err (Ok (status_numbered status)) (unless (ltb status 2) WrongStatus 0) refl (λ r. refl)

  -- the answer and the stack buffer after a refusal
  abbrev Refuses : Refusal → Type 0
  Refuses r = (Err r ≡ tried_answer status code schedule stack) × (stack ≡ run_leaves status code stack)

  by_tests : {r : Refusal} → first_refusal (run_tests status code stack) ≡ some r → Refuses r
  by_tests e =
      let (answer, leaves) = run_refused status code schedule stack e in
      (sym (answer_refused Err _ e), sym leaves)

  pub status_refused : {r : Refusal} → status_read ≡ Err r → Refuses r
  unfolding run_tests first_refusal
  status_refused wrong = by_tests (rw (status_told wrong))

  module _ {i : Status} (right : status_read ≡ Ok i) where
    pub stack_refused : length stack < stack_bytes → Refuses (record { reason = StackBuffer; place = 0 })
    unfolding run_tests first_refusal unless
    stack_refused short = by_tests (rw (status_told right, lt-leb stack_bytes (length stack) short))

    module _ (room : stack_bytes ≤ length stack) where
      then_code : first_refusal (run_tests status code stack) ≡ first_refusal (code_tests code)
      unfolding run_tests first_refusal unless
      then_code = rw (status_told right, le-leb stack_bytes (length stack) room)

      pub code_refused : {r : Refusal} → check_answer code_tests code ≡ Err r → Refuses r
      code_refused e = by_tests (then_code ∙ check_refused code_tests code e)

      module _ {n : ℕ} (accepted : check_answer code_tests code ≡ Ok n) where
        passed : first_refusal (code_tests code) ≡ none
        passed = (check_accepted code_tests code accepted).0

        pub ran : (Ok (runs (instructions code) (asks schedule) i) ≡ tried_answer status code schedule stack)
            × (replicate stack_bytes 0 ++ drop stack_bytes stack ≡ run_leaves status code stack)
        ran =
            let (answer, leaves) = run_passed status code schedule stack (then_code ∙ passed) in
            let same : i ≡ status_numbered status =
            cc (answer_passed Err (Ok (status_numbered status)) (status_told right), right) in
            (rw same (sym (answer_passed Err _ (then_code ∙ passed))), sym leaves)

        pub runnable : Runnable code step_limit
        unfolding code_tests
        runnable =
            let (sized, later) = first_none _ _ passed in
            record {
              few = (whole_means code_limit code (unless_passed _ CodeSize 0 sized)).few;
              steps = omega arith;
            }

  -- ---- what is answered

  tests_told : {answer : Result Answer Refusal} → answer ≡ tried_answer status code schedule stack
      → first_refusal (run_tests status code stack) ≡ refusal_of answer
  tests_told e = answer_told refusal_of Err _ (first_refusal (run_tests status code stack)) refl (λ r. refl) (sym e)

  pub answered : {a : Answer} → Ok a ≡ tried_answer status code schedule stack → a ≡ run_answer status code schedule stack
  answered e =
      let (answer, leaves) = run_passed status code schedule stack (tests_told e) in
      cc (answer_passed Err (Ok (runs (instructions code) (asks schedule) (status_numbered status))) (tests_told e), e, answer)

  pub refused : {r : Refusal} → Err r ≡ tried_answer status code schedule stack
      → refused_answer r ≡ run_answer status code schedule stack
  refused e = let (answer, leaves) = run_refused status code schedule stack (tests_told e) in sym answer
