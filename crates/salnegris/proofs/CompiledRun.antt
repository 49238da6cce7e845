-- Running what compiling left: the code is the recipe's, so the run is the one that the theory of `rules` speaks of.
--
--   recipe_demand        demand 3, over placings, of the recipe
--   compiled_run         with a status and a stack of at least 4,096 bytes, for every schedule
--   code_never_refused   with any status and any stack the answer is an end, or refused by 7 or 8
--
-- Assumes nothing.
use Prim.Native.Nat.{ℕ, ◌≤◌, ◌<◌}
use native.Mathlib.Decide.{dec_lt}
use native.Mathlib.Omega.{arith}
use borrow.Author.Tests.{lt-ltb, le-ltb, le-leb, lt-leb}
use lib.ListN.{length}
use mathlib.Core.List.{List}
use mathlib.Core.Option.{none}
use mathlib.Core.Path.{◌≡◌, refl, ap, ◌∙◌}
use Rattle.rules.specs.Answers.{status_number, status_numbered, outcome_refusal}
use Rattle.rules.specs.CodeBytes.{bytes_of, code_tests}
use Rattle.rules.specs.Compiling.{code_of}
use Rattle.rules.specs.Demand.{of_expression, Demand}
use Rattle.rules.specs.Limits.{stack_bytes}
use Rattle.rules.specs.Recipe.{recipe}
use Rattle.rules.specs.Refusals.{unless, first_refusal}
use Rattle.rules.specs.Run.{runs}
use Rattle.rules.specs.Running.{run_tests, refused_answer, run_answer}
use Rattle.rules.specs.Schedule.{asks}
use Rattle.rules.specs.declared.Status.{Status}
use Rattle.rules.specs.declared.Reason.TheVariants.{StackBuffer, Status as WrongStatus}
use Rattle.rules.specs.declared.Status.TheVariants.{Blocked, Unblocked}
use Rattle.rules.proofs.Bytes.Answered.{run_passed, run_refused}
use Rattle.rules.proofs.Bytes.CompiledCode.{recipe_in_range, instructions_compiled, compiled_passes}
use Rattle.rules.proofs.Theory.Demand.{demand}
use Rattle.salnegris.proofs.Accepted.{Passes, few_nodes, short_code}

-- ---- a status and its number

status_read_back : (i : Status) → (status_number i < 2) × (status_numbered (status_number i) ≡ i)
status_read_back Blocked = (omega arith, refl)
status_read_back Unblocked = (omega arith, refl)

-- ---- the refusals 7 and 8

module _ (status : ℕ) (code schedule stack : List ℕ) where
  status_refused : 2 ≤ status → run_answer status code schedule stack ≡ refused_answer (record { reason = WrongStatus; place = 0 })
  unfolding run_tests first_refusal unless
  status_refused wrong = (run_refused status code schedule stack (rw (le-ltb status 2 wrong))).0

  stack_refused : status < 2 → length stack < stack_bytes
      → run_answer status code schedule stack ≡ refused_answer (record { reason = StackBuffer; place = 0 })
  unfolding run_tests first_refusal unless
  stack_refused right short =
      (run_refused status code schedule stack (rw (lt-ltb status 2 right, lt-leb stack_bytes (length stack) short))).0

-- ---- a code that compiling made

module _ {table buffer : List ℕ} (all : Passes table buffer) where
  pub recipe_demand : (i : Status) → Demand (recipe table) i
  recipe_demand i = let (counted, few) = few_nodes all in demand (recipe table) (omega (arith, counted, few)) i

  code_passes : first_refusal (code_tests (bytes_of (code_of table))) ≡ none
  unfolding code_of
  code_passes = compiled_passes (recipe table) (recipe_in_range table) (short_code all)

  module _ (status : ℕ) (right : status < 2) (stack : List ℕ) (room : stack_bytes ≤ length stack) (schedule : List ℕ) where
    run_tests_lem : first_refusal (run_tests status (bytes_of (code_of table)) stack) ≡ none
    unfolding run_tests first_refusal unless
    run_tests_lem = rw (lt-ltb status 2 right, le-leb stack_bytes (length stack) room) code_passes

    run_by_number : run_answer status (bytes_of (code_of table)) schedule stack
        ≡ of_expression (recipe table) (asks schedule) (status_numbered status)
    unfolding code_of
    run_by_number =
        (run_passed status (bytes_of (code_of table)) schedule stack run_tests_lem).0
        ∙ ap (λ code. runs code (asks schedule) (status_numbered status))
        (instructions_compiled (recipe table) (recipe_in_range table) (short_code all))

    -- 13 to 15 would be refusals, and the theory has an end
    no_refusal : outcome_refusal (run_answer status (bytes_of (code_of table)) schedule stack).outcome ≡ 0
    unfolding outcome_refusal
    no_refusal =
        rw (run_by_number, ((recipe_demand (status_numbered status)).ends (asks schedule)).ended)

  pub compiled_run : (i : Status) (stack : List ℕ) → stack_bytes ≤ length stack → (schedule : List ℕ)
      → run_answer (status_number i) (bytes_of (code_of table)) schedule stack ≡ of_expression (recipe table) (asks schedule) i
  compiled_run i stack room schedule =
      let (right, same) = status_read_back i in
      run_by_number (status_number i) right stack room schedule ∙ ap (of_expression (recipe table) (asks schedule)) same

  pub code_never_refused : (status : ℕ) (schedule stack : List ℕ)
      → outcome_refusal (run_answer status (bytes_of (code_of table)) schedule stack).outcome ≤ 8
  unfolding outcome_refusal
  code_never_refused status schedule stack = elim (dec_lt status 2) [
    | yes right ↦ elim (dec_lt (length stack) stack_bytes) [
      | yes short ↦ rw (stack_refused status (bytes_of (code_of table)) schedule stack (omega arith) short) (omega arith)
      | no room ↦ omega (arith, no_refusal status right stack (omega arith) schedule)
    ]
    | no wrong ↦ rw (status_refused status (bytes_of (code_of table)) schedule stack (omega arith)) (omega arith)
  ]
