-- What compiling answers and leaves, by what checking answered, what was measured and what was emitted.
--
--   last_measurable   the last node of an accepted table can be measured
--   last_short        what is measured is at most 1,023
--   last_emittable    the last node can be emitted, if the buffer is long enough
--   table_refused, buffer_refused, compiled
--                     the three ways to answer, with what is then in the buffer
--
-- Assumes nothing.
use Prim.Native.Nat.{ℕ, ◌*◌, ◌-◌, ◌≤◌, ◌<◌}
use native.Mathlib.Omega.{arith}
use borrow.Author.Tests.{le-leb, lt-leb}
use lib.ListN.{length}
use mathlib.Core.List.{List}
use mathlib.Core.Option.{none, some}
use mathlib.Core.Path.{◌≡◌, ap, sym, ◌∙◌}
use Rattle.rules.specs.Checking.{check_answer}
use Rattle.rules.specs.Code.{code_length}
use Rattle.rules.specs.Compiling.{code_of, compile_tests, compile_answer, compile_leaves}
use Rattle.rules.specs.Limits.{record_bytes, instruction_limit}
use Rattle.rules.specs.Recipe.{expression_at, recipe}
use Rattle.rules.specs.Refusals.{unless, first_refusal}
use Rattle.rules.specs.Table.{table_tests}
use Rattle.rules.specs.declared.Reason.TheVariants.{CodeBuffer}
use Rattle.rules.specs.declared.Refusal.{Refusal}
use Rattle.rules.proofs.Bytes.Answered.{compile_passed, compile_refused}
use Rattle.rules.proofs.Checking.{check_accepted, check_refused}
use Rattle.rules.proofs.Refusals.{first_only, rows_passed, rows_refused}
use Rattle.table.proofs.Acceptance.{last_node, last_recipe, recipe_short}
use Rattle.compiler.specs.Walking.{Measurable, Emittable, Emitted}
use Rattle.std.specs.Prelude.{Result, Ok, Err}
use Rattle.compiler.proofs.Writing.{emitted_front}

-- what is answered, and what is then in the buffer
abbrev Answers : List ℕ → List ℕ → Result ℕ Refusal → List ℕ → Type 0
Answers table code answer code' = record { answer : answer ≡ compile_answer table code; leaves : code' ≡ compile_leaves table code }

-- ---- refused

module _ (table code : List ℕ) where
  refused : {r : Refusal} → first_refusal (compile_tests table code) ≡ some r → Answers table code (Err r) code
  refused e = let (answered, left) = compile_refused table code e in record { answer = sym answered; leaves = sym left }

  pub table_refused : {r : Refusal} → check_answer table_tests table ≡ Err r → Answers table code (Err r) code
  unfolding compile_tests
  table_refused e = refused (rows_refused (table_tests table) _ (check_refused table_tests table e))

-- ---- accepted

module _ (table : List ℕ) {n : ℕ} (answer : check_answer table_tests table ≡ Ok n) where
  length_recipe : code_length (expression_at table (n - 1)) ≡ code_length (recipe table)
  length_recipe = ap code_length (last_recipe table answer)

  pub last_measurable : Measurable table (n - 1)
  last_measurable =
      let (nonempty, last) = last_node table answer in
      record { accepted = last.accepted; last = omega (arith, nonempty, (check_accepted table_tests table answer).1) }

  pub last_short : code_length (expression_at table (n - 1)) ≤ instruction_limit
  last_short =
      let last = (last_node table answer).1 in
      omega (arith, length_recipe, recipe_short last.accepted, last.accepted.few)

  module _ (code : List ℕ) {size : ℕ} (measured : size ≡ code_length (expression_at table (n - 1))) where
    pub buffer_refused : length code < record_bytes * size
        → Answers table code (Err (record { reason = CodeBuffer; place = 0 })) code
    unfolding compile_tests unless
    buffer_refused short =
        refused table code
        (rows_passed (table_tests table) _ (check_accepted table_tests table answer).0
        ∙ first_only _
        ∙ rw (lt-leb (record_bytes * code_length (recipe table)) (length code) (omega (arith, length_recipe))))

    module _ (fits : record_bytes * size ≤ length code) where
      room : record_bytes * code_length (recipe table) ≤ length code
      room = omega (arith, length_recipe)

      pub last_emittable : Emittable table (n - 1) code 0
      last_emittable = record { node = (last_node table answer).1; short = omega (arith, last_short); room = omega arith }

      passed : first_refusal (compile_tests table code) ≡ none
      unfolding compile_tests unless
      passed =
          rows_passed (table_tests table) _ (check_accepted table_tests table answer).0
          ∙ first_only _
          ∙ rw (le-leb (record_bytes * code_length (recipe table)) (length code) room)

      pub compiled : {next : ℕ} {code' : List ℕ} → Emitted table (n - 1) code 0 next code'
          → Answers table code (Ok size) code'
      unfolding code_of
      compiled done =
          let (answered, left) = compile_passed table code passed in
          record {
            answer = ap Ok (measured ∙ length_recipe) ∙ sym answered;
            leaves = done.bytes ∙ rw (last_recipe table answer) (emitted_front code (recipe table) room ∙ sym left);
          }
