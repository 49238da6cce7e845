-- What it means that compiling accepted a table: for a worker, that the refusal in its answer is 0.
--
--   Passes              no test 1 to 6 refuses a table and a buffer
--   passes              so it is where the answer has no refusal
--   table_passes, table_accepted
--                       and the table is one of document 01's
--   code_length_lem     the length in the answer
--   code_answered       which is that of the code; its other fields are 0
--   code_left           the code stands at the front of the buffer
--   later_left          and later bytes are as they were
--   few_nodes           its recipe has as many nodes as the table has records, at most 512
--   short_code          its code is at most 1,023 instructions
--   buffer_room         and the buffer holds it
--   enough              a buffer of 8,184 bytes holds every code
--
-- Assumes nothing.
use Prim.Native.Nat.{ℕ, ◌*◌, ◌≤◌}
use native.Mathlib.Omega.{arith}
use borrow.Author.Tests.{le-leb, leb-true}
use lib.ListN.{length, take, drop}
use lib.Seq.{take_at, drop_at}
use mathlib.Core.List.{List}
use mathlib.Core.Option.{Option, none, some}
use mathlib.Core.Path.{◌≡◌, refl, sym, ◌∙◌}
use Rattle.rules.specs.Answers.{compiled_length, compiled_refusal, compiled_place}
use Rattle.rules.specs.Bytes.{records}
use Rattle.rules.specs.Code.{code_length, compile}
use Rattle.rules.specs.CodeBytes.{bytes_of}
use Rattle.rules.specs.Compiling.{code_of, compile_tests, compile_answer, compile_leaves}
use Rattle.rules.specs.Expression.{nodes}
use Rattle.rules.specs.Limits.{record_bytes, node_limit, code_limit, instruction_limit}
use Rattle.rules.specs.Recipe.{recipe}
use Rattle.rules.specs.Refusals.{refusal_number, unless, first_refusal}
use Rattle.rules.specs.Table.{table_tests}
use Rattle.rules.specs.declared.Reason.{Reason}
use Rattle.rules.specs.declared.Reason.TheVariants.{TableSize, Kind, UnusedByte, Operand, Uses, CodeBuffer, Status, StackBuffer}
use Rattle.rules.specs.declared.Reason.TheVariants.{CodeSize, Opcode, Field, Target, StackFull, NoRule, Steps}
use Rattle.rules.specs.declared.Refusal.{Refusal}
use Rattle.rules.proofs.Bytes.Answered.{compile_passed, compile_refused}
use Rattle.rules.proofs.Bytes.CodeBytes.{length_bytes_of_compile}
use Rattle.rules.proofs.Theory.Holding.{length_compile}
use Rattle.rules.proofs.Refusals.{unless_passed, first_none, first_only, rows_none, rows_passed}
use Rattle.table.specs.Acceptance.{AcceptedTable}
use Rattle.table.proofs.Acceptance.{accepted, recipe_nodes, recipe_short}
use Rattle.salnegris.specs.Fields.{compiled_fields}

pub record Passes (table buffer : List ℕ) : Type 0 where
  pub tests : first_refusal (compile_tests table buffer) ≡ none

-- ---- the tests

refusal_not_zero : (reason : Reason) → 1 ≤ refusal_number reason
refusal_not_zero TableSize = omega arith
refusal_not_zero Kind = omega arith
refusal_not_zero UnusedByte = omega arith
refusal_not_zero Operand = omega arith
refusal_not_zero Uses = omega arith
refusal_not_zero CodeBuffer = omega arith
refusal_not_zero Status = omega arith
refusal_not_zero StackBuffer = omega arith
refusal_not_zero CodeSize = omega arith
refusal_not_zero Opcode = omega arith
refusal_not_zero Field = omega arith
refusal_not_zero Target = omega arith
refusal_not_zero StackFull = omega arith
refusal_not_zero NoRule = omega arith
refusal_not_zero Steps = omega arith

module _ (table buffer : List ℕ) where
  no_first_refusal : (first : Option Refusal) → first_refusal (compile_tests table buffer) ≡ first
      → compiled_refusal (compile_answer table buffer) ≡ 0 → first ≡ none
  unfolding compiled_refusal
  no_first_refusal none e accepted = refl
  no_first_refusal (some r) e accepted =
      let number : refusal_number r.reason ≡ 0 = rw (compile_refused table buffer e).0 at accepted in
      absurd (omega (arith, refusal_not_zero r.reason))

  pub passes : compiled_refusal (compile_answer table buffer) ≡ 0 → Passes table buffer
  passes accepted = record { tests = no_first_refusal (first_refusal (compile_tests table buffer)) refl accepted }

-- ---- the table, and its code

module _ {table buffer : List ℕ} (all : Passes table buffer) where
  pub table_passes : first_refusal (table_tests table) ≡ none
  unfolding compile_tests
  table_passes = rows_none (table_tests table) _ all.tests

  pub table_accepted : AcceptedTable table
  table_accepted = accepted table table_passes

  pub few_nodes : (nodes (recipe table) ≡ records table) × (records table ≤ node_limit)
  few_nodes = (recipe_nodes table_accepted, table_accepted.few)

  pub short_code : code_length (recipe table) ≤ instruction_limit
  short_code = omega (arith, recipe_short table_accepted, table_accepted.few)

  pub code_length_lem : compiled_length (compile_answer table buffer) ≡ code_length (recipe table)
  unfolding compiled_length
  code_length_lem = rw (compile_passed table buffer all.tests).0

  pub code_answered : compiled_fields (compile_answer table buffer)
      ≡ record { length = length (compile 0 (recipe table)); refusal = 0; place = 0 }
  unfolding compiled_length compiled_refusal compiled_place
  code_answered = rw ((compile_passed table buffer all.tests).0, length_compile 0 (recipe table))

  pub code_left : take (record_bytes * compiled_length (compile_answer table buffer)) (compile_leaves table buffer)
      ≡ bytes_of (code_of table)
  unfolding code_of
  code_left =
      rw ((compile_passed table buffer all.tests).1, code_length_lem)
      (take_at (bytes_of (code_of table)) _ _ (length_bytes_of_compile 0 (recipe table)))

  pub later_left : drop (record_bytes * compiled_length (compile_answer table buffer)) (compile_leaves table buffer)
      ≡ drop (record_bytes * compiled_length (compile_answer table buffer)) buffer
  unfolding code_of
  later_left =
      rw ((compile_passed table buffer all.tests).1, code_length_lem)
      (drop_at (bytes_of (code_of table)) _ _ (length_bytes_of_compile 0 (recipe table)))

  pub buffer_room : record_bytes * code_length (recipe table) ≤ length buffer
  unfolding compile_tests
  buffer_room =
      let last = sym (rows_passed (table_tests table) _ table_passes) ∙ all.tests in
      leb-true _ _ (unless_passed _ CodeBuffer 0 (first_none _ _ last).0)

-- ---- a buffer for every table

pub enough : (table buffer : List ℕ) → first_refusal (table_tests table) ≡ none → code_limit ≤ length buffer
    → first_refusal (compile_tests table buffer) ≡ none
unfolding compile_tests unless
enough table buffer tests room =
    let sound = accepted table tests in
    let fits : record_bytes * code_length (recipe table) ≤ length buffer = omega (arith, recipe_short sound, sound.few) in
    rows_passed (table_tests table) _ tests
    ∙ first_only _
    ∙ rw (le-leb (record_bytes * code_length (recipe table)) (length buffer) fits)
