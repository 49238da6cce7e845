-- Where the tests 1 to 12 refuse (document 01, "Refusal numbers"): at 0, or at a node or an instruction of bytes whose size has
-- passed.
--
--   RefusesBelow      a refusal, where there is one, is at a place below n
--   compiling_below   the tests 1 to 6 refuse below 512
--   accepted_few      a code that the tests 9 to 12 let pass has at most 1,023 instructions
--   running_below     the tests 7 to 12 refuse below 1,023
--
-- Assumes nothing.
use Prim.Native.Nat.{ℕ, zero, suc, ◌*◌, ◌≤◌, ◌<◌}
use native.Mathlib.Omega.{arith}
use mathlib.Core.Bool.{Bool, true, false}
use mathlib.Core.List.{List, [], ◌∷◌}
use mathlib.Core.Option.{Option, none, some}
use mathlib.Core.Path.{◌≡◌, refl}
use Rattle.rules.specs.Bytes.{records, whole_records}
use Rattle.rules.specs.CodeBytes.{OpcodeRow, opcode_at, instruction_test, code_tests}
use Rattle.rules.specs.Compiling.{compile_tests}
use Rattle.rules.specs.Limits.{record_bytes, node_limit, table_limit, code_limit, instruction_limit}
use Rattle.rules.specs.Refusals.{unless, first_refusal, lowest_refusal}
use Rattle.rules.specs.Running.{run_tests}
use Rattle.rules.specs.Table.{KindRow, kind_at, node_test, use_test, table_tests}
use Rattle.rules.specs.declared.Reason.{Reason}
use Rattle.rules.specs.declared.Reason.TheVariants.{TableSize, CodeSize}
use Rattle.rules.specs.declared.Refusal.{Refusal}
use Rattle.rules.proofs.Bytes.Sizes.{whole_means}
use Rattle.rules.proofs.Refusals.{unless_passed, first_only, first_none, lowest_suc, lowest_kept}

pub data RefusesBelow (n : ℕ) : Option Refusal → Type 0 where
  passes : RefusesBelow n none
  refuses : {r : Refusal} → r.place < n → RefusesBelow n (some r)

-- ---- tests in their order

module _ {n : ℕ} where
  unless_below : (passed : Bool) (reason : Reason) (place : ℕ) → place < n → RefusesBelow n (unless passed reason place)
  unfolding unless
  unless_below true reason place low = passes
  unless_below false reason place low = refuses low

  -- the others are looked at only where the first has passed
  first_below : (test : Option Refusal) (tests : List (Option Refusal)) → RefusesBelow n test
      → (test ≡ none → RefusesBelow n (first_refusal tests)) → RefusesBelow n (first_refusal (test ∷ tests))
  unfolding first_refusal
  first_below none tests here later = later refl
  first_below (some r) tests here later = here

  only_below : (test : Option Refusal) → RefusesBelow n test → RefusesBelow n (first_refusal (test ∷ []))
  only_below test here = rw (first_only test) here

  two_below : (test other : Option Refusal) → RefusesBelow n test → RefusesBelow n other
      → RefusesBelow n (first_refusal (test ∷ other ∷ []))
  two_below test other here there = first_below test (other ∷ []) here λ passed. only_below other there

  module _ (test : ℕ → Option Refusal) where
    next_below : (k : ℕ) (below : Option Refusal) → lowest_refusal test k ≡ below → RefusesBelow n below → RefusesBelow n (test k)
        → RefusesBelow n (lowest_refusal test (suc k))
    next_below k none e before here = rw (lowest_suc test k e) here
    next_below k (some r) e before here = rw (lowest_kept test k e) before

    lowest_below : (k : ℕ) → ((j : ℕ) → j < k → RefusesBelow n (test j)) → RefusesBelow n (lowest_refusal test k)
    unfolding lowest_refusal
    lowest_below zero each = passes
    lowest_below (suc k) each =
        next_below k (lowest_refusal test k) refl (lowest_below k λ j low. each j (omega arith)) (each k (omega arith))

-- ---- a test of a record

module _ {n : ℕ} (bytes : List ℕ) (j : ℕ) (low : j < n) where
  node_below_by : (kind : Option KindRow) → kind_at bytes j ≡ kind → RefusesBelow n (node_test bytes j)
  unfolding node_test
  node_below_by none e = rw (e, node_test) (refuses low)
  node_below_by (some kind) e = rw (e, node_test) (two_below _ _ (unless_below _ _ j low) (unless_below _ _ j low))

  node_below : RefusesBelow n (node_test bytes j)
  node_below = node_below_by (kind_at bytes j) refl

  use_below : RefusesBelow n (use_test bytes j)
  unfolding use_test
  use_below = unless_below _ _ j low

  instruction_below_by : (opcode : Option OpcodeRow) → opcode_at bytes j ≡ opcode → RefusesBelow n (instruction_test bytes j)
  unfolding instruction_test
  instruction_below_by none e = rw (e, instruction_test) (refuses low)
  instruction_below_by (some opcode) e = rw (e, instruction_test) (two_below _ _ (unless_below _ _ j low) (unless_below _ _ j low))

  instruction_below : RefusesBelow n (instruction_test bytes j)
  instruction_below = instruction_below_by (opcode_at bytes j) refl

-- ---- the tests of compiling and of running

sized_few : (most : ℕ) (bytes : List ℕ) (reason : Reason) → unless (whole_records most bytes) reason 0 ≡ none
    → record_bytes * records bytes ≤ most
sized_few most bytes reason passed =
    let whole = whole_means most bytes (unless_passed (whole_records most bytes) reason 0 passed) in
    omega (arith, whole.size, whole.few)

pub compiling_below : (table buffer : List ℕ) → RefusesBelow node_limit (first_refusal (compile_tests table buffer))
unfolding compile_tests table_tests
compiling_below table buffer =
    first_below _ _ (unless_below _ _ 0 (omega arith)) λ sized.
    let few : records table ≤ node_limit = omega (arith, sized_few table_limit table TableSize sized) in
    first_below _ _ (lowest_below _ _ λ j low. node_below table j (omega arith)) λ nodes.
    two_below _ _ (lowest_below _ _ λ j low. use_below table j (omega arith)) (unless_below _ _ 0 (omega arith))

module _ (code : List ℕ) where
  code_few : unless (whole_records code_limit code) CodeSize 0 ≡ none → records code ≤ instruction_limit
  code_few sized = omega (arith, sized_few code_limit code CodeSize sized)

  pub accepted_few : first_refusal (code_tests code) ≡ none → records code ≤ instruction_limit
  unfolding code_tests
  accepted_few passed = code_few (first_none _ _ passed).0

  pub running_below : (status : ℕ) (stack : List ℕ) → RefusesBelow instruction_limit (first_refusal (run_tests status code stack))
  unfolding run_tests code_tests
  running_below status stack =
      first_below _ _ (unless_below _ _ 0 (omega arith)) λ known.
      first_below _ _ (unless_below _ _ 0 (omega arith)) λ room.
      first_below _ _ (unless_below _ _ 0 (omega arith)) λ sized.
      let few : records code ≤ instruction_limit = code_few sized in
      only_below _ (lowest_below _ _ λ j low. instruction_below code j (omega arith))
