-- What checking a code answers, by the first of its tests that refuses.
--
--   size_refused, size_passed   test 9, and then the walk over the instructions
--
-- Assumes nothing.
use Prim.Native.Nat.{ℕ}
use mathlib.Core.Bool.{true, false}
use mathlib.Core.List.{List}
use mathlib.Core.Path.{◌≡◌}
use Rattle.rules.specs.Bytes.{records, whole_records}
use Rattle.rules.specs.Checking.{answer_by, checked_by, check_answer}
use Rattle.rules.specs.CodeBytes.{instruction_test, code_tests}
use Rattle.rules.specs.Limits.{code_limit}
use Rattle.rules.specs.Refusals.{unless, first_refusal, lowest_refusal}
use Rattle.rules.specs.declared.Reason.TheVariants.{CodeSize}
use Rattle.std.specs.Prelude.{Err}
use Rattle.rules.proofs.Refusals.{first_only}

module _ (code : List ℕ) where
  pub size_refused : whole_records code_limit code ≡ false
      → check_answer code_tests code ≡ Err (record { reason = CodeSize; place = 0 })
  unfolding answer_by code_tests first_refusal unless
  size_refused e = rw e

  pub size_passed : whole_records code_limit code ≡ true
      → check_answer code_tests code ≡ checked_by (records code) (lowest_refusal (instruction_test code) (records code))
  unfolding code_tests first_refusal unless
  size_passed e = rw (e, first_only (lowest_refusal (instruction_test code) (records code)))
