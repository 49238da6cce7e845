-- What the readers and checkers of records answer, of tables and of code alike (document 01, "Refusal numbers").
--
--   answer_by      the refusal that was found, or else what was asked for
--   check_answer   what checking answers: how many records there are, or the refusal of the first test that refuses
--   row_passes     a test that a row of kinds or opcodes makes, passed where the number names none
--
-- Assumes nothing.
use Rattle.std.specs.Prelude.{ℕ, Bool, true, List, Result, Ok, Err}
use Rattle.std.proofs.Math.Option.{Option, none, some}
use Rattle.rules.specs.Bytes.{records, row_numbered}
use Rattle.rules.specs.Refusals.{first_refusal}
use Rattle.rules.specs.declared.Refusal.{Refusal}

unfoldable pub answer_by : {A : Type 0} → Option Refusal → (Refusal → A) → A → A
answer_by none refused sound = sound
answer_by (some r) refused sound = refused r

-- n records, from what their tests found
abbrev pub checked_by : ℕ → Option Refusal → Result ℕ Refusal
checked_by n found = answer_by found Err (Ok n)

-- bytes, by the row of their tests
abbrev pub check_answer : (List ℕ → List (Option Refusal)) → List ℕ → Result ℕ Refusal
check_answer tests bytes = checked_by (records bytes) (first_refusal (tests bytes))

-- ---- a test by a row

abbrev pub tested_by : {A : Type 0} → (A → Bool) → Option A → Bool
tested_by test none = true
tested_by test (some row) = test row

abbrev pub row_passes : {A : Type 0} → List A → (A → Bool) → ℕ → Bool
row_passes rows test k = tested_by test (row_numbered rows k)
