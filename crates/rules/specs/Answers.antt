-- The numbers and the fields of answers (document 01, "What a recipe may end in" and "One step of the machine").
--
--   status_number, status_numbered   "a status is 0, blocked, or 1, unblocked", and back
--   outcome_kind, outcome_number, outcome_refusal, outcome_place
--                                    the fields of what a run comes to: "fields that don't apply are 0"
--   compiled_length, compiled_refusal, compiled_place
--                                    the fields of what compiling answers
--
-- Assumes nothing.
use Rattle.std.specs.Prelude.{ℕ, zero, suc, ℤ, pos, Result, Ok, Err}
use Rattle.rules.specs.Refusals.{refusal_number}
use Rattle.rules.specs.declared.Status.{Status}
use Rattle.rules.specs.declared.Status.TheVariants.{Blocked, Unblocked}
use Rattle.rules.specs.declared.End.TheVariants.{Number, Throw}
use Rattle.rules.specs.declared.Refusal.{Refusal}
use Rattle.rules.specs.declared.End.{End}

abbrev pub status_number : Status → ℕ
status_number Blocked = 0
status_number Unblocked = 1

-- of a number that has passed test 7 or 11, and so is 0 or 1
abbrev pub status_numbered : ℕ → Status
status_numbered zero = Blocked
status_numbered (suc n) = Unblocked

-- ---- running: "the kind of end (0 number, 1 throw, 2 refused)"

unfoldable pub outcome_kind : Result End Refusal → ℕ
outcome_kind (Ok (Number n)) = 0
outcome_kind (Ok Throw) = 1
outcome_kind (Err r) = 2

unfoldable pub outcome_number : Result End Refusal → ℤ
outcome_number (Ok (Number n)) = n
outcome_number (Ok Throw) = pos 0
outcome_number (Err r) = pos 0

unfoldable pub outcome_refusal : Result End Refusal → ℕ
outcome_refusal (Ok v) = 0
outcome_refusal (Err r) = refusal_number r.reason

unfoldable pub outcome_place : Result End Refusal → ℕ
outcome_place (Ok v) = 0
outcome_place (Err r) = r.place

-- ---- compiling

unfoldable pub compiled_length : Result ℕ Refusal → ℕ
compiled_length (Ok n) = n
compiled_length (Err r) = 0

unfoldable pub compiled_refusal : Result ℕ Refusal → ℕ
compiled_refusal (Ok n) = 0
compiled_refusal (Err r) = refusal_number r.reason

unfoldable pub compiled_place : Result ℕ Refusal → ℕ
compiled_place (Ok n) = 0
compiled_place (Err r) = r.place
