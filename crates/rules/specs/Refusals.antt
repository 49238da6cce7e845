-- Refusals and the order of tests (document 01, "Refusal numbers").
--
--   refusal_number   the number of each reason, 1 to 15
--   unless           no refusal if a test passes, and else its reason and place
--   first_refusal    the refusal of a row of tests: that of the first that refuses
--   lowest_refusal   the same for one test at each place upward
--
-- Assumes nothing.
use Rattle.std.specs.Prelude.{ℕ, zero, suc, Bool, true, false, List, [], ◌∷◌}
use Rattle.std.proofs.Math.Option.{Option, none, some}
use Rattle.rules.specs.declared.Reason.{Reason}
use Rattle.rules.specs.declared.Reason.TheVariants.{TableSize, Kind, UnusedByte, Operand, Uses, CodeBuffer, Status}
use Rattle.rules.specs.declared.Reason.TheVariants.{StackBuffer, CodeSize, Opcode, Field, Target, StackFull, NoRule, Steps}
use Rattle.rules.specs.declared.Refusal.{Refusal}

abbrev pub refusal_number : Reason → ℕ
refusal_number TableSize = 1
refusal_number Kind = 2
refusal_number UnusedByte = 3
refusal_number Operand = 4
refusal_number Uses = 5
refusal_number CodeBuffer = 6
refusal_number Status = 7
refusal_number StackBuffer = 8
refusal_number CodeSize = 9
refusal_number Opcode = 10
refusal_number Field = 11
refusal_number Target = 12
refusal_number StackFull = 13
refusal_number NoRule = 14
refusal_number Steps = 15

-- ---- tests in their order

unfoldable pub unless : Bool → Reason → ℕ → Option Refusal
unless true reason place = none
unless false reason place = some (record { reason = reason; place = place })

unfoldable pub first_refusal : List (Option Refusal) → Option Refusal
first_refusal [] = none
first_refusal (none ∷ tests) = first_refusal tests
first_refusal (some r ∷ tests) = some r

-- at the places below n
unfoldable pub lowest_refusal : (ℕ → Option Refusal) → ℕ → Option Refusal
lowest_refusal test zero = none
lowest_refusal test (suc n) = elim (lowest_refusal test n) [ none ↦ test n | some r ↦ some r ]
