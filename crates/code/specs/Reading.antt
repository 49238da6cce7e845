-- What reading an instruction answers (document 01, "The code" and "Refusal numbers").
--
--   reading_at        the instruction, or the refusal of its tests 10, 11 and 12
--   operand_fits_at   test 11 on the operand, by the opcode
--   target_fits_at    test 12, by the opcode
--
-- Assumes nothing.
use Rattle.std.specs.Prelude.{ℕ, Bool, List, Result, Ok, Err}
use Rattle.rules.specs.Checking.{answer_by, row_passes}
use Rattle.rules.specs.CodeBytes.{opcodes, instruction_at, operand_fits, target_fits, instruction_test}
use Rattle.rules.specs.declared.Refusal.{Refusal}
use Rattle.rules.specs.declared.Instruction.{Instruction}

abbrev pub reading_at : List ℕ → ℕ → Result Instruction Refusal
reading_at code a = answer_by (instruction_test code a) Err (Ok (instruction_at code a))

abbrev pub operand_fits_at : ℕ → ℕ → Bool
operand_fits_at opcode word = row_passes opcodes (λ row. operand_fits row.operand word) opcode

abbrev pub target_fits_at : ℕ → ℕ → ℕ → ℕ → Bool
target_fits_at opcode word a n = row_passes opcodes (λ row. target_fits row.operand word a n) opcode
