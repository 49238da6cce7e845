-- What reading an instruction answers, by its tests 10, 11 and 12, and what an answer says of them.
--
--   reads_unknown   a byte that is no opcode
--   tests           the tests of an instruction whose opcode is known, one after the other
--   clean, padded   bytes 1 to 3 are zero, or not
--   told            what an answer says of the tests
--
-- Assumes nothing.
use Prim.Native.Nat.{ℕ, ◌+◌, ◌*◌}
use borrow.Author.Tests.{eq-eqb, ne_eqb}
use lib.Dec.{eqb}
use mathlib.Core.Bool.{true, false, ◌&&◌}
use mathlib.Core.List.{List, [], ◌∷◌}
use mathlib.Core.Option.{none, some}
use mathlib.Core.Path.{◌≡◌, refl, sym, ◌∙◌}
use Rattle.rules.specs.Bytes.{byte_at, half_at, word_at, all_zero, records, row_numbered}
use Rattle.rules.specs.CodeBytes.{opcodes, opcode_at, instruction_at, operand_fits, target_fits, instruction_test}
use Rattle.rules.specs.Limits.{record_bytes}
use Rattle.rules.specs.declared.Reason.{Reason}
use Rattle.rules.specs.declared.Reason.TheVariants.{Field, Target}
use Rattle.rules.specs.declared.Refusal.{Refusal}
use Rattle.rules.specs.declared.Instruction.{Instruction}
use Rattle.rules.proofs.Bytes.Records.{zero_padding}
use Rattle.rules.proofs.Checking.{answer_refused, answer_told, TwoTests, row_passes_lem, refusal_of}
use Rattle.code.proofs.Opcodes.{opcode_known}
use Rattle.code.specs.Opcodes.{opcode_number}
use Rattle.code.specs.declared.opcode.Opcode.{Opcode}
use Rattle.std.specs.Prelude.{Result, Ok, Err}
use Rattle.code.specs.Reading.{reading_at, operand_fits_at, target_fits_at}

-- ---- bytes 1 to 3, added up

module _ (code : List ℕ) (base : ℕ) {first others : ℕ} (one : first ≡ byte_at code (base + 1))
    (two : others ≡ half_at code (base + 2)) where
  padding : all_zero code base (1 ∷ 2 ∷ 3 ∷ []) ≡ eqb (first + others) 0
  padding = rw (one, two) (sym (zero_padding code base))

  pub clean : first + others ≡ 0 → all_zero code base (1 ∷ 2 ∷ 3 ∷ []) ≡ true
  clean e = padding ∙ eq-eqb (first + others) 0 e

  pub padded : (first + others ≡ 0 → ⊥) → all_zero code base (1 ∷ 2 ∷ 3 ∷ []) ≡ false
  padded stray = padding ∙ ne_eqb (first + others) 0 stray

-- ---- the tests of an instruction

module _ (code : List ℕ) (a : ℕ) where
  no_opcode : opcode_at code a ≡ none → instruction_test code a ≡ some (record { reason = Reason.Opcode; place = a })
  unfolding instruction_test
  no_opcode missing = rw (missing, instruction_test)

  pub reads_unknown : row_numbered opcodes (byte_at code (record_bytes * a)) ≡ none
      → reading_at code a ≡ Err (record { reason = Reason.Opcode; place = a })
  unfolding opcode_at
  reads_unknown missing = answer_refused Err (Ok (instruction_at code a)) (no_opcode missing)

  pub tests : (opcode : Opcode) → opcode_number opcode ≡ byte_at code (record_bytes * a)
      → {word n : ℕ} → word ≡ word_at code (record_bytes * a + 4) → n ≡ records code
      → TwoTests (instruction_test code a)
      (all_zero code (record_bytes * a) (1 ∷ 2 ∷ 3 ∷ []) && operand_fits_at (opcode_number opcode) word)
      (record { reason = Field; place = a })
      (target_fits_at (opcode_number opcode) word a n) (record { reason = Target; place = a })
  unfolding instruction_test opcode_at
  tests opcode says {word = word} {n = n} operand size =
      let known = opcode_known opcode in
      record {
        in_turn =
            rw (
              row_passes_lem opcodes (λ row. operand_fits row.operand word) (opcode_number opcode) known.found,
              row_passes_lem opcodes (λ row. target_fits row.operand word a n) (opcode_number opcode) known.found,
            )
            (rw (operand, size) (rw (rw says at known.found, instruction_test)));
      }

  -- ---- what an answer says

  pub told : {answer : Result Instruction Refusal} → reading_at code a ≡ answer → instruction_test code a ≡ refusal_of answer
  told = answer_told refusal_of Err (Ok (instruction_at code a)) (instruction_test code a) refl (λ r. refl)
