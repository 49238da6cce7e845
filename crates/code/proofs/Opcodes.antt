-- The row of an opcode, and test 11 by it.
--
--   opcode_known       each opcode has a row
--   greatest           the greatest operand that an opcode takes
--   operand_fits_lem   up to it each fits, and none above it
--
-- Assumes nothing.
use Rattle.std.proofs.Common.{◌≡◌, ◌<◌, ◌^◌, ℕ, zero, suc, List, [], ◌∷◌, arith, true, leb, eqb, refl, sym, ◌∙◌, le-leb, ne_eqb}
use Rattle.std.proofs.Math.Option.{some}
use Rattle.std.proofs.lemmas.Bool.{lt-leb}
use lib.Dec.{leb-suc-suc}
use lib.ListN.{get_or}
use Rattle.rules.specs.Bytes.{row_numbered}
use Rattle.rules.specs.CodeBytes.{OpcodeRow, opcodes, operand_fits}
use Rattle.rules.proofs.Checking.{row_passes_lem}
use Rattle.rules.proofs.Lists.{RowKnown, done, ◌▸◌, each_row}
use Rattle.code.specs.Opcodes.{opcode_number}
use Rattle.code.specs.Reading.{operand_fits_at}
use Rattle.code.specs.declared.opcode.Opcode.{Opcode}
use Rattle.code.specs.declared.opcode.Opcode.TheVariants.{Push, Throw, Add, Pop, Mark, Unmark, Set, Reset}

pub opcode_known : (opcode : Opcode) → RowKnown opcodes (opcode_number opcode)
unfolding opcodes row_numbered
opcode_known Push = record { row = _; found = refl }
opcode_known Throw = record { row = _; found = refl }
opcode_known Add = record { row = _; found = refl }
opcode_known Pop = record { row = _; found = refl }
opcode_known Mark = record { row = _; found = refl }
opcode_known Unmark = record { row = _; found = refl }
opcode_known Set = record { row = _; found = refl }
opcode_known Reset = record { row = _; found = refl }

-- ---- operands

-- by opcode, from 0 on
abbrev pub greatest : List ℕ
greatest = 0 ∷ 4294967295 ∷ 0 ∷ 0 ∷ 0 ∷ 4294967295 ∷ 4294967295 ∷ 1 ∷ 0 ∷ []

module _ (word : ℕ) (small : word < 2 ^ 32) where
  any : leb word 4294967295 ≡ true
  any = le-leb word 4294967295 (omega arith)

  none_but_0 : (k : ℕ) → leb k 0 ≡ eqb k 0
  none_but_0 zero = refl
  none_but_0 (suc k) = lt-leb (suc k) 0 (omega arith) ∙ sym (ne_eqb (suc k) 0 (λ e. omega (arith, e)))

  by_form : (opcode : ℕ) {row : OpcodeRow} → row_numbered opcodes opcode ≡ some row
      → leb word (get_or greatest opcode 0) ≡ operand_fits row.operand word
  unfolding opcodes operand_fits
  by_form =
      each_row (λ opcode row. leb word (get_or greatest opcode 0) ≡ operand_fits row.operand word) opcodes
      (any
      ▸ none_but_0 word
      ▸ none_but_0 word
      ▸ none_but_0 word
      ▸ any
      ▸ any
      ▸ sym (leb-suc-suc word 1)
      ▸ none_but_0 word
      ▸ done)

  pub operand_fits_lem : {opcode : ℕ} → RowKnown opcodes opcode → leb word (get_or greatest opcode 0) ≡ operand_fits_at opcode word
  operand_fits_lem {opcode} known =
      by_form opcode known.found ∙ sym (row_passes_lem opcodes (λ row. operand_fits row.operand word) opcode known.found)
