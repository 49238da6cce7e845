-- No run of accepted code comes to an address past its length: test 12 keeps every target within it (document 01, "Refusal
-- numbers").
--
--   bounded_accepted   the targets of a code that the tests 9 to 12 let pass are at most its length
--   never_past         so is every address that a run of it comes to, and every handler's
--
-- Assumes nothing.
use Prim.Native.Nat.{ℕ, ◌≤◌, ◌<◌}
use native.Mathlib.Omega.{arith}
use borrow.Author.Tests.{leb-true}
use lib.Dec.{ltb, leb}
use lib.ListN.{length}
use mathlib.Core.Bool.{true, ◌&&◌, and-eq-true_iff}
use mathlib.Core.List.{List}
use mathlib.Core.Option.{Option, none, some}
use mathlib.Core.Path.{◌≡◌, refl}
use Rattle.rules.specs.Bytes.{records}
use Rattle.rules.specs.CodeBytes.{OpcodeRow, opcodes, opcode_numbered, opcode_at, operand_at, instruction_at, instructions}
use Rattle.rules.specs.CodeBytes.{target_fits, instruction_test, code_tests}
use Rattle.rules.specs.Code.{target_of}
use Rattle.rules.specs.Machine.{State, Placing}
use Rattle.rules.specs.Refusals.{first_refusal}
use Rattle.rules.specs.Run.{state_after}
use Rattle.rules.specs.declared.Reason.{Reason}
use Rattle.rules.specs.declared.Status.{Status}
use Rattle.rules.proofs.Bytes.Instructions.{length_instructions, instruction_found}
use Rattle.rules.proofs.Lists.{below_found, done, ◌▸◌, each_row}
use Rattle.rules.proofs.Refusals.{unless_passed, first_none, lowest_none}
use Rattle.rules.proofs.Step.Addresses.{Within, Bounded, meets_within}
use Rattle.rules.proofs.Step.States.{state_met}

-- of each opcode of document 01's list, whatever its operand
target_within : (word a n opcode : ℕ) {row : OpcodeRow} → opcode_numbered opcode ≡ some row
    → target_fits row.operand word a n ≡ true → target_of (row.instruction word) ≤ n
unfolding opcodes target_fits
target_within word a n =
    let absent : true ≡ true → 0 ≤ n = λ e. omega arith in
    let target : ltb a word && leb word n ≡ true → word ≤ n =
    λ e. leb-true word n ((and-eq-true_iff (ltb a word) (leb word n)).0 e).1 in
    each_row (λ opcode row. target_fits row.operand word a n ≡ true → target_of (row.instruction word) ≤ n) opcodes
    (absent ▸ absent ▸ absent ▸ absent ▸ target ▸ target ▸ absent ▸ absent ▸ done)

module _ (bytes : List ℕ) (a : ℕ) where
  instruction_within : (opcode : Option OpcodeRow) → opcode_at bytes a ≡ opcode → instruction_test bytes a ≡ none
      → target_of (instruction_at bytes a) ≤ records bytes
  unfolding opcode_at instruction_at instruction_test
  instruction_within none e test = rw (e, instruction_at) (omega arith)
  instruction_within (some row) e test =
      let fields = (first_none _ _ (rw (e, instruction_test) at test)).1 in
      let fits : target_fits row.operand (operand_at bytes a) a (records bytes) ≡ true =
      unless_passed _ Reason.Target a (first_none _ _ fields).0 in
      rw (e, instruction_at) (target_within _ a (records bytes) _ e fits)

module _ (bytes : List ℕ) (passed : first_refusal (code_tests bytes) ≡ none) where
  instruction_passed : (a : ℕ) → a < records bytes → instruction_test bytes a ≡ none
  unfolding code_tests
  instruction_passed a h = lowest_none (instruction_test bytes) (records bytes) a h (first_none _ _ (first_none _ _ passed).1).0

  pub bounded_accepted : Bounded (records bytes) (instructions bytes)
  bounded_accepted = record {
    targets = λ a x e.
        let below : a < records bytes = rw (length_instructions bytes) at (below_found (instructions bytes) a e) in
        let same : instruction_at bytes a ≡ x = cc (instruction_found bytes a below, e) in
        rw same at (instruction_within bytes a (opcode_at bytes a) refl (instruction_passed a below));
  }

  pub never_past : (placing : Placing) (i : Status) (k : ℕ) (s : State) → state_after (instructions bytes) placing i k ≡ some s
      → Within (records bytes) s
  never_past placing i k s at =
      let long : length (instructions bytes) ≤ records bytes = rw (length_instructions bytes) (omega arith) in
      meets_within bounded_accepted long placing (record { address = omega arith; handlers = tt })
      (state_met (instructions bytes) placing i k s at)
