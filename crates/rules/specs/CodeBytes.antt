-- Code as bytes, written and read, and the tests 9 to 12 (document 01, "The code" and "Refusal numbers").
--
--   instruction_bytes   the eight bytes of an instruction
--   bytes_of            the bytes of a code
--   Form                what an operand is
--   opcodes             document 01's list of opcodes: what the operand is, the instruction made
--   instruction_at      the instruction that a record says
--   instructions        the code that bytes say
--   instruction_test    tests 10, 11 and 12 of an instruction
--   code_tests          the tests 9 to 12 in their order
--
-- Assumes nothing.
use Rattle.std.specs.Prelude.{ℕ, zero, suc, ◌+◌, ◌*◌, ltb, leb, eqb, Bool, true, ◌&&◌, List, [], ◌∷◌, ◌++◌}
use Rattle.std.proofs.Math.Option.{Option, none, some}
use Rattle.rules.specs.Answers.{status_number, status_numbered}
use Rattle.rules.specs.Bytes.{word_at, word_bytes, all_zero, records, row_numbered, row_at, whole_records}
use Rattle.rules.specs.Limits.{record_bytes, code_limit}
use Rattle.rules.specs.Number.{residue, signed}
use Rattle.rules.specs.Refusals.{unless, first_refusal, lowest_refusal}
use Rattle.rules.specs.declared.Instruction.{Instruction}
use Rattle.rules.specs.declared.Instruction.TheVariants.{Push, Throw, Add, Pop, Mark, Unmark, Set, Reset}
use Rattle.rules.specs.declared.Reason.{Reason}
use Rattle.rules.specs.declared.Reason.TheVariants.{CodeSize, Field}
use Rattle.rules.specs.declared.Refusal.{Refusal}

-- ---- written

-- "byte 0 the opcode, bytes 1 to 3 zero, bytes 4 to 7 the operand, zero where none"
unfoldable pub instruction_record : ℕ → ℕ → List ℕ
instruction_record opcode operand = opcode ∷ 0 ∷ 0 ∷ 0 ∷ word_bytes operand

unfoldable pub instruction_bytes : Instruction → List ℕ
instruction_bytes (Push n) = instruction_record 1 (residue n)
instruction_bytes Throw = instruction_record 2 0
instruction_bytes Add = instruction_record 3 0
instruction_bytes Pop = instruction_record 4 0
instruction_bytes (Mark t) = instruction_record 5 t
instruction_bytes (Unmark t) = instruction_record 6 t
instruction_bytes (Set i) = instruction_record 7 (status_number i)
instruction_bytes Reset = instruction_record 8 0

unfoldable pub bytes_of : List Instruction → List ℕ
bytes_of [] = []
bytes_of (x ∷ xs) = instruction_bytes x ++ bytes_of xs

-- ---- read

pub data Form : Type 0 where
  Absent Number Target Status : Form

pub record OpcodeRow : Type 0 where
  pub operand : Form
  pub instruction : ℕ → Instruction

abbrev opcode : Form → (ℕ → Instruction) → OpcodeRow
opcode operand instruction = record { operand = operand; instruction = instruction }

-- opcodes 1 to 8
unfoldable pub opcodes : List OpcodeRow
opcodes =
    opcode Number (λ word. Push (signed word))
    ∷ opcode Absent (λ word. Throw)
    ∷ opcode Absent (λ word. Add)
    ∷ opcode Absent (λ word. Pop)
    ∷ opcode Target (λ word. Mark word)
    ∷ opcode Target (λ word. Unmark word)
    ∷ opcode Status (λ word. Set (status_numbered word))
    ∷ opcode Absent (λ word. Reset)
    ∷ []

abbrev pub opcode_numbered : ℕ → Option OpcodeRow
opcode_numbered k = row_numbered opcodes k

unfoldable pub opcode_at : List ℕ → ℕ → Option OpcodeRow
opcode_at code a = row_at opcodes code a

abbrev pub operand_at : List ℕ → ℕ → ℕ
operand_at code a = word_at code (record_bytes * a + 4)

-- A record with no opcode says no instruction: it is refused, and what stands for it here is looked at by nobody.
unfoldable pub instruction_at : List ℕ → ℕ → Instruction
instruction_at code a = elim (opcode_at code a) [ none ↦ Throw | some o ↦ o.instruction (operand_at code a) ]

-- the first n
unfoldable pub instructions_below : List ℕ → ℕ → List Instruction
instructions_below code zero = []
instructions_below code (suc n) = instructions_below code n ++ (instruction_at code n ∷ [])

unfoldable pub instructions : List ℕ → List Instruction
instructions code = instructions_below code (records code)

-- ---- tested

-- "an absent operand not zero, or SET operand not 0 or 1"
unfoldable pub operand_fits : Form → ℕ → Bool
operand_fits Absent word = eqb word 0
operand_fits Number word = true
operand_fits Target word = true
operand_fits Status word = ltb word 2

-- "target not above its own address, or above the length"
unfoldable pub target_fits : Form → ℕ → ℕ → ℕ → Bool
target_fits Absent word a n = true
target_fits Number word a n = true
target_fits Target word a n = ltb a word && leb word n
target_fits Status word a n = true

unfoldable pub instruction_test : List ℕ → ℕ → Option Refusal
instruction_test code a =
    elim (opcode_at code a) [
      | none ↦ some (record { reason = Reason.Opcode; place = a })
      | some o ↦ first_refusal
          (unless (all_zero code (record_bytes * a) (1 ∷ 2 ∷ 3 ∷ []) && operand_fits o.operand (operand_at code a)) Field a
          ∷ unless (target_fits o.operand (operand_at code a) a (records code)) Reason.Target a
          ∷ [])
    ]

-- "9; then each instruction upward for 10, 11, 12"
unfoldable pub code_tests : List ℕ → List (Option Refusal)
code_tests code =
    unless (whole_records code_limit code) CodeSize 0
    ∷ lowest_refusal (instruction_test code) (records code)
    ∷ []
