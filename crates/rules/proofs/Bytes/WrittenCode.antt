-- A code written as bytes and read again (document 01, "The code"): its records say its instructions, and the tests 9 to 12 let
-- it pass.
--
--   LaneCount               a number that 32 bits say
--   Writable n a x          a record can say x at address a of n: its number is a lane count, its target above a and at most n
--   AllWritable n a xs      the same of each of xs, the first of them at a
--   instructions_bytes_of   the bytes of a writable code say the code
--   bytes_of_passes         no test refuses them
--
-- Assumes nothing.
use Prim.Native.Nat.{ℕ, zero, suc, ◌+◌, ◌*◌, ◌^◌, ◌≤◌, ◌<◌}
use native.Mathlib.Omega.{arith}
use borrow.Author.Tests.{lt-ltb, le-leb}
use lib.Dec.{ltb, leb}
use lib.IntN.{ℤ, pos, negsuc}
use lib.ListN.{length, get_or, take, get_or-append}
use lib.Seq.{get_or-append-add, take-suc, take-length}
use mathlib.Core.Bool.{true, ◌&&◌}
use mathlib.Core.List.{List, [], ◌∷◌}
use mathlib.Core.Option.{Option, none, some}
use mathlib.Core.Path.{◌≡◌, refl, sym, ap, ◌∙◌}
use Rattle.rules.specs.Bytes.{byte_at, half_at, word_at, word_bytes, all_zero, records, row_numbered}
use Rattle.rules.specs.CodeBytes.{instruction_record, instruction_bytes, bytes_of, OpcodeRow, opcodes, opcode_at, operand_at}
use Rattle.rules.specs.CodeBytes.{instruction_at, instructions_below, instructions}
use Rattle.rules.specs.CodeBytes.{operand_fits, target_fits, instruction_test, code_tests}
use Rattle.rules.specs.Limits.{record_bytes, instruction_limit, code_limit}
use Rattle.rules.specs.Number.{residue, signed}
use Rattle.rules.specs.Refusals.{unless, first_refusal}
use Rattle.rules.specs.declared.Instruction.{Instruction}
use Rattle.rules.specs.declared.Instruction.TheVariants.{Push, Throw, Add, Pop, Mark, Unmark, Set, Reset}
use Rattle.rules.specs.declared.Status.{Status}
use Rattle.rules.specs.declared.Status.TheVariants.{Blocked, Unblocked}
use Rattle.rules.proofs.Bytes.CodeBytes.{length_instruction_bytes, length_bytes_of}
use Rattle.rules.proofs.Bytes.Records.{word_whole}
use Rattle.rules.proofs.Bytes.Sizes.{whole_passes}
use Rattle.rules.proofs.Lists.{EachFrom, found_get_or, each_found}
use Rattle.rules.proofs.Refusals.{lowest_all}

-- ---- what records can say

abbrev pub LaneCount : ℤ → Type 0
LaneCount n = signed (residue n) ≡ n

pub data Writable (n a : ℕ) : Instruction → Type 0 where
  push : {k : ℤ} → LaneCount k → Writable n a (Push k)
  throw : Writable n a Throw
  add : Writable n a Add
  pop : Writable n a Pop
  mark : (t : ℕ) → a < t → t ≤ n → Writable n a (Mark t)
  unmark : (t : ℕ) → a < t → t ≤ n → Writable n a (Unmark t)
  set : (i : Status) → Writable n a (Set i)
  reset : Writable n a Reset

abbrev pub AllWritable : ℕ → ℕ → List Instruction → Type 0
AllWritable n a xs = EachFrom (Writable n) a xs

-- the instruction that stands at an address
abbrev standing : List Instruction → ℕ → Instruction
standing xs a = get_or xs a Throw

writable_standing : {n : ℕ} {xs : List Instruction} (a : ℕ) → a < length xs → AllWritable n 0 xs → Writable n a (standing xs a)
writable_standing {xs = xs} a inside all = each_found all a a (omega arith) (found_get_or xs a Throw inside)

-- ---- one record

residue_small : (n : ℤ) → residue n < 2 ^ 32
unfolding residue
residue_small (pos n) = omega arith
residue_small (negsuc n) = omega arith

operand_whole : (opcode operand : ℕ) → operand < 2 ^ 32 → operand_at (instruction_record opcode operand) 0 ≡ operand
unfolding word_at half_at instruction_record word_bytes
operand_whole opcode operand small = word_whole operand small

-- The bytes of x, read by an opcode's row, say x, and pass tests 11 and 12 at address a of n.
abbrev Says : ℕ → ℕ → Instruction → Option OpcodeRow → Type 0
Says n a x none = ⊥
Says n a x (some row) =
    (row.instruction (operand_at (instruction_bytes x) 0) ≡ x)
    × (all_zero (instruction_bytes x) 0 (1 ∷ 2 ∷ 3 ∷ []) && operand_fits row.operand (operand_at (instruction_bytes x) 0) ≡ true)
    × (target_fits row.operand (operand_at (instruction_bytes x) 0) a n ≡ true)

target_fits_lem : {n a t : ℕ} → a < t → t ≤ n → ltb a t && leb t n ≡ true
target_fits_lem {n} {a} {t} above within = rw (lt-ltb a t above, le-leb t n within)

writable_says : {n a : ℕ} {x : Instruction} → n ≤ instruction_limit → Writable n a x
    → Says n a x (opcode_at (instruction_bytes x) 0)
unfolding word_at half_at word_bytes all_zero instruction_bytes instruction_record opcodes row_numbered opcode_at operand_fits
    target_fits
writable_says short (push {k} lane) = rw (operand_whole 1 (residue k) (residue_small k)) (ap Push lane, refl, refl)
writable_says short throw = (refl, refl, refl)
writable_says short add = (refl, refl, refl)
writable_says short pop = (refl, refl, refl)
writable_says short (mark t above within) = rw (operand_whole 5 t (omega arith)) (refl, refl, target_fits_lem above within)
writable_says short (unmark t above within) = rw (operand_whole 6 t (omega arith)) (refl, refl, target_fits_lem above within)
writable_says short (set Blocked) = (refl, refl, refl)
writable_says short (set Unblocked) = (refl, refl, refl)
writable_says short reset = (refl, refl, refl)

-- ---- a record among others

byte_standing : (xs : List Instruction) (a i k : ℕ) → a < length xs → (k < record_bytes) × (i ≡ record_bytes * a + k)
    → byte_at (bytes_of xs) i ≡ byte_at (instruction_bytes (standing xs a)) k
unfolding bytes_of
byte_standing [] a i k inside h = absurd (omega arith)
byte_standing (x ∷ xs) zero i k inside h =
    let here : i ≡ k = omega arith in
    rw here (get_or-append (instruction_bytes x) (bytes_of xs) 0 k (rw (length_instruction_bytes x) h.0))
byte_standing (x ∷ xs) (suc a) i k inside h =
    let past : i ≡ length (instruction_bytes x) + (record_bytes * a + k) = rw (length_instruction_bytes x) (omega arith) in
    let later = byte_standing xs a (record_bytes * a + k) k (omega arith) (h.0, refl) in
    rw past (get_or-append-add (instruction_bytes x) (bytes_of xs) (record_bytes * a + k) 0 ∙ later)

records_bytes_of : (xs : List Instruction) → records (bytes_of xs) ≡ length xs
records_bytes_of xs = rw (length_bytes_of xs) (omega arith)

module _ (xs : List Instruction) (a : ℕ) (inside : a < length xs) where
  record_byte : (i k : ℕ) → (k < record_bytes) × (i ≡ record_bytes * a + k)
      → byte_at (bytes_of xs) i ≡ byte_at (instruction_bytes (standing xs a)) k
  record_byte i k = byte_standing xs a i k inside

  opcode_standing : opcode_at (bytes_of xs) a ≡ opcode_at (instruction_bytes (standing xs a)) 0
  unfolding opcode_at
  opcode_standing = rw (record_byte (record_bytes * a) 0 (omega arith))

  operand_standing : operand_at (bytes_of xs) a ≡ operand_at (instruction_bytes (standing xs a)) 0
  unfolding word_at half_at
  operand_standing =
      rw (
        record_byte (record_bytes * a + 4) 4 (omega arith),
        record_byte (record_bytes * a + 4 + 1) 5 (omega arith),
        record_byte (record_bytes * a + 4 + 2) 6 (omega arith),
        record_byte (record_bytes * a + 4 + 2 + 1) 7 (omega arith),
      )

  zeros_standing : all_zero (bytes_of xs) (record_bytes * a) (1 ∷ 2 ∷ 3 ∷ [])
      ≡ all_zero (instruction_bytes (standing xs a)) 0 (1 ∷ 2 ∷ 3 ∷ [])
  unfolding all_zero
  zeros_standing =
      rw (
        record_byte (record_bytes * a + 1) 1 (omega arith),
        record_byte (record_bytes * a + 2) 2 (omega arith),
        record_byte (record_bytes * a + 3) 3 (omega arith),
      )

  read_by_row : (o : Option OpcodeRow) → opcode_at (bytes_of xs) a ≡ o → Says (length xs) a (standing xs a) o
      → (instruction_at (bytes_of xs) a ≡ standing xs a) × (instruction_test (bytes_of xs) a ≡ none)
  unfolding instruction_at instruction_test first_refusal unless
  read_by_row none e said = absurd said
  read_by_row (some row) e said =
      rw (e, instruction_at, instruction_test)
      (rw (operand_standing, zeros_standing, records_bytes_of xs) (said.0, rw (said.1, said.2)))

-- ---- a code

module _ (xs : List Instruction) (short : length xs ≤ instruction_limit) (all : AllWritable (length xs) 0 xs) where
  read_back : (a : ℕ) → a < length xs → (instruction_at (bytes_of xs) a ≡ standing xs a) × (instruction_test (bytes_of xs) a ≡ none)
  read_back a inside =
      read_by_row xs a inside _ (opcode_standing xs a inside) (writable_says short (writable_standing a inside all))

  read_below : (n : ℕ) → n ≤ length xs → instructions_below (bytes_of xs) n ≡ take n xs
  unfolding instructions_below
  read_below zero h = refl
  read_below (suc n) h = rw (read_below n (omega arith), (read_back n h).0) (sym (take-suc xs n Throw h))

  pub instructions_bytes_of : instructions (bytes_of xs) ≡ xs
  unfolding instructions
  instructions_bytes_of = rw (records_bytes_of xs) (read_below (length xs) (omega arith) ∙ take-length xs)

  pub bytes_of_passes : 1 ≤ length xs → first_refusal (code_tests (bytes_of xs)) ≡ none
  unfolding code_tests first_refusal unless
  bytes_of_passes long =
      let bytes : length (bytes_of xs) ≡ record_bytes * length xs = length_bytes_of xs in
      let size = whole_passes code_limit (bytes_of xs) (omega arith) (omega arith) (omega arith) in
      rw (size, records_bytes_of xs, lowest_all (instruction_test (bytes_of xs)) (length xs) λ a inside. (read_back a inside).1)
