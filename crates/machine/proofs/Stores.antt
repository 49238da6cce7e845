-- What a record stored in the stack says, the record being the eight bytes of a tag and an operand.
--
--   recorded         the stack with a record stored at place k
--   recorded_tag, recorded_operand
--                    the record's two fields, read back
--   item_same        the item at k is what the record says
--   item_below       an item below is as it was
--   items_below      so are all the items below
--   items_over       the item stands over those below
--   tagged_number    tag 0 with a number's residue says the number
--   stored           all of it: the item was put
--
-- Assumes nothing.
use Prim.Native.Nat.{ℕ, zero, suc, ◌+◌, ◌*◌, ◌^◌, ◌≤◌, ◌<◌}
use native.Mathlib.Omega.{arith}
use lib.IntN.{ℤ}
use lib.ListN.{length}
use lib.Seq.{sets}
use mathlib.Core.List.{List, ◌∷◌}
use mathlib.Core.Path.{◌≡◌, refl, sym, ap, ◌∙◌}
use mir.Syntax.{w32}
use mir.Val.{SFits}
use mir.Facts.{to_z-of_z}
use Rattle.rules.specs.Bytes.{byte_at, half_at, word_at, word_bytes}
use Rattle.rules.specs.CodeBytes.{instruction_record}
use Rattle.rules.specs.Limits.{record_bytes, item_limit, stack_bytes}
use Rattle.rules.specs.Number.{residue}
use Rattle.rules.specs.declared.Item.{Item}
use Rattle.rules.specs.declared.Item.TheVariants.{Number}
use Rattle.rules.proofs.Bytes.Records.{word_whole}
use Rattle.rules.proofs.Stores.{sets_below, sets_at}
use Rattle.numbers.proofs.Signed.{signed_to_z, residue_of_z}
use Rattle.machine.specs.Items.{item_tagged, item_at, items_of, Stored}

-- ---- a record at place k

abbrev pub recorded : List ℕ → ℕ → ℕ → ℕ → List ℕ
recorded stack k tag operand = sets stack (record_bytes * k) (instruction_record tag operand)

length_record : (tag operand : ℕ) → length (instruction_record tag operand) ≡ 8
unfolding instruction_record word_bytes
length_record tag operand = refl

module _ (stack : List ℕ) (k tag operand : ℕ) (room : record_bytes * k + 7 < length stack) where
  recorded_byte : (n : ℕ) → n < record_bytes
      → byte_at (recorded stack k tag operand) (record_bytes * k + n) ≡ byte_at (instruction_record tag operand) n
  recorded_byte n h =
      let inside : n < length (instruction_record tag operand) = simp length_record h in
      let fits : record_bytes * k + length (instruction_record tag operand) ≤ length stack = simp length_record (omega arith) in
      sets_at stack (record_bytes * k) (instruction_record tag operand) n 0 inside fits

  recorded_tag : byte_at (recorded stack k tag operand) (record_bytes * k) ≡ tag
  unfolding instruction_record
  recorded_tag =
      let here : record_bytes * k ≡ record_bytes * k + 0 = omega arith in
      ap (byte_at (recorded stack k tag operand)) here ∙ recorded_byte 0 (omega arith)

  recorded_operand : operand < 2 ^ 32 → word_at (recorded stack k tag operand) (record_bytes * k + 4) ≡ operand
  unfolding word_at half_at instruction_record word_bytes
  recorded_operand h =
      let five : record_bytes * k + 4 + 1 ≡ record_bytes * k + 5 = omega arith in
      let six : record_bytes * k + 4 + 2 ≡ record_bytes * k + 6 = omega arith in
      let seven : record_bytes * k + 6 + 1 ≡ record_bytes * k + 7 = omega arith in
      rw six
      (rw (five, seven)
      (rw (
        recorded_byte 4 (omega arith),
        recorded_byte 5 (omega arith),
        recorded_byte 6 (omega arith),
        recorded_byte 7 (omega arith),
      )
      (word_whole operand h)))

  item_same : operand < 2 ^ 32 → item_at (recorded stack k tag operand) k ≡ item_tagged tag operand
  unfolding item_at
  item_same h = rw (recorded_tag, recorded_operand h)

  byte_below : (i : ℕ) → i < record_bytes * k → byte_at (recorded stack k tag operand) i ≡ byte_at stack i
  byte_below i = sets_below stack (record_bytes * k) (instruction_record tag operand) i 0

  item_below : (j : ℕ) → j < k → item_at (recorded stack k tag operand) j ≡ item_at stack j
  unfolding item_at word_at half_at
  item_below j h =
      rw (
        byte_below (record_bytes * j) (omega arith),
        byte_below (record_bytes * j + 4) (omega arith),
        byte_below (record_bytes * j + 4 + 1) (omega arith),
        byte_below (record_bytes * j + 4 + 2) (omega arith),
        byte_below (record_bytes * j + 4 + 2 + 1) (omega arith),
      )

  items_below : (h : ℕ) → h ≤ k → items_of (recorded stack k tag operand) h ≡ items_of stack h
  unfolding items_of
  items_below zero l = refl
  items_below (suc h) l = rw (item_below h (omega arith), items_below h (omega arith))

  items_over : operand < 2 ^ 32 → items_of (recorded stack k tag operand) (k + 1) ≡ item_tagged tag operand ∷ items_of stack k
  unfolding items_of
  items_over h =
      let next : k + 1 ≡ suc k = omega arith in
      let all : k ≤ k = omega arith in
      rw next (rw (item_same h, items_below k all))

-- ---- an item put

pub tagged_number : {n : ℤ} → SFits w32 n → item_tagged 0 (residue n) ≡ Number n
unfolding item_tagged
tagged_number fits = ap Number (sym (signed_to_z _) ∙ rw (← residue_of_z fits) (to_z-of_z fits))

module _ (stack : List ℕ) (k : ℕ) (item : Item) (after : List ℕ) where
  pub stored : (tag operand : ℕ) → length stack ≡ stack_bytes → k < item_limit → operand < 2 ^ 32
      → item_tagged tag operand ≡ item → after ≡ recorded stack k tag operand → Stored stack k item after
  stored tag operand room place small said e =
      let inside : record_bytes * k + 7 < length stack = omega (arith, room) in
      rw (e, items_over stack k tag operand inside small, said)
