-- Bytes and records of eight bytes (document 01, "The recipe table" and "The code"). A buffer is the list of its bytes.
--
--   byte_at, half_at, word_at   a field of one, two or four bytes, "little-endian"
--   word_bytes                  the four bytes of a word
--   all_zero                    the bytes of a record at these offsets are zero
--   records                     how many records there are
--   row_numbered, row_at        a row of a list whose rows are numbered from 1; the row that a record's first byte names
--   whole_records               the bytes are not 0, not above a size, and a multiple of 8 (tests 1 and 9)
--
-- Assumes nothing.
use Rattle.std.specs.Prelude.{ℕ, zero, suc, ◌+◌, ◌*◌, ◌/◌, ◌%◌, leb, ltb, eqb, length, get_or, Bool, true, ◌&&◌, List, [], ◌∷◌}
use Rattle.std.proofs.Math.ListN.{get_elem?}
use Rattle.std.proofs.Math.Option.{Option, none}
use Rattle.rules.specs.Limits.{record_bytes}

abbrev pub byte_at : List ℕ → ℕ → ℕ
byte_at bytes i = get_or bytes i 0

unfoldable pub half_at : List ℕ → ℕ → ℕ
half_at bytes i = byte_at bytes i + 256 * byte_at bytes (i + 1)

unfoldable pub word_at : List ℕ → ℕ → ℕ
word_at bytes i = half_at bytes i + 65536 * half_at bytes (i + 2)

unfoldable pub word_bytes : ℕ → List ℕ
word_bytes word = word % 256 ∷ word / 256 % 256 ∷ word / 65536 % 256 ∷ word / 16777216 % 256 ∷ []

unfoldable pub all_zero : List ℕ → ℕ → List ℕ → Bool
all_zero bytes base [] = true
all_zero bytes base (offset ∷ offsets) = eqb (byte_at bytes (base + offset)) 0 && all_zero bytes base offsets

abbrev pub records : List ℕ → ℕ
records bytes = length bytes / record_bytes

unfoldable pub row_numbered : {A : Type 0} → List A → ℕ → Option A
row_numbered rows zero = none
row_numbered rows (suc k) = get_elem? rows k

abbrev pub row_at : {A : Type 0} → List A → List ℕ → ℕ → Option A
row_at rows bytes j = row_numbered rows (byte_at bytes (record_bytes * j))

unfoldable pub whole_records : ℕ → List ℕ → Bool
whole_records most bytes = ltb 0 (length bytes) && leb (length bytes) most && eqb (length bytes % record_bytes) 0
