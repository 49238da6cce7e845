-- Lane counts in 32 bits (document 01, "What a recipe may end in").
--
--   residue   an integer modulo 2^32
--   signed    32 bits, read as a signed number
--   sum       "the sum of two lane counts is taken modulo 2^32 and read as a signed 32-bit number"
--
-- Assumes nothing.
use Rattle.std.specs.Prelude.{ℕ, suc, ◌-◌, ◌%◌, ◌^◌, ℤ, pos, negsuc, ◌+ℤ◌, ltb, cond}

-- `negsuc n` is -(n + 1)
unfoldable pub residue : ℤ → ℕ
residue (pos n) = n % 2 ^ 32
residue (negsuc n) = 2 ^ 32 - suc (n % 2 ^ 32)

unfoldable pub signed : ℕ → ℤ
signed word = cond (ltb word (2 ^ 31)) (pos word) (negsuc (2 ^ 32 - suc word))

unfoldable pub sum : ℤ → ℤ → ℤ
sum n m = signed (residue (n +ℤ m))
