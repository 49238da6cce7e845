-- The bytes of a record.
--
--   word_whole     the four bytes of a word, put together again
--   zero_and       two numbers add up to 0 exactly if both are 0
--   zero_half      two bytes of a record are zero exactly if the number that they say is 0
--   zero_padding   bytes 1 to 3 are, exactly if they add up to 0
--
-- Assumes nothing.
use Prim.Native.Nat.{ℕ, ◌+◌, ◌*◌, ◌/◌, ◌%◌, ◌^◌, ◌<◌}
use native.Mathlib.Omega.{arith}
use borrow.Author.Tests.{eq-eqb, eqb-true, eqb-false, ne_eqb}
use lib.Dec.{eqb}
use mathlib.Core.Bool.{Bool, true, false, ◌&&◌, and-true, and_assoc}
use mathlib.Core.List.{List, [], ◌∷◌}
use mathlib.Core.Path.{◌≡◌, refl}
use Rattle.rules.specs.Bytes.{byte_at, half_at, all_zero}

pub word_whole : (word : ℕ) → word < 2 ^ 32
    → word % 256 + 256 * (word / 256 % 256) + 65536 * (word / 65536 % 256 + 256 * (word / 16777216 % 256)) ≡ word
word_whole word small =
    let second : word / 256 ≡ word / 256 % 256 + 256 * (word / 65536) = omega arith in
    let third : word / 65536 ≡ word / 65536 % 256 + 256 * (word / 16777216) = omega arith in
    let fourth : word / 16777216 % 256 ≡ word / 16777216 = omega arith in
    omega (arith, second, third, fourth)

-- ---- zero bytes

pub zero_and : (m n : ℕ) → eqb (m + n) 0 ≡ eqb m 0 && eqb n 0
zero_and m n = go (eqb m 0) (eqb n 0) refl refl where
  go : (p q : Bool) → eqb m 0 ≡ p → eqb n 0 ≡ q → eqb (m + n) 0 ≡ p && q
  go true true e f = eq-eqb (m + n) 0 (omega (arith, eqb-true m 0 e, eqb-true n 0 f))
  go true false e f = ne_eqb (m + n) 0 (λ h. eqb-false n 0 f (omega arith))
  go false true e f = ne_eqb (m + n) 0 (λ h. eqb-false m 0 e (omega arith))
  go false false e f = ne_eqb (m + n) 0 (λ h. eqb-false m 0 e (omega arith))

zero_multiple : (n : ℕ) → eqb (256 * n) 0 ≡ eqb n 0
zero_multiple n = go (eqb n 0) refl where
  go : (p : Bool) → eqb n 0 ≡ p → eqb (256 * n) 0 ≡ p
  go true e = eq-eqb (256 * n) 0 (omega (arith, eqb-true n 0 e))
  go false e = ne_eqb (256 * n) 0 (λ h. eqb-false n 0 e (omega arith))

module _ (bytes : List ℕ) (base : ℕ) where
  pub zero_half : (offset : ℕ) (offsets : List ℕ)
      → all_zero bytes base (offset ∷ (offset + 1) ∷ offsets) ≡ eqb (half_at bytes (base + offset)) 0 && all_zero bytes base offsets
  unfolding half_at all_zero
  zero_half offset offsets =
      let place : base + offset + 1 ≡ base + (offset + 1) = omega arith in
      rw (zero_and, zero_multiple, and_assoc, place)

  pub zero_padding : eqb (byte_at bytes (base + 1) + half_at bytes (base + 2)) 0 ≡ all_zero bytes base (1 ∷ 2 ∷ 3 ∷ [])
  unfolding all_zero
  zero_padding = rw (zero_and, zero_half 2 [], and-true)
