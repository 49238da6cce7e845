-- A placing as the bytes of a schedule (document 01, "One step of the machine").
--
--   schedule_of placing n   the bytes for the first n instructions reached
--   schedule_of_bytes       each is below 256
--   asks_schedule_of        they ask for what the placing asks for, if that is nothing from n on
--   asks_nothing            a schedule of no bytes asks for nothing
--
-- Assumes nothing.
use Prim.Native.Nat.{ℕ, zero, suc, ◌+◌, ◌*◌, ◌/◌, ◌%◌, ◌^◌, ◌≤◌, ◌<◌}
use native.Mathlib.Decide.{dec_lt}
use native.Mathlib.Nat.{zero-div}
use native.Mathlib.Omega.{arith}
use borrow.Author.Tests.{eq-eqb, ne_eqb}
use lib.Dec.{eqb}
use lib.ListN.{length, get_or-eq_default}
use lib.Pow.{shr-shr}
use mathlib.Core.Bool.{Bool, true, false, cond}
use mathlib.Core.List.{List, [], ◌∷◌}
use mathlib.Core.Path.{◌≡◌, refl, sym, ◌∙◌, fun_ext}
use Rattle.rules.specs.Bytes.{byte_at}
use Rattle.rules.specs.Demand.{AsksNothingFrom, no_recall}
use Rattle.rules.specs.Machine.{Placing}
use Rattle.rules.specs.Schedule.{asks}

-- ---- bits

abbrev bit : Bool → ℕ
bit b = cond b 1 0

bit_small : (b : Bool) → bit b < 2
bit_small true = omega arith
bit_small false = omega arith

lowest_bit : (b : Bool) (rest : ℕ) → eqb ((bit b + 2 * rest) / 1 % 2) 1 ≡ b
lowest_bit true rest = eq-eqb ((1 + 2 * rest) / 1 % 2) 1 (omega arith)
lowest_bit false rest = ne_eqb ((0 + 2 * rest) / 1 % 2) 1 (omega arith)

higher_bits : (b : Bool) (rest k : ℕ) → (bit b + 2 * rest) / 2 ^ suc k ≡ rest / 2 ^ k
higher_bits b rest k =
    let next : suc k ≡ 1 + k = omega arith in
    let half : (bit b + 2 * rest) / 2 ≡ rest = omega (arith, bit_small b) in
    rw next (sym (shr-shr (bit b + 2 * rest) 1 k) ∙ rw half)

module _ (placing : Placing) where
  -- what is asked for at n instructions from `first` on, "least significant bit first"
  bits_from : ℕ → ℕ → ℕ
  bits_from first zero = 0
  bits_from first (suc n) = bit (placing first) + 2 * bits_from (first + 1) n

  bits_small : (first n : ℕ) → bits_from first n < 2 ^ n
  unfolding bits_from
  bits_small first zero = omega arith
  bits_small first (suc n) = omega (arith, bit_small (placing first), bits_small (first + 1) n)

  bit_found : (first n k : ℕ) → k < n → eqb (bits_from first n / 2 ^ k % 2) 1 ≡ placing (first + k)
  unfolding bits_from
  bit_found first zero k h = absurd (omega arith)
  bit_found first (suc n) zero h =
      let here : first + 0 ≡ first = omega arith in
      rw here (lowest_bit (placing first) (bits_from (first + 1) n))
  bit_found first (suc n) (suc k) h =
      let there : first + suc k ≡ first + 1 + k = omega arith in
      rw (there, higher_bits (placing first) (bits_from (first + 1) n) k) (bit_found (first + 1) n k (omega arith))

  -- ---- bytes

  bytes_from : ℕ → ℕ → List ℕ
  bytes_from first zero = []
  bytes_from first (suc count) = bits_from first 8 ∷ bytes_from (first + 8) count

  length_bytes_from : (first count : ℕ) → length (bytes_from first count) ≡ count
  unfolding bytes_from
  length_bytes_from first zero = refl
  length_bytes_from first (suc count) = rw (length_bytes_from (first + 8) count)

  bytes_small : (first count k : ℕ) → byte_at (bytes_from first count) k < 256
  unfolding bytes_from
  bytes_small first zero k = omega arith
  bytes_small first (suc count) zero = bits_small first 8
  bytes_small first (suc count) (suc k) = bytes_small (first + 8) count k

  byte_found : (first count j : ℕ) → j < count → byte_at (bytes_from first count) j ≡ bits_from (first + 8 * j) 8
  unfolding bytes_from
  byte_found first zero j h = absurd (omega arith)
  byte_found first (suc count) zero h = let here : first + 8 * 0 ≡ first = omega arith in rw here
  byte_found first (suc count) (suc j) h =
      let there : first + 8 * suc j ≡ first + 8 + 8 * j = omega arith in
      rw there (byte_found (first + 8) count j (omega arith))

  -- ---- a schedule

  -- The last byte's bits past n are the placing's too: where it asks for nothing, no cut is needed.
  pub schedule_of : ℕ → List ℕ
  schedule_of n = bytes_from 0 ((n + 7) / 8)

  length_schedule_of : (n : ℕ) → length (schedule_of n) ≡ (n + 7) / 8
  unfolding schedule_of
  length_schedule_of n = length_bytes_from 0 ((n + 7) / 8)

  pub schedule_of_bytes : (n k : ℕ) → byte_at (schedule_of n) k < 256
  unfolding schedule_of
  schedule_of_bytes n k = bytes_small 0 ((n + 7) / 8) k

  pub asks_schedule_of : (n : ℕ) → AsksNothingFrom n placing → (k : ℕ) → asks (schedule_of n) k ≡ placing k
  unfolding schedule_of asks
  asks_schedule_of n quiet k = elim (dec_lt (k / 8) ((n + 7) / 8)) [
    | yes inside ↦
        let place : 0 + 8 * (k / 8) + k % 8 ≡ k = omega arith in
        rw (byte_found 0 ((n + 7) / 8) (k / 8) inside) (rw place at (bit_found (0 + 8 * (k / 8)) 8 (k % 8) (omega arith)))
    | no past ↦
        let missing : length (schedule_of n) ≤ k / 8 = rw (length_schedule_of n) (omega arith) in
        rw (get_or-eq_default (schedule_of n) 0 missing, zero-div (2 ^ (k % 8))) (sym (quiet k (omega arith)))
  ]

pub asks_nothing : asks [] ≡ no_recall
unfolding asks
asks_nothing = fun_ext λ k. rw (zero-div (2 ^ (k % 8)))
