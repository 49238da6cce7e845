-- The instructions that bytes say (`specs/CodeBytes.antt`), one at each address.
--
--   length_instructions   as many as there are records
--   instruction_found     at the address of a record stands what the record says
--   instruction_missing   past the records stands none
--
-- Assumes nothing.
use Prim.Native.Nat.{ℕ, zero, suc, ◌≤◌, ◌<◌}
use native.Mathlib.Decide.{dec_lt}
use native.Mathlib.Omega.{arith}
use lib.ListN.{length, get_elem?, length-append}
use mathlib.Core.List.{List, [], ◌∷◌}
use mathlib.Core.Option.{none, some}
use mathlib.Core.Path.{◌≡◌, refl, ◌∙◌}
use Rattle.rules.specs.Bytes.{records}
use Rattle.rules.specs.CodeBytes.{instruction_at, instructions_below, instructions}
use Rattle.rules.proofs.Lists.{missing_past, found_front, found_seam}

module _ (code : List ℕ) where
  length_instructions_below : (n : ℕ) → length (instructions_below code n) ≡ n
  unfolding instructions_below
  length_instructions_below zero = refl
  length_instructions_below (suc n) = simp (length-append, length_instructions_below n) (omega arith)

  instructions_below_last : (n : ℕ) → get_elem? (instructions_below code (suc n)) n ≡ some (instruction_at code n)
  unfolding instructions_below
  instructions_below_last n =
      let seam = found_seam (instructions_below code n) (instruction_at code n) [] in
      rw (length_instructions_below n) at seam

  instructions_below_found : (n a : ℕ) → a < n → get_elem? (instructions_below code n) a ≡ some (instruction_at code a)
  unfolding instructions_below
  instructions_below_found zero a h = absurd (omega arith)
  instructions_below_found (suc n) a h = elim (dec_lt a n) [
    | yes lower ↦
        let below : a < length (instructions_below code n) = rw (length_instructions_below n) lower in
        found_front (instructions_below code n) (instruction_at code n ∷ []) a below ∙ instructions_below_found n a lower
    | no not_lower ↦ let last : a ≡ n = omega arith in rw last (instructions_below_last n)
  ]

  pub length_instructions : length (instructions code) ≡ records code
  unfolding instructions
  length_instructions = length_instructions_below (records code)

  pub instruction_found : (a : ℕ) → a < records code → get_elem? (instructions code) a ≡ some (instruction_at code a)
  unfolding instructions
  instruction_found a h = instructions_below_found (records code) a h

  pub instruction_missing : (a : ℕ) → records code ≤ a → get_elem? (instructions code) a ≡ none
  instruction_missing a h = missing_past (instructions code) a (rw length_instructions h)
