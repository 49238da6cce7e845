-- Two's complement: how the machine's 32 bits and its signed numbers carry the definitions of lane counts.
--
--   signed_to_z      the signed reading of 32 bits is `signed`
--   residue_of_z     the bits of a signed number are its `residue`
--   residue_sum      the residue of a sum is the wrapped sum of the residues
--
-- Assumes nothing.
use Rattle.std.proofs.Common.{◌≡◌, ℕ, suc, ◌+◌, ◌-◌, ◌%◌, ◌^◌, ◌<◌, Bool, true, false, cond, ltb, ℤ, pos, negsuc}
use Rattle.std.proofs.Common.{◌+ℤ◌, refl, ◌∙◌, arith, w32, SFits, to_z, of_z, le-ltb, lt-ltb}
use native.Mathlib.Decide.{dec_lt}
use lib.IntN.{sub_ℕ}
use mir.Val.{sel}
use Rattle.rules.specs.Number.{residue, signed}

-- ---- reading and writing

sel_cond : (test : Bool) (x y : ℤ) → sel test x y ≡ cond test x y
sel_cond true x y = refl
sel_cond false x y = refl

pub signed_to_z : (word : ℕ) → to_z w32 word ≡ signed word
unfolding signed
signed_to_z word = sel_cond (ltb word (2 ^ 31)) (pos word) (negsuc (2 ^ 32 - suc word))

pub residue_of_z : {z : ℤ} → SFits w32 z → of_z w32 z ≡ residue z
unfolding residue
residue_of_z {z = pos n} fits = let small : n < 2 ^ 31 = fits.sfits in omega arith
residue_of_z {z = negsuc n} fits = let small : n < 2 ^ 31 = fits.sfits in omega arith

-- ---- sums

residue_difference : (a b : ℕ) → residue (sub_ℕ a b) ≡ (a % 2 ^ 32 + (2 ^ 32 - b % 2 ^ 32)) % 2 ^ 32
unfolding residue
residue_difference a b =
    elim (dec_lt a b) [
      | yes below ↦ let test : ltb a b ≡ true = lt-ltb a b below in rw test (omega arith)
      | no above ↦ let test : ltb a b ≡ false = le-ltb a b (omega arith) in rw test (omega arith)
    ]

pub residue_sum : (n m : ℤ) → residue (n +ℤ m) ≡ (residue n + residue m) % 2 ^ 32
unfolding residue
residue_sum (pos a) (pos b) = omega arith
residue_sum (pos a) (negsuc b) = residue_difference a (suc b) ∙ omega arith
residue_sum (negsuc a) (pos b) = residue_difference b (suc a) ∙ omega arith
residue_sum (negsuc a) (negsuc b) = omega arith
