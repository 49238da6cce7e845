-- The digits that `itoa` makes are those of the definition.
--
--   decimal_text   a number of up to 32 bits
--   integer_text   a signed one
--
-- Assumes nothing.
use mir.Syntax.{w32}
use Rattle.std.proofs.Common.{arith, ℕ, suc, ◌^◌, ◌<◌, ◌≤◌, ltb, true, false, ◌∷◌, length, ◌≡◌, sym, ap}
use borrow.Author.Tests.{lt-ltb, le-ltb}
use lib.IntN.{ℤ, pos, negsuc}
use mir.Facts.{to_z-of_z}
use mir.Val.{SFits, to_z, of_z}
use Rattle.std.proofs.lemmas.Fmt.{AppendsLastDigit, decimal_from_appends, length-decimal-le_succ}
use Rattle.std.specs.Fmt as printed
use Rattle.rules.specs.Line.{decimal_within, decimal, integer}

by_last_digit : AppendsLastDigit decimal_within
unfolding decimal_within
by_last_digit = record {
  one = λ k n small. let single : ltb n 10 ≡ true = lt-ltb n 10 small in rw (single, decimal_within);
  more = λ k n large. let several : ltb n 10 ≡ false = le-ltb n 10 large in rw (several, decimal_within);
}

pub decimal_text : (n : ℕ) → n < 2 ^ 32 → printed.decimal n ≡ decimal n
unfolding decimal
decimal_text n small =
    let fits : n < 2 ^ 64 = omega arith in
    let within : length (printed.decimal n) ≤ suc n = omega (arith, length-decimal-le_succ n fits) in
    sym (decimal_from_appends decimal_within by_last_digit (suc n) n fits within)

by_sign : (n : ℤ) → SFits w32 n → printed.signed_decimal n ≡ integer n
unfolding integer
by_sign (pos n) fits = let small : n < 2 ^ 31 = fits.sfits in decimal_text n (omega arith)
by_sign (negsuc n) fits = let small : n < 2 ^ 31 = fits.sfits in ap (λ text. 45 ∷ text) (decimal_text (suc n) (omega arith))

-- as a caller's contract names a number, by its 32 bits
pub integer_text : (n : ℤ) → SFits w32 n → printed.signed_decimal (to_z w32 (of_z w32 n)) ≡ integer n
integer_text n fits = rw (to_z-of_z fits) (by_sign n fits)
