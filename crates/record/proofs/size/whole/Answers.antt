-- `record::size::whole` meets its contract, by the three parts of the test. Assumes nothing.
use Rattle.std.proofs.Common.{ℕ, ◌*◌, ◌≤◌, ◌<◌, ◌/◌, ◌%◌, ◌≡◌, arith, Bool, true, false, cond, ◌&&◌, Some, None, refl}
use Rattle.std.proofs.Common.{ltb, leb, eqb, lt-ltb, le-ltb, le-leb}
use Rattle.std.proofs.lemmas.Bool.{lt-leb}
use native.Mathlib.Decide.{dec_lt}
use borrow.Author.Tests.{ne_eqb}
use mathlib.Core.Bool.{and-false}
use Rattle.rules.specs.Bytes.{whole_records}
use Rattle.record.proofs.size.whole.Goals as goal
use Rattle.record.proofs.size.whole.Goals.{then-records-eq0-via-then-records-eq0}
use Rattle.record.proofs.size.whole.Goals.{then-records-eq0-via-else-records-eq0+then-most-records}
use Rattle.record.proofs.size.whole.Goals.{then-records-eq0-via-else-records-eq0+else-most-records+then-bytes-ne0}

-- the test by the number of records and what is left, beside that by the size
module _ (size most : ℕ) where
  abbrev test : Bool
  test = ltb 0 size && leb size (8 * most) && eqb (size % 8) 0

  part : (size % 8 ≡ 0 → ⊥) → test ≡ false
  part h = rw (ne_eqb (size % 8) 0 h, and-false)

  none : size / 8 ≡ 0 → test ≡ false
  none h = elim (dec_lt 0 (size % 8)) [
    | yes some ↦ part (λ e. omega arith)
    | no whole ↦ rw (le-ltb 0 size (omega arith)) refl
  ]

  many : most < size / 8 → test ≡ false
  many h = rw (lt-leb size (8 * most) (omega arith), and-false) refl

  whole : (size / 8 ≡ 0 → ⊥) → size / 8 ≤ most → size % 8 ≡ 0 → test ≡ true
  whole some few h = rw (lt-ltb 0 size (omega arith), le-leb size (8 * most) (omega arith), h) refl

-- what the test being passed or not makes of the answer
none_of : (n : ℕ) {test : Bool} → test ≡ false → None ≡ cond test (Some n) None
none_of n h = rw h refl

some_of : (n : ℕ) {test : Bool} → test ≡ true → Some n ≡ cond test (Some n) None
some_of n h = rw h refl

pub returns-then-records-eq0 : goal.returns-then-records-eq0
unfolding whole_records
returns-then-records-eq0 c = none_of _ (elim c.then-records-eq0.branch [
  | then-records-eq0-via-then-records-eq0 w ↦ none _ _ w.if-records-eq0.true
  | then-records-eq0-via-else-records-eq0+then-most-records w ↦ many _ _ w.if-most-records.true
  | then-records-eq0-via-else-records-eq0+else-most-records+then-bytes-ne0 w ↦ part _ _ w.if-bytes-ne0.true
])

pub returns : goal.returns
unfolding whole_records
returns c = some_of _ (whole _ _ c.if-records-eq0.false c.if-most-records.false c.if-bytes-ne0.false)
