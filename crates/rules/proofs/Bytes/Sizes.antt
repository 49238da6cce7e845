-- The size of a table or a code (tests 1 and 9), by its three parts.
--
--   Whole          what the test says of bytes: whole records, at least one, and not too many bytes
--   whole_means    so it does
--   whole_passes   where each part holds, the test passes
--
-- Assumes nothing.
use Prim.Native.Nat.{ℕ, ◌*◌, ◌%◌, ◌≤◌, ◌<◌}
use native.Mathlib.Omega.{arith}
use borrow.Author.Tests.{lt-ltb, le-leb, eq-eqb, ltb-true, leb-true, eqb-true}
use lib.Dec.{ltb, leb}
use lib.ListN.{length}
use mathlib.Core.Bool.{true, ◌&&◌, and-eq-true_iff}
use mathlib.Core.List.{List}
use mathlib.Core.Path.{◌≡◌}
use Rattle.rules.specs.Bytes.{records, whole_records}
use Rattle.rules.specs.Limits.{record_bytes}

pub record Whole (most : ℕ) (bytes : List ℕ) : Type 0 where
  pub size : length bytes ≡ record_bytes * records bytes
  pub some : 1 ≤ records bytes
  pub few : length bytes ≤ most

module _ (most : ℕ) (bytes : List ℕ) where
  pub whole_passes : 0 < length bytes → length bytes ≤ most → length bytes % record_bytes ≡ 0 → whole_records most bytes ≡ true
  unfolding whole_records
  whole_passes some few part =
      rw (lt-ltb 0 (length bytes) some, le-leb (length bytes) most few, eq-eqb (length bytes % record_bytes) 0 part)

  pub whole_means : whole_records most bytes ≡ true → Whole most bytes
  unfolding whole_records
  whole_means e =
      let (sized, part) = (and-eq-true_iff (ltb 0 (length bytes) && leb (length bytes) most) _).0 e in
      let (some, few) = (and-eq-true_iff (ltb 0 (length bytes)) (leb (length bytes) most)).0 sized in
      let multiple : length bytes % record_bytes ≡ 0 = eqb-true (length bytes % record_bytes) 0 part in
      let positive : 0 < length bytes = ltb-true 0 (length bytes) some in
      record { size = omega arith; some = omega arith; few = leb-true (length bytes) most few }
