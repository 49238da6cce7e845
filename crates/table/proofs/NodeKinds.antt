-- The node of a record by its kind, and test 3 by the kind.
--
--   kind_known     each kind has a row
--   node_of_kind   the node of a record, by the row of its kind
--   unused_val, unused_throw, unused_pair, unused_scope; unused_sums, the four of them
--                  the bytes that a kind does not use, added up: 0 exactly if each is 0
--
-- Assumes nothing.
use Prim.Native.Nat.{ℕ, ◌+◌, ◌*◌}
use lib.Dec.{eqb}
use mathlib.Core.Bool.{and-true, and_assoc}
use mathlib.Core.List.{List, [], ◌∷◌}
use mathlib.Core.Option.{some}
use mathlib.Core.Path.{◌≡◌, refl}
use Rattle.rules.specs.Bytes.{byte_at, half_at, all_zero, row_numbered}
use Rattle.rules.specs.Limits.{record_bytes}
use Rattle.rules.specs.Table.{KindRow, kinds, kind_at, node_of, node_at}
use Rattle.rules.proofs.Bytes.Records.{zero_and, zero_half, zero_padding}
use Rattle.rules.proofs.Lists.{RowKnown}
use Rattle.table.specs.Kinds.{kind_number}
use Rattle.table.specs.declared.kind.Kind.{Kind}
use Rattle.table.specs.declared.kind.Kind.TheVariants.{Val, Throw, Add, Seqn, Catch, Block, Unblock}

-- ---- nodes

pub kind_known : (kind : Kind) → RowKnown kinds (kind_number kind)
unfolding kinds row_numbered
kind_known Val = record { row = _; found = refl }
kind_known Throw = record { row = _; found = refl }
kind_known Add = record { row = _; found = refl }
kind_known Seqn = record { row = _; found = refl }
kind_known Catch = record { row = _; found = refl }
kind_known Block = record { row = _; found = refl }
kind_known Unblock = record { row = _; found = refl }

module _ (table : List ℕ) (j : ℕ) where
  pub node_of_kind : {row : KindRow} → kind_at table j ≡ some row → node_at table j ≡ node_of row table (record_bytes * j)
  unfolding node_at
  node_of_kind found = rw (found, node_at)

-- ---- unused bytes, from the fields that were read

module _ (table : List ℕ) (base : ℕ) {second left right last : ℕ}
    (one : second ≡ byte_at table (base + 1)) (two : left ≡ half_at table (base + 2))
    (four : right ≡ half_at table (base + 4)) (six : last ≡ half_at table (base + 6)) where
  -- kind 1
  pub unused_val : eqb (second + left) 0 ≡ all_zero table base (1 ∷ 2 ∷ 3 ∷ [])
  unused_val = rw (one, two) (zero_padding table base)

  -- kind 2
  pub unused_throw : eqb (second + left + right + last) 0 ≡ all_zero table base (1 ∷ 2 ∷ 3 ∷ 4 ∷ 5 ∷ 6 ∷ 7 ∷ [])
  unfolding all_zero
  unused_throw =
      rw (one, two, four, six)
      (simp (zero_and, and_assoc)
      (rw (
        zero_half table base 2 (4 ∷ 5 ∷ 6 ∷ 7 ∷ []),
        zero_half table base 4 (6 ∷ 7 ∷ []),
        zero_half table base 6 [],
        and-true,
      )))

  -- kinds 3, 4 and 5
  pub unused_pair : eqb (second + last) 0 ≡ all_zero table base (1 ∷ 6 ∷ 7 ∷ [])
  unfolding all_zero
  unused_pair = rw (one, six) (rw (zero_and, zero_half table base 6 [], and-true))

  -- kinds 6 and 7
  pub unused_scope : eqb (second + right + last) 0 ≡ all_zero table base (1 ∷ 4 ∷ 5 ∷ 6 ∷ 7 ∷ [])
  unfolding all_zero
  unused_scope =
      rw (one, four, six)
      (simp (zero_and, and_assoc) (rw (zero_half table base 4 (6 ∷ 7 ∷ []), zero_half table base 6 [], and-true)))

pub ruleset unused_sums = (unused_val, unused_throw, unused_pair, unused_scope)
