-- What reading a node answers, by its tests 2, 3 and 4, and what an answer says of them.
--
--   reads_unknown    a number that is no kind
--   tests            the tests of a node whose kind is known, one after the other
--   operands_named   what is named is the node's operands
--   told, operands_told
--                    what an answer says of the tests, and which nodes it names
--   passed_below     where the tests pass, the operands lie below
--
-- Assumes nothing.
use Prim.Native.Nat.{ℕ, ◌*◌}
use mathlib.Core.Bool.{true}
use mathlib.Core.List.{List, [], ◌∷◌}
use mathlib.Core.Option.{Option, none, some}
use mathlib.Core.Path.{◌≡◌, refl, sym, ◌∙◌}
use Rattle.rules.specs.Bytes.{byte_at, all_zero, row_numbered}
use Rattle.rules.specs.Limits.{record_bytes}
use Rattle.rules.specs.Refusals.{unless, first_refusal}
use Rattle.rules.specs.Table.{KindRow, kinds, kind_at, node_at, operands_of, all_below, node_test}
use Rattle.rules.specs.declared.Node.{Node}
use Rattle.rules.specs.declared.Node.TheVariants.{Val, Throw, Add, Seqn, Catch, Block, Unblock}
use Rattle.rules.specs.declared.Reason.{Reason}
use Rattle.rules.specs.declared.Reason.TheVariants.{UnusedByte, Operand}
use Rattle.rules.specs.declared.Refusal.{Refusal}
use Rattle.rules.proofs.Checking.{answer_passed, answer_refused, answer_told, TwoTests, row_passes_lem, refusal_of}
use Rattle.rules.proofs.Refusals.{refused_not_passed, first_none, unless_passed}
use Rattle.table.specs.Kinds.{kind_number}
use Rattle.table.specs.declared.kind.Kind.{Kind}
use Rattle.table.specs.Reading.{named, as_operands, operands_at, reading_at, unused_zero}
use Rattle.table.specs.declared.node.Operands.{Operands}
use Rattle.std.specs.Prelude.{Result, Ok, Err}
use Rattle.table.proofs.NodeKinds.{kind_known, node_of_kind}

-- ---- operands

pub operands_named : (node : Node) → named (as_operands (operands_of node)) ≡ operands_of node
operands_named (Val n) = refl
operands_named Throw = refl
operands_named (Add left right) = refl
operands_named (Seqn left right) = refl
operands_named (Catch left right) = refl
operands_named (Block left) = refl
operands_named (Unblock left) = refl

-- ---- the tests of a node

module _ (table : List ℕ) (j : ℕ) where
  no_kind : kind_at table j ≡ none → node_test table j ≡ some (record { reason = Reason.Kind; place = j })
  unfolding node_test
  no_kind missing = rw (missing, node_test)

  row_tests : {row : KindRow} → kind_at table j ≡ some row
      → node_test table j
      ≡ first_refusal
      (unless (all_zero table (record_bytes * j) row.zeros) UnusedByte j
      ∷ unless (all_below j (operands_of (node_at table j))) Operand j
      ∷ [])
  unfolding node_test
  row_tests found = rw (node_of_kind table j found) (rw (found, node_test))

  pub reads_unknown : row_numbered kinds (byte_at table (record_bytes * j)) ≡ none
      → reading_at table j ≡ Err (record { reason = Reason.Kind; place = j })
  unfolding kind_at
  reads_unknown missing = answer_refused Err (Ok (operands_at table j)) (no_kind missing)

  pub tests : (kind : Kind) → kind_number kind ≡ byte_at table (record_bytes * j)
      → TwoTests (node_test table j)
      (unused_zero table (record_bytes * j) (kind_number kind)) (record { reason = UnusedByte; place = j })
      (all_below j (operands_of (node_at table j))) (record { reason = Operand; place = j })
  unfolding kind_at
  tests kind says =
      let known = kind_known kind in
      record {
        in_turn =
            rw (row_passes_lem kinds (λ row. all_zero table (record_bytes * j) row.zeros) (kind_number kind) known.found)
            (row_tests (rw says at known.found));
      }

  below_by : (row : Option KindRow) → kind_at table j ≡ row → node_test table j ≡ none
      → all_below j (operands_of (node_at table j)) ≡ true
  below_by none e passed = refused_not_passed (sym (no_kind e) ∙ passed)
  below_by (some row) e passed =
      let (_, later) = first_none _ _ (sym (row_tests e) ∙ passed) in
      unless_passed _ _ _ (first_none _ _ later).0

  pub passed_below : node_test table j ≡ none → all_below j (operands_of (node_at table j)) ≡ true
  passed_below = below_by (kind_at table j) refl

  -- ---- what an answer says

  pub told : {answer : Result Operands Refusal} → reading_at table j ≡ answer → node_test table j ≡ refusal_of answer
  told = answer_told refusal_of Err (Ok (operands_at table j)) (node_test table j) refl (λ r. refl)

  pub operands_told : {operands : Operands} → reading_at table j ≡ Ok operands → operands_of (node_at table j) ≡ named operands
  operands_told e =
      let same : Ok (operands_at table j) ≡ Ok _ = sym (answer_passed Err (Ok (operands_at table j)) (told e)) ∙ e in
      sym (operands_named (node_at table j)) ∙ cc same
