-- The recipe table and its tests 1 to 5 (document 01, "The recipe table" and "Refusal numbers").
--
--   kinds         document 01's table of kinds: the node that a record says, and which of its bytes are zero
--   node_at       the node of a number
--   operands_of   the nodes that a node names
--   node_test     tests 2, 3 and 4 of a node
--   uses          how often a node is an operand
--   use_test      test 5 of a node
--   table_tests   the tests 1 to 5 in their order
--
-- Assumes nothing.
use Rattle.std.specs.Prelude.{ℕ, zero, suc, ◌+◌, ◌-◌, ◌*◌, ℤ, ltb, eqb, Bool, true, cond, ◌&&◌, List, [], ◌∷◌}
use Rattle.std.proofs.Math.Option.{Option, none, some}
use Rattle.rules.specs.Bytes.{half_at, word_at, all_zero, records, row_numbered, row_at, whole_records}
use Rattle.rules.specs.Limits.{record_bytes, table_limit}
use Rattle.rules.specs.Number.{signed}
use Rattle.rules.specs.Refusals.{unless, first_refusal, lowest_refusal}
use Rattle.rules.specs.declared.Node.{Node}
use Rattle.rules.specs.declared.Node.TheVariants.{Val, Throw, Add, Seqn, Catch, Block, Unblock}
use Rattle.rules.specs.declared.Reason.{Reason}
use Rattle.rules.specs.declared.Reason.TheVariants.{TableSize, UnusedByte, Operand, Uses}
use Rattle.rules.specs.declared.Refusal.{Refusal}

-- ---- kinds

pub record KindRow : Type 0 where
  -- from the number and the two operands
  pub node : ℤ → ℕ → ℕ → Node
  -- "byte 1 is zero", and "fields a kind doesn't use are zero"
  pub zeros : List ℕ

abbrev kind : (ℤ → ℕ → ℕ → Node) → List ℕ → KindRow
kind node zeros = record { node = node; zeros = zeros }

-- kinds 1 to 7
unfoldable pub kinds : List KindRow
kinds =
    kind (λ n left right. Val n) (1 ∷ 2 ∷ 3 ∷ [])
    ∷ kind (λ n left right. Throw) (1 ∷ 2 ∷ 3 ∷ 4 ∷ 5 ∷ 6 ∷ 7 ∷ [])
    ∷ kind (λ n left right. Add left right) (1 ∷ 6 ∷ 7 ∷ [])
    ∷ kind (λ n left right. Seqn left right) (1 ∷ 6 ∷ 7 ∷ [])
    ∷ kind (λ n left right. Catch left right) (1 ∷ 6 ∷ 7 ∷ [])
    ∷ kind (λ n left right. Block left) (1 ∷ 4 ∷ 5 ∷ 6 ∷ 7 ∷ [])
    ∷ kind (λ n left right. Unblock left) (1 ∷ 4 ∷ 5 ∷ 6 ∷ 7 ∷ [])
    ∷ []

abbrev pub kind_numbered : ℕ → Option KindRow
kind_numbered k = row_numbered kinds k

unfoldable pub kind_at : List ℕ → ℕ → Option KindRow
kind_at table j = row_at kinds table j

-- ---- nodes

-- "bytes 2 and 3 are the left operand"; bytes 4 to 7 are the number, or 4 and 5 the right operand
unfoldable pub node_of : KindRow → List ℕ → ℕ → Node
node_of k table base = k.node (signed (word_at table (base + 4))) (half_at table (base + 2)) (half_at table (base + 4))

-- A record with no kind says no node: it is refused, and what stands for it here is looked at by nobody.
unfoldable pub node_at : List ℕ → ℕ → Node
node_at table j = elim (kind_at table j) [ none ↦ Throw | some k ↦ node_of k table (record_bytes * j) ]

abbrev pub operands_of : Node → List ℕ
operands_of (Val n) = []
operands_of Throw = []
operands_of (Add left right) = left ∷ right ∷ []
operands_of (Seqn left right) = left ∷ right ∷ []
operands_of (Catch left right) = left ∷ right ∷ []
operands_of (Block left) = left ∷ []
operands_of (Unblock left) = left ∷ []

-- "an operand is a node number below the node that names it"
unfoldable pub all_below : ℕ → List ℕ → Bool
all_below j [] = true
all_below j (k ∷ ks) = ltb k j && all_below j ks

unfoldable pub node_test : List ℕ → ℕ → Option Refusal
node_test table j =
    let base : ℕ = record_bytes * j in
    elim (kind_at table j) [
      | none ↦ some (record { reason = Reason.Kind; place = j })
      | some k ↦ first_refusal
          (unless (all_zero table base k.zeros) UnusedByte j
          ∷ unless (all_below j (operands_of (node_of k table base))) Operand j
          ∷ [])
    ]

-- ---- uses

unfoldable pub times : ℕ → List ℕ → ℕ
times j [] = 0
times j (k ∷ ks) = cond (eqb j k) 1 0 + times j ks

-- by the first n nodes
unfoldable pub uses : List ℕ → ℕ → ℕ → ℕ
uses table zero j = 0
uses table (suc n) j = uses table n j + times j (operands_of (node_at table n))

-- "every node but the last is an operand exactly once"
unfoldable pub use_test : List ℕ → ℕ → Option Refusal
use_test table j = unless (eqb (uses table (records table) j) 1) Uses j

-- ---- "tests 1; then each node upward for 2, 3, 4; then 5"

unfoldable pub table_tests : List ℕ → List (Option Refusal)
table_tests table =
    unless (whole_records table_limit table) TableSize 0
    ∷ lowest_refusal (node_test table) (records table)
    ∷ lowest_refusal (use_test table) (records table - 1)
    ∷ []
