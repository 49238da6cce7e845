-- The operands of a node of an accepted table: they lie below it, and its code is theirs with what it adds.
--
--   Two, One    of a node with two operands, with one
--   Operands    of a node, kind by kind
--   operands    so they are
--
-- Assumes nothing.
use Prim.Native.Nat.{ℕ, ◌+◌, ◌<◌}
use native.Mathlib.Omega.{arith}
use mathlib.Core.List.{List, [], ◌∷◌}
use mathlib.Core.Path.{◌≡◌, refl, ap, ◌∙◌}
use Rattle.rules.specs.Code.{code_length}
use Rattle.rules.specs.Recipe.{expression_at}
use Rattle.rules.specs.Table.{operands_of}
use Rattle.rules.specs.declared.Node.{Node}
use Rattle.rules.specs.declared.Node.TheVariants.{Val, Throw, Add, Seqn, Catch, Block, Unblock}
use Rattle.table.specs.Acceptance.{Says}
use Rattle.table.specs.Column.{column}
use Rattle.table.proofs.Counting.{sum_over, code_length_of_node}
use Rattle.table.proofs.Acceptance.{one_below, both_below}

pub record Two (table : List ℕ) (j left right added : ℕ) : Type 0 where
  pub left_below : left < j
  pub right_below : right < j
  pub length : code_length (expression_at table j)
      ≡ code_length (expression_at table left) + code_length (expression_at table right) + added

pub record One (table : List ℕ) (j left added : ℕ) : Type 0 where
  pub left_below : left < j
  pub length : code_length (expression_at table j) ≡ code_length (expression_at table left) + added

abbrev pub Operands : List ℕ → ℕ → Node → Type 0
Operands table j (Val n) = code_length (expression_at table j) ≡ 1
Operands table j Throw = code_length (expression_at table j) ≡ 1
Operands table j (Add left right) = Two table j left right 1
Operands table j (Seqn left right) = Two table j left right 1
Operands table j (Catch left right) = Two table j left right 2
Operands table j (Block left) = One table j left 2
Operands table j (Unblock left) = One table j left 2

-- ---- by what a node names

module _ {table : List ℕ} {j : ℕ} {node : Node} (said : Says table j node) where
  length_said : code_length (expression_at table j)
      ≡ column node + sum_over (λ k. code_length (expression_at table k)) (operands_of node)
  length_said = ap code_length said.expression ∙ code_length_of_node (λ k. expression_at table k) node

  no_operand : operands_of node ≡ [] → code_length (expression_at table j) ≡ column node
  unfolding sum_over
  no_operand names = omega (arith, rw names at length_said)

  one_operand : {left : ℕ} → operands_of node ≡ left ∷ [] → One table j left (column node)
  unfolding sum_over
  one_operand {left} names = record {
    left_below = one_below j left (rw names at said.below);
    length = omega (arith, rw names at length_said);
  }

  two_operands : {left right : ℕ} → operands_of node ≡ left ∷ right ∷ [] → Two table j left right (column node)
  unfolding sum_over
  two_operands {left} {right} names =
      let (first, second) = both_below j left right (rw names at said.below) in
      record { left_below = first; right_below = second; length = omega (arith, rw names at length_said) }

pub operands : {table : List ℕ} {j : ℕ} (node : Node) → Says table j node → Operands table j node
operands (Val n) said = no_operand said refl
operands Throw said = no_operand said refl
operands (Add left right) said = two_operands said refl
operands (Seqn left right) said = two_operands said refl
operands (Catch left right) said = two_operands said refl
operands (Block left) said = one_operand said refl
operands (Unblock left) said = one_operand said refl
