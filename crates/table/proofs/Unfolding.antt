-- The expression of a node is made from the expressions of its operands, where every operand lies below the node that names it.
--
--   below_cons              of operands that are all below, the first is and the others are
--   below_more              what is below a number is below a greater one
--   expression_at_unfolds   the levels are gone: the expression of a node, by those of its operands
--
-- Assumes nothing.
use Prim.Native.Nat.{ℕ, zero, suc, ◌≤◌, ◌<◌}
use native.Mathlib.Omega.{arith}
use borrow.Author.Tests.{ltb-true, lt-ltb}
use lib.Dec.{ltb}
use mathlib.Core.Bool.{true, and-eq-true_iff}
use mathlib.Core.List.{List, [], ◌∷◌, map}
use mathlib.Core.Path.{◌≡◌, refl}
use Rattle.rules.specs.Expression.{Expression}
use Rattle.rules.specs.Recipe.{of_node, expression_within, expression_at}
use Rattle.rules.specs.Table.{node_at, operands_of, all_below}
use Rattle.rules.specs.declared.Node.{Node}
use Rattle.rules.specs.declared.Node.TheVariants.{Val, Throw, Add, Seqn, Catch, Block, Unblock}
use Rattle.table.specs.Acceptance.{Falling}

pub below_cons : (j k : ℕ) (ks : List ℕ) → all_below j (k ∷ ks) ≡ true → (k < j) × (all_below j ks ≡ true)
unfolding all_below
below_cons j k ks e =
    let (first, others) = (and-eq-true_iff (ltb k j) (all_below j ks)).0 e in
    (ltb-true k j first, others)

pub below_more : (ks : List ℕ) {i j : ℕ} → i ≤ j → all_below i ks ≡ true → all_below j ks ≡ true
unfolding all_below
below_more [] h below = refl
below_more (k ∷ ks) {i} {j} h below =
    let (first, others) = below_cons i k ks below in
    rw (lt-ltb k j (omega arith)) (below_more ks h others)

-- ---- a node's expression depends on its operands' expressions only

of_node_operands : (f g : ℕ → Expression) (node : Node) → map f (operands_of node) ≡ map g (operands_of node)
    → of_node node f ≡ of_node node g
unfolding of_node
of_node_operands f g (Val n) e = refl
of_node_operands f g Throw e = refl
of_node_operands f g (Add left right) e = cc
of_node_operands f g (Seqn left right) e = cc
of_node_operands f g (Catch left right) e = cc
of_node_operands f g (Block left) e = cc
of_node_operands f g (Unblock left) e = cc

module _ {j : ℕ} {f g : ℕ → Expression} (same : (k : ℕ) → k < j → f k ≡ g k) where
  map_same : (ks : List ℕ) → all_below j ks ≡ true → map f ks ≡ map g ks
  map_same [] below = refl
  map_same (k ∷ ks) below =
      let (first, others) = below_cons j k ks below in
      cc (same k first, map_same ks others)

  of_node_same : (node : Node) → all_below j (operands_of node) ≡ true → of_node node f ≡ of_node node g
  of_node_same node below = of_node_operands f g node (map_same (operands_of node) below)

-- ---- levels above a node's number are enough

module _ (table : List ℕ) (n : ℕ) (falling : Falling table n) where
  levels_same : (m m' j : ℕ) → j < n → j < m → j < m' → expression_within m table j ≡ expression_within m' table j
  unfolding expression_within
  levels_same zero m' j h l l' = absurd (omega arith)
  levels_same (suc m) zero j h l l' = absurd (omega arith)
  levels_same (suc m) (suc m') j h l l' =
      of_node_same (λ k b. levels_same m m' k (omega arith) (omega arith) (omega arith)) (node_at table j) (falling j h)

  pub expression_at_unfolds : (j : ℕ) → j < n → expression_at table j ≡ of_node (node_at table j) (λ k. expression_at table k)
  unfolding expression_at expression_within
  expression_at_unfolds j h =
      of_node_same (λ k b. levels_same j (suc k) k (omega arith) (omega arith) (omega arith)) (node_at table j) (falling j h)
