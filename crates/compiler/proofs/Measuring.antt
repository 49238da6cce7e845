-- The pass along an accepted table: what each node brings, added up.
--
--   column_short       a node brings one or two instructions
--   Measured           the first k nodes are added up
--   measured_none      before the pass
--   measured_next      one node further
--   measured_all       the sum is the code length of the last node's expression: "every node stands in the code once"
--
-- Assumes nothing.
use Prim.Native.Nat.{ℕ, ◌+◌, ◌*◌, ◌-◌, ◌≤◌, ◌<◌}
use native.Mathlib.Numerals.{add-one}
use native.Mathlib.Omega.{arith}
use mathlib.Core.List.{List}
use mathlib.Core.Path.{◌≡◌, refl, ap, sym, ◌∙◌}
use Rattle.rules.specs.Bytes.{records}
use Rattle.rules.specs.Code.{code_length}
use Rattle.rules.specs.Recipe.{expression_at, recipe}
use Rattle.rules.specs.Table.{node_at}
use Rattle.rules.specs.declared.Node.{Node}
use Rattle.rules.specs.declared.Node.TheVariants.{Val, Throw, Add, Seqn, Catch, Block, Unblock}
use Rattle.table.specs.Column.{column, column_sum}
use Rattle.table.proofs.Acceptance.{recipe_length}
use Rattle.compiler.specs.Walking.{Measurable}

pub column_short : (node : Node) → column node ≤ 2
column_short (Val n) = omega arith
column_short Throw = omega arith
column_short (Add left right) = omega arith
column_short (Seqn left right) = omega arith
column_short (Catch left right) = omega arith
column_short (Block left) = omega arith
column_short (Unblock left) = omega arith

pub record Measured (table : List ℕ) (j k total : ℕ) : Type 0 where
  pub measurable : Measurable table j
  pub inside : k ≤ j + 1
  pub sum : total ≡ column_sum table k
  pub short : total ≤ 2 * k

module _ {table : List ℕ} {j : ℕ} where
  pub measured_none : Measurable table j → Measured table j 0 0
  unfolding column_sum
  measured_none here = record { measurable = here; inside = omega arith; sum = refl; short = omega arith }

  module _ {k total : ℕ} (so_far : Measured table j k total) where
    pub measured_next : k ≤ j → Measured table j (k + 1) (total + column (node_at table k))
    unfolding column_sum
    measured_next more = record {
      measurable = so_far.measurable;
      inside = omega arith;
      sum = rw (add-one, so_far.sum);
      short = omega (arith, so_far.short, column_short (node_at table k));
    }

    pub measured_all : j < k → total ≡ code_length (expression_at table j)
    unfolding recipe
    measured_all no_more =
        let all : k ≡ records table = omega (arith, so_far.inside, so_far.measurable.last) in
        let last : records table - 1 ≡ j = omega (arith, so_far.measurable.last) in
        so_far.sum ∙ ap (column_sum table) all ∙ sym (recipe_length so_far.measurable.accepted)
        ∙ ap (λ (i : ℕ). code_length (expression_at table i)) last
