-- The expression that an accepted table holds (document 01, "The recipe table").
--
--   expression_at   the expression of a node
--   recipe          "the last is the whole expression"
--
-- Assumes nothing.
use Rattle.std.specs.Prelude.{ℕ, zero, suc, ◌-◌, List}
use Rattle.rules.specs.Bytes.{records}
use Rattle.rules.specs.Expression.{Expression}
use Rattle.rules.specs.Table.{node_at}
use Rattle.rules.specs.declared.Node.{Node}
use Rattle.rules.specs.declared.Node.TheVariants.{Val, Throw, Add, Seqn, Catch, Block, Unblock}

-- of a node, by the expressions of the nodes that it names
unfoldable pub of_node : Node → (ℕ → Expression) → Expression
of_node (Val n) operand = Expression.Val n
of_node Throw operand = Expression.Throw
of_node (Add left right) operand = Expression.Add (operand left) (operand right)
of_node (Seqn left right) operand = Expression.Seqn (operand left) (operand right)
of_node (Catch left right) operand = Expression.Catch (operand left) (operand right)
of_node (Block left) operand = Expression.Block (operand left)
of_node (Unblock left) operand = Expression.Unblock (operand left)

-- "The walk down an expression always reaches a smaller node number", so j + 1 levels are enough below node j.
unfoldable pub expression_within : ℕ → List ℕ → ℕ → Expression
expression_within zero table j = Expression.Throw
expression_within (suc levels) table j = of_node (node_at table j) (λ k. expression_within levels table k)

unfoldable pub expression_at : List ℕ → ℕ → Expression
expression_at table j = expression_within (suc j) table j

unfoldable pub recipe : List ℕ → Expression
recipe table = expression_at table (records table - 1)
