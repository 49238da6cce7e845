-- The last column of document 01's table of kinds: how many instructions a node brings.
--
--   column       of a node
--   column_sum   summed over the first n nodes of a table
--
-- Assumes nothing.
use Rattle.std.specs.Prelude.{ℕ, zero, suc, ◌+◌, List}
use Rattle.rules.specs.Table.{node_at}
use Rattle.rules.specs.declared.Node.{Node}
use Rattle.rules.specs.declared.Node.TheVariants.{Val, Throw, Add, Seqn, Catch, Block, Unblock}

abbrev pub column : Node → ℕ
column (Val n) = 1
column Throw = 1
column (Add left right) = 1
column (Seqn left right) = 1
column (Catch left right) = 2
column (Block left) = 2
column (Unblock left) = 2

unfoldable pub column_sum : List ℕ → ℕ → ℕ
column_sum table zero = 0
column_sum table (suc n) = column_sum table n + column (node_at table n)
