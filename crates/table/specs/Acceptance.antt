-- What acceptance says of a table (document 01, "The recipe table"), for the functions that walk down an accepted one.
--
--   Falling         "an operand is a node number below the node that names it", for the first n nodes
--   AcceptedTable   the tests 1, 4 and 5, as facts: what a walk down the table rests on. The tests 2 and 3 say that a record has
--                   a kind and no stray byte; a record that they refuse says a node all the same (`Table.node_at`)
--   AcceptedNode    a node of such a table
--   Says            what a node of such a table says: its expression, by its operands' expressions, and that they lie below
--
-- Assumes nothing.
use Rattle.std.specs.Prelude.{ℕ, ◌+◌, ◌*◌, ◌≤◌, ◌<◌, length, true, List, ◌≡◌}
use Rattle.rules.specs.Bytes.{records}
use Rattle.rules.specs.Limits.{record_bytes, node_limit}
use Rattle.rules.specs.Recipe.{of_node, expression_at}
use Rattle.rules.specs.Table.{node_at, operands_of, all_below, uses}
use Rattle.rules.specs.declared.Node.{Node}

abbrev pub Falling : List ℕ → ℕ → Type 0
Falling table n = (j : ℕ) → j < n → all_below j (operands_of (node_at table j)) ≡ true

pub record AcceptedTable (table : List ℕ) : Type 0 where
  pub size : length table ≡ record_bytes * records table
  pub some : 1 ≤ records table
  pub few : records table ≤ node_limit
  pub falling : Falling table (records table)
  pub once : (j : ℕ) → j + 1 < records table → uses table (records table) j ≡ 1

pub record AcceptedNode (table : List ℕ) (j : ℕ) : Type 0 where
  pub accepted : AcceptedTable table
  pub within : j < records table

pub record Says (table : List ℕ) (j : ℕ) (node : Node) : Type 0 where
  pub expression : expression_at table j ≡ of_node node (λ k. expression_at table k)
  pub below : all_below j (operands_of node) ≡ true
