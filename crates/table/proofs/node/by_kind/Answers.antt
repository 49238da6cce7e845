-- `table::node::by_kind` meets its contract, kind by kind. Assumes nothing.
use Rattle.std.proofs.Common.{rules}
use Rattle.rules.specs.Bytes.{row_numbered}
use Rattle.rules.specs.Table.{kinds, kind_at, node_of, node_at}
use Rattle.table.proofs.NodeKinds.{unused_sums}
use Rattle.table.proofs.node.by_kind.Goals as goal

pub returns-in-Val : goal.returns-in-Val
unfolding node_at node_of kind_at kinds row_numbered
returns-in-Val c = search (rules, unused_sums)

pub returns-in-Throw : goal.returns-in-Throw
unfolding node_at node_of kind_at kinds row_numbered
returns-in-Throw c = search (rules, unused_sums)

pub returns-in-Add : goal.returns-in-Add
unfolding node_at node_of kind_at kinds row_numbered
returns-in-Add c = search (rules, unused_sums)

pub returns-in-Seqn : goal.returns-in-Seqn
unfolding node_at node_of kind_at kinds row_numbered
returns-in-Seqn c = search (rules, unused_sums)

pub returns-in-Catch : goal.returns-in-Catch
unfolding node_at node_of kind_at kinds row_numbered
returns-in-Catch c = search (rules, unused_sums)

pub returns-in-Block : goal.returns-in-Block
unfolding node_at node_of kind_at kinds row_numbered
returns-in-Block c = search (rules, unused_sums)

pub returns-in-Unblock : goal.returns-in-Unblock
unfolding node_at node_of kind_at kinds row_numbered
returns-in-Unblock c = search (rules, unused_sums)
