-- `table::node::at` meets its contract, kind by kind. Assumes nothing.
use Rattle.std.proofs.Common.{rules}
use Rattle.rules.specs.Bytes.{row_numbered}
use Rattle.rules.specs.Table.{kinds, kind_at, node_of, node_at}
use Rattle.table.proofs.node.at.Goals as goal

pub returns-in-Ok-Val : goal.returns-in-Ok-Val
unfolding node_at node_of kind_at kinds row_numbered
returns-in-Ok-Val c = search rules

pub returns-in-Ok-Throw : goal.returns-in-Ok-Throw
unfolding node_at node_of kind_at kinds row_numbered
returns-in-Ok-Throw c = search rules

pub returns-in-Ok-Add : goal.returns-in-Ok-Add
unfolding node_at node_of kind_at kinds row_numbered
returns-in-Ok-Add c = search rules

pub returns-in-Ok-Seqn : goal.returns-in-Ok-Seqn
unfolding node_at node_of kind_at kinds row_numbered
returns-in-Ok-Seqn c = search rules

pub returns-in-Ok-Catch : goal.returns-in-Ok-Catch
unfolding node_at node_of kind_at kinds row_numbered
returns-in-Ok-Catch c = search rules

pub returns-in-Ok-Block : goal.returns-in-Ok-Block
unfolding node_at node_of kind_at kinds row_numbered
returns-in-Ok-Block c = search rules

pub returns-in-Ok-Unblock : goal.returns-in-Ok-Unblock
unfolding node_at node_of kind_at kinds row_numbered
returns-in-Ok-Unblock c = search rules

pub returns-in-Err : goal.returns-in-Err
unfolding node_at node_of kind_at kinds row_numbered
returns-in-Err c = search rules
