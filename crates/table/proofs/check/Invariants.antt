-- Of `table::check`: the nodes before j have passed, and their uses are counted. Assumes nothing.
use Rattle.table.proofs.Walk.{NodesWalked}
use Rattle.table.proofs.check.Given as goal

abbrev pub invariant-loop-j : goal.invariant-loop-j
invariant-loop-j l = NodesWalked l.table l.nodes l.uses.counts l.j
