-- Of `table::uses::Uses::check`: each count before k is 1. Assumes nothing.
use Rattle.std.proofs.Common.{◌-◌}
use Rattle.rules.proofs.Checking.{Walked}
use Rattle.table.specs.Counts.{count_test}
use Rattle.table.proofs.uses.Uses.check.Given as goal

abbrev pub invariant-loop-k : goal.invariant-loop-k
invariant-loop-k l = Walked (count_test l.self.counts) (l.nodes - 1) l.k
