-- Of `compiler::measure::measure`: the nodes before k are added up. Assumes nothing.
use Rattle.compiler.proofs.Measuring.{Measured}
use Rattle.compiler.proofs.measure.measure.Given as goal

abbrev pub invariant-loop-k : goal.invariant-loop-k
invariant-loop-k l = Measured l.table l.j l.k l.length
