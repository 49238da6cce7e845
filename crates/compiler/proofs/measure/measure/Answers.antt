-- `compiler::measure::measure` meets its contract. Assumes nothing.
use Rattle.std.proofs.Common.{arith}
use Rattle.compiler.proofs.Measuring.{measured_none, measured_next, measured_all}
use Rattle.compiler.proofs.measure.measure.Goals as goal

pub loop-k-init : goal.loop-k-init
loop-k-init c = measured_none c.requires

pub loop-k-preserved : goal.loop-k-preserved
loop-k-preserved c = rw (c.instructions-length.ensures, c.at.ensures) (measured_next c.loop-k.invariant c.loop-k-test.true)

pub returns-2 : goal.returns-2
returns-2 c =
    rw (c.instructions-length.ensures, c.at.ensures)
    (measured_all (measured_next c.loop-k.invariant c.loop-k-test.true) (omega arith))
