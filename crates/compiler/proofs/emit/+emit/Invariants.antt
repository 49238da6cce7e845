-- Of `compiler::emit::emit`: an operand's number is below its node's, so the number is the measure. Assumes nothing.
use Rattle.compiler.proofs.emit.+emit.Given as goal

abbrev pub decreases-emit : goal.decreases-emit
decreases-emit l = l.j
