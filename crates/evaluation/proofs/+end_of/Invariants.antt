-- Of `evaluation::end_of`: an operand's number is below its node's, so the number is the measure. Assumes nothing.
use Rattle.evaluation.proofs.+end_of.Given as goal

abbrev pub decreases-end_of : goal.decreases-end_of
decreases-end_of l = l.j
