-- `standard_output` ends: each write leaves fewer bytes. Assumes nothing.
use Rattle.std.proofs.Common.{length}
use Rattle.rehearse.proofs.printing.standard_output.Given as goal

abbrev pub decreases-loop-rest : goal.decreases-loop-rest
decreases-loop-rest g l = length l.rest
