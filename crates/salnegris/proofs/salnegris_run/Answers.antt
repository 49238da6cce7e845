-- `salnegris::salnegris_run` meets its contract: `machine::run`, its answer in numbers. Assumes nothing.
use Rattle.salnegris.proofs.Fits.{run_fits}
use Rattle.salnegris.proofs.salnegris_run.Goals as goal

pub of_answer-requires : goal.of_answer-requires
of_answer-requires c = rw c.run.ensures.answer (run_fits _ _ _ _)
