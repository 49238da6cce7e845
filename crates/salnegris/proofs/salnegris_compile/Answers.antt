-- `salnegris::salnegris_compile` meets its contract: `compiler::compile`, its answer in numbers. Assumes nothing.
use Rattle.salnegris.proofs.Fits.{compile_fits}
use Rattle.salnegris.proofs.salnegris_compile.Goals as goal

pub of_compiled-requires : goal.of_compiled-requires
of_compiled-requires c = rw c.compile.ensures.answer (compile_fits _ _)
