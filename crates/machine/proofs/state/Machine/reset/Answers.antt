-- `machine::state::Machine::reset` meets its contract: the saved status below a number is restored and removed, and there is no
-- rule for other items. Assumes nothing.
use native.Mathlib.Omega.{arith}
use mir.Syntax.{w32}
use mir.Val.{SFits}
use mir.Facts.{to_z-of_z}
use Rattle.std.proofs.lemmas.Result.{err_from_is_err_and}
use Rattle.machine.proofs.Carrying.{reset_none, reset_other, reset}
use Rattle.machine.proofs.state.Machine.reset.Goals as goal

pub returns-in_err-n : goal.returns-in_err-n
returns-in_err-n c =
    let p = err_from_is_err_and c.from_residual.result c.from_residual.ensures.1 in
    rw (p.1, p.2) (reset_none c.args.address c.args.stack.now c.args.self c.in_err-n.ensures.found)

pub returns-in-Saved : goal.returns-in-Saved
returns-in-Saved c =
    let fits : SFits w32 c.in_ok-n.n = omega arith in
    reset c.args.address c.args.stack.now c.args.self (rw c.in-Saved.is at c.in_ok-n.ensures.found)
    (rw (to_z-of_z fits) at c.replaced.ensures)

pub returns-in_default : goal.returns-in_default
returns-in_default c = reset_other c.args.address c.args.stack.now c.args.self c.in_ok-n.ensures.found c.in_default.not-Saved
