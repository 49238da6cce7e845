-- `machine::state::Machine::unmark` meets its contract: the handler below a number is removed, and there is no rule for other
-- items. Assumes nothing.
use native.Mathlib.Omega.{arith}
use mir.Syntax.{w32}
use mir.Val.{SFits}
use mir.Facts.{to_z-of_z}
use Rattle.std.proofs.lemmas.Result.{err_from_is_err_and}
use Rattle.machine.proofs.Carrying.{unmark_none, unmark_other, unmarked}
use Rattle.machine.proofs.state.Machine.unmark.Goals as goal

pub returns-in_err-n : goal.returns-in_err-n
returns-in_err-n c =
    let p = err_from_is_err_and c.from_residual.result c.from_residual.ensures.1 in
    rw (p.1, p.2) (λ a. unmark_none a c.args.stack.now c.args.self c.in_err-n.ensures.found c.args.target)

pub returns-in-Handler : goal.returns-in-Handler
returns-in-Handler c =
    let fits : SFits w32 c.in_ok-n.n = omega arith in
    λ a.
    unmarked a c.args.stack.now c.args.self c.args.target (rw c.in-Handler.is at c.in_ok-n.ensures.found)
    (rw (to_z-of_z fits) at c.replaced.ensures)

pub returns-in_default : goal.returns-in_default
returns-in_default c = λ a.
    unmark_other a c.args.stack.now c.args.self c.in_ok-n.ensures.found c.args.target c.in_default.not-Handler
