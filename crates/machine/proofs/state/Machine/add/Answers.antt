-- `machine::state::Machine::add` meets its contract: two numbers are replaced by their sum, and there is no rule for other items.
-- Assumes nothing.
use native.Mathlib.Omega.{arith}
use mir.Syntax.{w32}
use mir.Val.{SFits}
use mir.Facts.{to_z-of_z}
use Rattle.std.proofs.lemmas.Result.{err_from_is_err_and}
use Rattle.machine.proofs.Carrying.{add_none, add_other, added}
use Rattle.machine.proofs.state.Machine.add.Goals as goal

pub returns-in_err-m : goal.returns-in_err-m
returns-in_err-m c =
    let p = err_from_is_err_and c.from_residual.result c.from_residual.ensures.1 in
    rw (p.1, p.2) (add_none c.args.address c.args.stack.now c.args.self c.in_err-m.ensures.found)

pub returns-in-Number : goal.returns-in-Number
returns-in-Number c =
    let sum_fits : SFits w32 c.sum.result = record { sfits = c.sum.type_inv } in
    let n-fits : SFits w32 c.in-Number.n = omega arith in
    let m-fits : SFits w32 c.in_ok-m.m = omega arith in
    added c.args.address c.args.stack.now c.args.self (rw c.in-Number.is at c.in_ok-m.ensures.found)
    (rw (to_z-of_z sum_fits, c.sum.ensures, to_z-of_z n-fits, to_z-of_z m-fits) at c.replaced.ensures)

pub returns-in_default : goal.returns-in_default
returns-in_default c = add_other c.args.address c.args.stack.now c.args.self c.in_ok-m.ensures.found c.in_default.not-Number
