-- `machine::state::Machine::at_length` meets its contract: one item, a number, or else no rule. Assumes nothing.
use native.Mathlib.Omega.{arith}
use mir.Syntax.{w32}
use mir.Val.{SFits}
use mir.Facts.{to_z-of_z}
use Rattle.machine.proofs.AtLength.{one_number, one_other, not_one}
use Rattle.machine.proofs.state.Machine.at_length.Goals as goal
use Rattle.machine.proofs.state.Machine.at_length.Goals.{then-self-eq1+in_default, else-self-eq1}

pub returns-in-Number : goal.returns-in-Number
returns-in-Number c =
    let fits : SFits w32 c.in-Number.n = omega arith in
    rw (to_z-of_z fits) (one_number c.args.address c.args.stack.now c.args.self c.if-self-eq1.true c.in-Number.ensures)

pub returns : goal.returns
returns c =
    rw c.at-2.ensures
    (elim c.if-self-eq1.branch [
      | then-self-eq1+in_default w ↦
          one_other c.args.address c.args.stack.now c.args.self w.if-self-eq1.true w.at.ensures w.in_default.not-Number
      | else-self-eq1 w ↦ not_one c.args.address c.args.stack.now c.args.self w.if-self-eq1.false
    ])
