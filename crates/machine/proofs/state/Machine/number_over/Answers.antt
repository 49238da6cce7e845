-- `machine::state::Machine::number_over` meets its contract: by how many items there are, and by what the top one is. Assumes
-- nothing.
use native.Mathlib.Omega.{arith}
use mir.Syntax.{w32}
use mir.Val.{SFits}
use mir.Facts.{to_z-of_z}
use Rattle.machine.proofs.Carrying.{few_over, other_over, number_found}
use Rattle.machine.proofs.state.Machine.number_over.Goals as goal

pub returns-then-height-lt2-clause-found : goal.returns-then-height-lt2-clause-found
returns-then-height-lt2-clause-found c = few_over c.args.stack.now _ c.if-height-lt2.true

pub returns-in-Number-clause-found : goal.returns-in-Number-clause-found
returns-in-Number-clause-found c =
    let fits : SFits w32 c.in-Number.n = omega arith in
    rw (to_z-of_z fits) (number_found c.args.stack.now _ c.if-height-lt2.false c.in-Number.ensures c.at-in-Number.ensures)

pub returns-in_default-clause-found : goal.returns-in_default-clause-found
returns-in_default-clause-found c =
    other_over c.args.stack.now _ c.if-height-lt2.false c.at.ensures c.in_default.not-Number
