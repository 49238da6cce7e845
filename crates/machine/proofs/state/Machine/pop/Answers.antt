-- `machine::state::Machine::pop` meets its contract: a number is dropped, and there is no rule for another item or none. Assumes
-- nothing.
use native.Mathlib.Omega.{arith}
use Rattle.machine.proofs.Carrying.{pop_none, pop_other, popped}
use Rattle.machine.proofs.state.Machine.pop.Goals as goal

pub returns-then-height-eq0 : goal.returns-then-height-eq0
returns-then-height-eq0 c = pop_none c.args.address c.args.stack.now c.args.self c.if-height-eq0.true

pub returns-in-Number : goal.returns-in-Number
returns-in-Number c = rw c.onward.ensures (popped c.args.address c.args.stack.now c.args.self (omega arith) c.in-Number.ensures)

pub returns-in_default : goal.returns-in_default
returns-in_default c = pop_other c.args.address c.args.stack.now c.args.self (omega arith) c.at.ensures c.in_default.not-Number
