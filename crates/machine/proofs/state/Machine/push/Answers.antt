-- `machine::state::Machine::push` meets its contract: the item is put over the others, unless there are 512 of them. Assumes
-- nothing.
use native.Mathlib.Omega.{arith}
use Rattle.machine.proofs.Carrying.{push_full, pushed}
use Rattle.machine.proofs.state.Machine.push.Goals as goal

pub returns-then-height-eq-ITEMS : goal.returns-then-height-eq-ITEMS
returns-then-height-eq-ITEMS c =
    push_full c.args.address c.args.stack.now c.args.self c.args.item c.args.status c.if-height-eq-ITEMS.true

pub returns : goal.returns
returns c =
    rw c.onward.ensures
    (pushed c.args.address c.args.stack.now c.args.self c.args.item c.args.status
    (omega (arith, c.if-height-eq-ITEMS.false, c.requires.0.within.height))
    _ c.put.ensures)
