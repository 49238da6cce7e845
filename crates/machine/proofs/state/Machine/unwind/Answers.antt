-- `machine::state::Machine::unwind` meets its contract: by what the top item is. Assumes nothing.
use Rattle.machine.proofs.Removing.{number_dropped, handler_entered, status_restored}
use Rattle.machine.proofs.state.Machine.unwind.Goals as goal

pub returns-in-Number : goal.returns-in-Number
returns-in-Number c =
    rw c.unwound.ensures (number_dropped c.args.stack.now c.args.self c.requires.some c.in-Number.ensures)

pub returns-in-Handler : goal.returns-in-Handler
returns-in-Handler c =
    rw c.unwound.ensures (handler_entered c.args.stack.now c.args.self c.requires.some c.in-Handler.ensures)

pub returns-in-Saved : goal.returns-in-Saved
returns-in-Saved c =
    rw c.unwound.ensures (status_restored c.args.stack.now c.args.self c.requires.some c.in-Saved.ensures)
