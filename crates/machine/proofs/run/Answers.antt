-- `machine::run` meets its contract: it answers with the totals of the run, or with none after a refusal. Assumes nothing.
use Rattle.machine.proofs.Answering.{answered, refused}
use Rattle.machine.proofs.run.Goals as goal

pub returns-in-Ok-clause-answer : goal.returns-in-Ok-clause-answer
returns-in-Ok-clause-answer c =
    answered c.args.status c.args.code.now c.args.schedule.now c.args.stack.now c.in-Ok.ensures.answer

pub returns-in-Err-clause-answer : goal.returns-in-Err-clause-answer
returns-in-Err-clause-answer c =
    refused c.args.status c.args.code.now c.args.schedule.now c.args.stack.now c.in-Err.ensures.answer
