-- `salnegris::fields::of_compiled` meets its contract. Assumes nothing.
use Rattle.rules.specs.Answers.{compiled_length, compiled_refusal, compiled_place}
use Rattle.salnegris.proofs.fields.of_compiled.Goals as goal

pub overflow_cast-result : goal.overflow_cast-result
unfolding compiled_length
overflow_cast-result c = record { fits = rw c.in-Ok.is at c.requires.length }

pub overflow_cast-result-in-Err : goal.overflow_cast-result-in-Err
unfolding compiled_place
overflow_cast-result-in-Err c = record { fits = rw c.in-Err.is at c.requires.place }

pub returns-in-Ok : goal.returns-in-Ok
unfolding compiled_length compiled_refusal compiled_place
returns-in-Ok c = rw c.in-Ok.is

pub returns-in-Err : goal.returns-in-Err
unfolding compiled_length compiled_refusal compiled_place
returns-in-Err c = rw (c.in-Err.is, c.number_of.ensures)
