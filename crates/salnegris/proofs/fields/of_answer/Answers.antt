-- `salnegris::fields::of_answer` meets its contract. Assumes nothing.
use Rattle.std.proofs.Common.{◌≡◌, to_z, of_z, w32, rules}
use Rattle.rules.specs.Answers.{outcome_kind, outcome_number, outcome_refusal, outcome_place}
use Rattle.salnegris.proofs.fields.of_answer.Goals as goal

pub overflow_cast-result : goal.overflow_cast-result
unfolding outcome_place
overflow_cast-result c = rw c.in-Err.is (record { fits = rw c.in-Err.is at c.requires.place })

pub returns-in-Ok-Number : goal.returns-in-Ok-Number
unfolding outcome_kind outcome_number outcome_refusal outcome_place
returns-in-Ok-Number c =
    let same : to_z w32 (of_z w32 c.in-Ok-Number.number) ≡ c.in-Ok-Number.number = search rules in
    let number = rw c.in-Ok-Number.is at c.in-Ok-Number.field-0-is in
    rw (c.in-Ok-Number.is, number, same)

pub returns-in-Ok-Throw : goal.returns-in-Ok-Throw
unfolding outcome_kind outcome_number outcome_refusal outcome_place
returns-in-Ok-Throw c =
    let throw = rw c.in-Ok-Throw.is at c.in-Ok-Throw.field-0-is in
    rw (c.in-Ok-Throw.is, throw)

pub returns-in-Err : goal.returns-in-Err
unfolding outcome_kind outcome_number outcome_refusal outcome_place
returns-in-Err c = let number = rw c.in-Err.is at c.number_of.ensures in rw (c.in-Err.is, number)
