-- The line of an answer by its fields (`specs/Fields.antt`).
--
--   fields_line_lem   the fields of an answer give the answer's line
--
-- Assumes nothing.
use Prim.Native.Nat.{ℕ}
use mathlib.Core.Path.{◌≡◌, refl}
use Rattle.rules.specs.Answers.{outcome_kind, outcome_number, outcome_refusal, outcome_place}
use Rattle.rules.specs.Line.{outcome_line, answer_line}
use Rattle.rules.specs.declared.Answer.{Answer}
use Rattle.rules.specs.declared.End.TheVariants.{Number, Throw}
use Rattle.salnegris.specs.Fields.{answer_fields}
use Rattle.std.specs.Prelude.{Result, Ok, Err}
use Rattle.rehearse.specs.Fields.{fields_line}
use Rattle.rules.specs.declared.Refusal.{Refusal}
use Rattle.rules.specs.declared.End.{End}

pub fields_line_lem : (a : Answer) → fields_line (answer_fields a) ≡ answer_line a
unfolding outcome_kind outcome_number outcome_refusal outcome_place outcome_line answer_line
fields_line_lem a = line_by_outcome a.outcome a.steps a.reached
  where
    line_by_outcome : (outcome : Result End Refusal) (steps reached : ℕ)
        → fields_line (answer_fields (record { outcome = outcome; steps = steps; reached = reached }))
        ≡ outcome_line outcome steps reached
    line_by_outcome (Ok (Number n)) steps reached = refl
    line_by_outcome (Ok Throw) steps reached = refl
    line_by_outcome (Err r) steps reached = refl
