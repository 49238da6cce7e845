-- Answers as the numbers that a C caller sees (document 01, "One step of the machine" and "Refusal numbers"), and what makes
-- them fit 32 bits.
--
--   compiled_fields, answer_fields   the fields of an answer, each by its own definition in `rules`
--   CompiledFits, AnswerFits         no field is too large for its 32 bits
--
-- Assumes nothing.
use Rattle.std.specs.Prelude.{ℕ, ◌^◌, ◌<◌, Result}
use Rattle.rules.specs.Answers.{outcome_kind, outcome_number, outcome_refusal, outcome_place}
use Rattle.rules.specs.Answers.{compiled_length, compiled_refusal, compiled_place}
use Rattle.rules.specs.declared.Answer.{Answer}
use Rattle.salnegris.specs.declared.CompiledFields.{CompiledFields}
use Rattle.salnegris.specs.declared.AnswerFields.{AnswerFields}
use Rattle.rules.specs.declared.Refusal.{Refusal}

abbrev pub compiled_fields : Result ℕ Refusal → CompiledFields
compiled_fields c = record { length = compiled_length c; refusal = compiled_refusal c; place = compiled_place c }

abbrev pub answer_fields : Answer → AnswerFields
answer_fields a = record {
  kind = outcome_kind a.outcome;
  number = outcome_number a.outcome;
  refusal = outcome_refusal a.outcome;
  place = outcome_place a.outcome;
  steps = a.steps;
  reached = a.reached;
}

pub record CompiledFits (c : Result ℕ Refusal) : Type 0 where
  pub length : compiled_length c < 2 ^ 32
  pub place : compiled_place c < 2 ^ 32

pub record AnswerFits (a : Answer) : Type 0 where
  pub place : outcome_place a.outcome < 2 ^ 32
  pub steps : a.steps < 2 ^ 32
  pub reached : a.reached < 2 ^ 32
