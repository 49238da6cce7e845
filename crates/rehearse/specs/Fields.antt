-- The line for an answer that is given by its fields (document 01, "One step of the machine").
--
--   line_of_kind, fields_line   "the kind of end (0 number, 1 throw, 2 refused)" says which line it is
--
-- Assumes nothing.
use Rattle.std.specs.Prelude.{ℕ, zero, suc, List}
use Rattle.rules.specs.Line.{number_line, throw_line, refused_line}
use Rattle.salnegris.specs.declared.AnswerFields.{AnswerFields}

abbrev pub line_of_kind : ℕ → AnswerFields → List ℕ
line_of_kind zero a = number_line a.number a.steps a.reached
line_of_kind (suc zero) a = throw_line a.steps a.reached
line_of_kind (suc (suc n)) a = refused_line a.refusal a.place

abbrev pub fields_line : AnswerFields → List ℕ
fields_line a = line_of_kind a.kind a
