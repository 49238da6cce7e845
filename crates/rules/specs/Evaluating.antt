-- What evaluating a table answers, for every table: the end of its recipe when no recall comes (document 01, "What a recipe
-- may end in" and "Refusal numbers").
--
--   evaluate_answer   the end, or the refusal of the tests 1 to 5
--
-- Assumes nothing.
use Rattle.std.specs.Prelude.{ℕ, List, Result, Ok, Err}
use Rattle.std.proofs.Math.Option.{none, some}
use Rattle.rules.specs.Evaluation.{quiet}
use Rattle.rules.specs.Recipe.{recipe}
use Rattle.rules.specs.Refusals.{first_refusal}
use Rattle.rules.specs.Table.{table_tests}
use Rattle.rules.specs.declared.Refusal.{Refusal}
use Rattle.rules.specs.declared.End.{End}

unfoldable pub evaluate_answer : List ℕ → Result End Refusal
evaluate_answer table = elim (first_refusal (table_tests table)) [ none ↦ Ok (quiet (recipe table)) | some r ↦ Err r ]
