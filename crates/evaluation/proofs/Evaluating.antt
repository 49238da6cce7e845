-- What evaluating a node asks of its operands, and the answer for a table by what `check` answers.
--
--   operand, operands   a node's operands lie below it, and can be evaluated in turn
--   accepted_ends       an accepted table ends as its last node does
--   refused_answers     a refused one is refused as `check` refuses it
--
-- Assumes nothing.
use Prim.Native.Nat.{ℕ, ◌-◌, ◌<◌}
use native.Mathlib.Omega.{arith}
use mathlib.Core.List.{List, [], ◌∷◌}
use mathlib.Core.Path.{◌≡◌}
use Rattle.rules.specs.Checking.{check_answer}
use Rattle.rules.specs.Evaluating.{evaluate_answer}
use Rattle.rules.specs.Evaluation.{quiet}
use Rattle.rules.specs.Recipe.{expression_at}
use Rattle.rules.specs.Table.{operands_of, table_tests}
use Rattle.rules.specs.declared.Node.{Node}
use Rattle.rules.specs.declared.Refusal.{Refusal}
use Rattle.rules.proofs.Bytes.Answered.{evaluate_passed, evaluate_refused}
use Rattle.rules.proofs.Checking.{check_accepted, check_refused}
use Rattle.table.specs.Acceptance.{AcceptedNode, Says}
use Rattle.std.specs.Prelude.{Ok, Err}
use Rattle.table.proofs.Acceptance.{node_below, one_below, both_below, last_recipe}

-- ---- a node and its operands

-- t is the measure at node j
module _ {table : List ℕ} {j t : ℕ} {node : Node} (here : (j ≡ t) × AcceptedNode table j) (said : Says table j node) where
  reached : {k : ℕ} → k < j → (k < t) × AcceptedNode table k
  reached low = (omega (arith, here.0), node_below here.1 low)

  pub operand : {left : ℕ} → operands_of node ≡ left ∷ [] → (left < t) × AcceptedNode table left
  operand names = reached (one_below j _ (rw names at said.below))

  pub operands : {left right : ℕ} → operands_of node ≡ left ∷ right ∷ []
      → ((left < t) × AcceptedNode table left) × ((right < t) × AcceptedNode table right)
  operands names =
      let (first, second) = both_below j _ _ (rw names at said.below) in
      (reached first, reached second)

-- ---- the answer

module _ (table : List ℕ) where
  pub accepted_ends : {n : ℕ} → check_answer table_tests table ≡ Ok n
      → Ok (quiet (expression_at table (n - 1))) ≡ evaluate_answer table
  accepted_ends e = rw (evaluate_passed table (check_accepted table_tests table e).0, last_recipe table e)

  pub refused_answers : {r : Refusal} → check_answer table_tests table ≡ Err r → Err r ≡ evaluate_answer table
  refused_answers e = rw (evaluate_refused table (check_refused table_tests table e))
