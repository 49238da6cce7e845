-- What acceptance says of a table, and what it says of the recipe that the table holds.
--
--   accepted        a table that passes the tests 1 to 5
--   says            what a node says
--   node_below      a node below it is one too
--   one_below, both_below
--                   its operands lie below it
--   last_node, last_recipe
--                   an accepted table has a last node, whose expression is the recipe
--   recipe_nodes    "every node but the last is an operand exactly once": the recipe has each node once
--   recipe_length   the code length is the sum of the last column of document 01's table of kinds
--   recipe_short    "at most 2n - 1", and so at most 1,023
--
-- Assumes nothing.
use Prim.Native.Nat.{ℕ, ◌+◌, ◌*◌, ◌-◌, ◌≤◌, ◌<◌}
use native.Mathlib.Omega.{arith}
use borrow.Author.Tests.{eqb-true}
use mathlib.Core.Bool.{true}
use mathlib.Core.List.{List, [], ◌∷◌}
use mathlib.Core.Option.{none}
use mathlib.Core.Path.{◌≡◌, ap, sym, ◌∙◌}
use Rattle.rules.specs.Bytes.{records}
use Rattle.rules.specs.Checking.{check_answer}
use Rattle.rules.specs.Code.{code_length}
use Rattle.rules.specs.Expression.{nodes}
use Rattle.rules.specs.Recipe.{expression_at, recipe}
use Rattle.rules.specs.Refusals.{first_refusal}
use Rattle.rules.specs.Table.{node_at, all_below, node_test, use_test, table_tests}
use Rattle.rules.specs.declared.Node.{Node}
use Rattle.rules.proofs.Theory.Holding.{code_length_nodes}
use Rattle.rules.proofs.Bytes.Sizes.{whole_means}
use Rattle.rules.proofs.Checking.{check_accepted}
use Rattle.rules.proofs.Refusals.{unless_passed, first_none, lowest_none}
use Rattle.table.specs.Acceptance.{AcceptedTable, AcceptedNode, Says}
use Rattle.table.specs.Column.{column_sum}
use Rattle.table.proofs.Counting.{nodes_counted, code_length_counted}
use Rattle.table.proofs.Reading.{passed_below}
use Rattle.std.specs.Prelude.{Ok}
use Rattle.table.proofs.Unfolding.{below_cons, expression_at_unfolds}

-- ---- the tests

pub accepted : (table : List ℕ) → first_refusal (table_tests table) ≡ none → AcceptedTable table
unfolding table_tests use_test
accepted table e =
    let (whole, later) = first_none _ _ e in
    let (walked, last) = first_none _ _ later in
    let size = whole_means _ table (unless_passed _ _ _ whole) in
    record {
      size = size.size;
      some = size.some;
      few = omega (arith, size.few);
      falling = λ j h. passed_below table j (lowest_none (node_test table) (records table) j h walked);
      once =
          λ j h.
          eqb-true _ _
          (unless_passed _ _ _ (lowest_none (use_test table) (records table - 1) j (omega arith) (first_none _ _ last).0));
    }

-- ---- a node

module _ {table : List ℕ} {j : ℕ} (here : AcceptedNode table j) where
  pub says : {read node : Node} → read ≡ node_at table j → read ≡ node → Says table j node
  says read told =
      let e = sym told ∙ read in
      record {
        expression = rw e (expression_at_unfolds table (records table) here.accepted.falling j here.within);
        below = rw e (here.accepted.falling j here.within);
      }

  pub node_below : {k : ℕ} → k < j → AcceptedNode table k
  node_below low = record { accepted = here.accepted; within = omega (arith, here.within) }

pub one_below : (j left : ℕ) → all_below j (left ∷ []) ≡ true → left < j
one_below j left e = (below_cons j left [] e).0

pub both_below : (j left right : ℕ) → all_below j (left ∷ right ∷ []) ≡ true → (left < j) × (right < j)
both_below j left right e =
    let (first, others) = below_cons j left (right ∷ []) e in
    (first, one_below j right others)

-- ---- the recipe

module _ (table : List ℕ) {n : ℕ} (answer : check_answer table_tests table ≡ Ok n) where
  pub last_node : (1 ≤ n) × AcceptedNode table (n - 1)
  last_node =
      let (passed, all) = check_accepted table_tests table answer in
      let table_accepted = accepted table passed in
      let some : 1 ≤ n = omega (arith, all, table_accepted.some) in
      (some, record { accepted = table_accepted; within = omega (arith, all) })

  pub last_recipe : expression_at table (n - 1) ≡ recipe table
  unfolding recipe
  last_recipe = ap (λ (m : ℕ). expression_at table (m - 1)) (check_accepted table_tests table answer).1

module _ {table : List ℕ} (table_accepted : AcceptedTable table) where
  pub recipe_nodes : nodes (recipe table) ≡ records table
  unfolding recipe
  recipe_nodes = nodes_counted table (records table) table_accepted.falling table_accepted.once table_accepted.some

  pub recipe_length : code_length (recipe table) ≡ column_sum table (records table)
  unfolding recipe
  recipe_length = code_length_counted table (records table) table_accepted.falling table_accepted.once table_accepted.some

  pub recipe_short : code_length (recipe table) + 1 ≤ 2 * records table
  recipe_short = omega (arith, code_length_nodes (recipe table), recipe_nodes)
