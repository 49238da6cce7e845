-- The walk over the nodes, with their uses counted on the way.
--
--   NodesWalked   the first j nodes have passed the tests 2, 3 and 4, and their uses are counted
--   nodes_begin, nodes_go_on, nodes_stop, nodes_end
--                 from the first node to the last, or to one that is refused
--   nodes_room    what the next node names can be counted
--
-- Assumes nothing.
use Prim.Native.Nat.{ℕ, ◌+◌, ◌-◌, ◌≤◌, ◌<◌}
use native.Mathlib.Omega.{arith}
use lib.ListN.{replicate}
use mathlib.Core.List.{List}
use mathlib.Core.Path.{◌≡◌, ap, sym, ◌∙◌}
use Rattle.std.specs.Prelude.{Ok, Err}
use Rattle.rules.specs.Checking.{check_answer, checked_by}
use Rattle.rules.specs.Limits.{node_limit}
use Rattle.rules.specs.Refusals.{lowest_refusal}
use Rattle.rules.specs.Table.{node_test, table_tests}
use Rattle.rules.specs.declared.Refusal.{Refusal}
use Rattle.rules.proofs.Checking.{Walked, walk_begins, walk_goes_on, walk_stops, walk_ends}
use Rattle.table.specs.Counts.{counted, count_test, Room, CountsUses}
use Rattle.table.specs.Reading.{named, reading_at}
use Rattle.table.specs.declared.node.Operands.{Operands}
use Rattle.table.proofs.Checking.{Sized, nodes_refused, nodes_passed}
use Rattle.table.proofs.Reading.{told, operands_told, passed_below}
use Rattle.table.proofs.Tally.{none_counted, node_room, node_counted, counted_tests}

pub record NodesWalked (table : List ℕ) (n : ℕ) (counts : List ℕ) (j : ℕ) : Type 0 where
  pub sized : Sized table n
  pub walked : Walked (node_test table) n j
  pub tally : CountsUses table j counts

pub nodes_begin : {table : List ℕ} {n : ℕ} → Sized table n → NodesWalked table n (replicate node_limit 0) 0
nodes_begin {table} sized = record { sized = sized; walked = walk_begins _ _; tally = none_counted table }

module _ {table : List ℕ} {n : ℕ} {counts : List ℕ} {j : ℕ} (so_far : NodesWalked table n counts j) where
  module _ (h : j < n) {operands : Operands} (read : reading_at table j ≡ Ok operands) where
    pub nodes_room : Room counts (named operands)
    nodes_room =
        rw (operands_told table j read) at
        (node_room so_far.tally (passed_below table j (told table j read)) (omega (arith, so_far.sized.few)))

    pub nodes_go_on : NodesWalked table n (counted counts (named operands)) (j + 1)
    nodes_go_on = record {
      sized = so_far.sized;
      walked = walk_goes_on so_far.walked h (told table j read);
      tally =
          rw (operands_told table j read) at
          (node_counted so_far.tally (passed_below table j (told table j read)) (omega (arith, so_far.sized.few)));
    }

  pub nodes_stop : j < n → {r : Refusal} → reading_at table j ≡ Err r → check_answer table_tests table ≡ Err r
  nodes_stop h read = nodes_refused table so_far.sized (walk_stops so_far.walked h (told table j read))

  pub nodes_end : n ≤ j → check_answer table_tests table ≡ checked_by n (lowest_refusal (count_test counts) (n - 1))
  nodes_end h =
      let end : j ≡ n = omega (arith, so_far.walked.within) in
      nodes_passed table so_far.sized (walk_ends so_far.walked h)
      ∙ ap (checked_by n) (sym (counted_tests so_far.sized.all (rw end at so_far.tally) (n - 1) (omega (arith, so_far.sized.few))))
