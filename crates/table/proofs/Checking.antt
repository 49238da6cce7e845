-- What checking a table answers, by the first of its tests that refuses.
--
--   Sized, sized                  a table that passes test 1, with how many nodes it has; so it is where they are told
--   size_refused                  and where they are not, it is refused
--   nodes_refused, nodes_passed   then the nodes, and then the uses
--
-- Assumes nothing.
use Prim.Native.Nat.{ℕ, ◌*◌, ◌-◌, ◌≤◌}
use native.Mathlib.Omega.{arith}
use lib.ListN.{length}
use mathlib.Core.Bool.{true, cond}
use mathlib.Core.List.{List}
use mathlib.Core.Option.{none, some}
use mathlib.Core.Path.{◌≡◌, ap, sym, ◌∙◌}
use Rattle.std.specs.Option.{ok_or}
use Rattle.std.specs.Prelude.{Some, None, Ok, Err}
use Rattle.rules.specs.Bytes.{records, whole_records}
use Rattle.rules.specs.Checking.{answer_by, checked_by, check_answer}
use Rattle.rules.specs.Limits.{record_bytes, node_limit, table_limit}
use Rattle.rules.specs.Refusals.{unless, first_refusal, lowest_refusal}
use Rattle.rules.specs.Table.{node_test, use_test, table_tests}
use Rattle.rules.specs.declared.Reason.TheVariants.{TableSize}
use Rattle.rules.specs.declared.Refusal.{Refusal}
use Rattle.rules.proofs.Bytes.Sizes.{whole_means}
use Rattle.rules.proofs.Checking.{size_told, size_missing}
use Rattle.rules.proofs.Refusals.{first_only}

pub record Sized (table : List ℕ) (n : ℕ) : Type 0 where
  pub whole : whole_records table_limit table ≡ true
  pub all : n ≡ records table
  pub size : length table ≡ record_bytes * n
  pub some : 1 ≤ n
  pub few : n ≤ node_limit

module _ (table : List ℕ) where
  -- ---- test 1, by what is told of the size

  module _ (r : Refusal) where
    pub sized : {n : ℕ} → ok_or (cond (whole_records table_limit table) (Some (records table)) None) r ≡ Ok n → Sized table n
    sized e =
        let (whole, all) = size_told (whole_records table_limit table) (records table) r e in
        let size = whole_means table_limit table whole in
        record {
          whole = whole;
          all = all;
          size = omega (arith, size.size);
          some = omega (arith, size.some);
          few = omega (arith, size.few, size.size);
        }

    pub size_refused : {s : Refusal} → ok_or (cond (whole_records table_limit table) (Some (records table)) None) r ≡ Err s
        → r ≡ record { reason = TableSize; place = 0 } → check_answer table_tests table ≡ Err s
    unfolding answer_by table_tests first_refusal unless
    size_refused e wrong =
        let (whole, same) = size_missing (whole_records table_limit table) (records table) r e in
        rw whole (ap Err (sym (same ∙ wrong)))

  -- ---- then the nodes, then the uses

  module _ {n : ℕ} (sized : Sized table n) where
    pub nodes_refused : {r : Refusal} → lowest_refusal (node_test table) n ≡ some r → check_answer table_tests table ≡ Err r
    unfolding answer_by table_tests first_refusal unless
    nodes_refused e = rw (sized.whole, ← sized.all, e)

    pub nodes_passed : lowest_refusal (node_test table) n ≡ none
        → check_answer table_tests table ≡ checked_by n (lowest_refusal (use_test table) (n - 1))
    unfolding table_tests first_refusal unless
    nodes_passed e = rw (sized.whole, ← sized.all, e, first_only (lowest_refusal (use_test table) (n - 1)))
