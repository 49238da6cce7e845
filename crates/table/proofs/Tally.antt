-- How often each node is an operand, counted as the walk over the nodes comes to it.
--
--   none_counted            before the walk
--   node_room, node_counted
--                           one node further
--   count_wrong, count_right
--                           test 5 on a count
--   counted_tests           it is test 5 on the table
--
-- Assumes nothing.
use Prim.Native.Nat.{ℕ, zero, suc, ◌+◌, ◌*◌, ◌≤◌, ◌<◌}
use native.Mathlib.Decide.{dec_lt}
use native.Mathlib.Numerals.{add-one}
use native.Mathlib.Omega.{arith}
use borrow.Author.Tests.{eq-eqb, ne_eqb}
use lib.Dec.{eqb}
use lib.ListN.{length, get_or, set, length-set, replicate, length-replicate, get_or-replicate, get_or-eq_default}
use mathlib.Core.Bool.{true, cond}
use mathlib.Core.List.{List, [], ◌∷◌}
use mathlib.Core.Option.{none, some}
use mathlib.Core.Path.{◌≡◌, refl, ◌∙◌}
use Rattle.std.proofs.lemmas.Grind.{common_steps}
use Rattle.std.proofs.lemmas.Bool.Decides.{nat_tests}
use Rattle.rules.specs.Bytes.{records}
use Rattle.rules.specs.Limits.{node_limit}
use Rattle.rules.specs.Refusals.{unless, lowest_refusal}
use Rattle.rules.specs.Table.{node_at, operands_of, all_below, times, uses, use_test}
use Rattle.rules.specs.declared.Node.{Node}
use Rattle.rules.specs.declared.Node.TheVariants.{Val, Throw, Add, Seqn, Catch, Block, Unblock}
use Rattle.rules.specs.declared.Reason.TheVariants.{Uses}
use Rattle.rules.proofs.Refusals.{lowest_same}
use Rattle.table.specs.Counts.{Room, CountsUses, counted, count_test}
use Rattle.table.proofs.Unfolding.{below_cons, below_more}

-- ---- one more use

-- the count at k, when i is used once more
count_more : (counts : List ℕ) (i k : ℕ) → i < length counts
    → get_or (set counts i (get_or counts i 0 + 1)) k 0 ≡ get_or counts k 0 + cond (eqb k i) 1 0
count_more counts i k h = grind (arith, common_steps)

one_at_most : (k i : ℕ) → cond (eqb k i) 1 0 ≤ 1
one_at_most k i = grind (arith, nat_tests)

-- ---- the walk over the nodes

few_operands : (node : Node) → length (operands_of node) ≤ 2
few_operands (Val n) = omega arith
few_operands Throw = omega arith
few_operands (Add left right) = omega arith
few_operands (Seqn left right) = omega arith
few_operands (Catch left right) = omega arith
few_operands (Block left) = omega arith
few_operands (Unblock left) = omega arith

times_few : (k : ℕ) (ks : List ℕ) → times k ks ≤ length ks
unfolding times
times_few k [] = omega arith
times_few k (i ∷ ks) = omega (arith, times_few k ks, one_at_most k i)

uses_few : (table : List ℕ) (n k : ℕ) → uses table n k ≤ 2 * n
unfolding uses
uses_few table zero k = omega arith
uses_few table (suc n) k =
    omega (arith, uses_few table n k, times_few k (operands_of (node_at table n)), few_operands (node_at table n))

pub none_counted : (table : List ℕ) → CountsUses table 0 (replicate node_limit 0)
unfolding uses
none_counted table = record { places = length-replicate {A = ℕ} node_limit 0; count = λ k h. get_or-replicate node_limit k 0 0 h }

length_counted : (counts ks : List ℕ) → length (counted counts ks) ≡ length counts
unfolding counted
length_counted counts [] = refl
length_counted counts (k ∷ ks) =
    length_counted (set counts k (get_or counts k 0 + 1)) ks ∙ length-set counts k (get_or counts k 0 + 1)

counted_times : (counts ks : List ℕ) → all_below (length counts) ks ≡ true → (k : ℕ)
    → get_or (counted counts ks) k 0 ≡ get_or counts k 0 + times k ks
unfolding counted times
counted_times counts [] below k = omega arith
counted_times counts (i ∷ ks) below k =
    let (first, others) = below_cons (length counts) i ks below in
    let next : List ℕ = set counts i (get_or counts i 0 + 1) in
    let places : all_below (length next) ks ≡ true = rw length-set others in
    omega (arith, counted_times next ks places k, count_more counts i k first)

module _ {table : List ℕ} {j : ℕ} {counts : List ℕ} (so_far : CountsUses table j counts)
    (below : all_below j (operands_of (node_at table j)) ≡ true) (few : j < node_limit) where
  places : all_below (length counts) (operands_of (node_at table j)) ≡ true
  places = below_more (operands_of (node_at table j)) (omega (arith, so_far.places)) below

  count_few : (k : ℕ) → get_or counts k 0 ≤ 2 * node_limit
  count_few k = elim (dec_lt k node_limit) [
    | yes inside ↦ omega (arith, so_far.count k inside, uses_few table j k)
    | no past ↦
        let outside : length counts ≤ k = omega (arith, so_far.places) in
        rw (get_or-eq_default counts 0 outside) (omega arith)
  ]

  pub node_room : Room counts (operands_of (node_at table j))
  node_room = record {
    places = below_more (operands_of (node_at table j)) (omega arith) below;
    low = λ k. omega (arith, count_few k, few_operands (node_at table j));
  }

  pub node_counted : CountsUses table (j + 1) (counted counts (operands_of (node_at table j)))
  unfolding uses
  node_counted = record {
    places = length_counted counts (operands_of (node_at table j)) ∙ so_far.places;
    count = λ k h. rw add-one (omega (arith, counted_times counts (operands_of (node_at table j)) places k, so_far.count k h));
  }

-- ---- test 5

module _ (counts : List ℕ) (k : ℕ) where
  pub count_wrong : (get_or counts k 0 ≡ 1 → ⊥) → count_test counts k ≡ some (record { reason = Uses; place = k })
  unfolding count_test unless
  count_wrong wrong = rw (ne_eqb (get_or counts k 0) 1 wrong)

  pub count_right : get_or counts k 0 ≡ 1 → count_test counts k ≡ none
  unfolding count_test unless
  count_right right = rw (eq-eqb (get_or counts k 0) 1 right)

module _ {table counts : List ℕ} {n : ℕ} (all : n ≡ records table) (tally : CountsUses table n counts) where
  counted_test : (k : ℕ) → k < node_limit → count_test counts k ≡ use_test table k
  unfolding count_test use_test
  counted_test k h = rw (← all, tally.count k h)

  pub counted_tests : (m : ℕ) → m ≤ node_limit → lowest_refusal (count_test counts) m ≡ lowest_refusal (use_test table) m
  counted_tests m h = lowest_same (count_test counts) (use_test table) m (λ k b. counted_test k (omega arith))
