-- The counting law: where every operand lies below its node, and every node but the last of the first n is an operand once, what
-- each node adds to its operands comes to the whole of the last. Each node's whole is counted twice, by itself and by its uses.
--
--   sum_below             the sum of a function over the numbers below n
--   sum_over              and over a list of numbers
--   code_length_of_node   a node's code is its operands' code and what it adds
--   whole_counted         the law, over an arbitrary weight
--   nodes_counted         so the last node's expression has n nodes
--   code_length_counted   and its code is as long as the column's sum
--
-- Assumes nothing.
use Prim.Native.Nat.{ℕ, zero, suc, ◌+◌, ◌-◌, ◌*◌, ◌≤◌, ◌<◌}
use native.Mathlib.Decide.{dec_lt}
use native.Mathlib.Nat.{zero-mul, one-mul, add-mul}
use native.Mathlib.Omega.{arith}
use borrow.Author.Tests.{eq-eqb, ne_eqb}
use lib.Dec.{eqb}
use mathlib.Core.Bool.{true, cond}
use mathlib.Core.List.{List, [], ◌∷◌}
use mathlib.Core.Path.{◌≡◌, refl, ap, ◌∙◌}
use Rattle.rules.specs.Code.{code_length}
use Rattle.rules.specs.Expression.{Expression, nodes}
use Rattle.rules.specs.Recipe.{of_node, expression_at}
use Rattle.rules.specs.Table.{node_at, operands_of, all_below, times, uses}
use Rattle.rules.specs.declared.Node.{Node}
use Rattle.rules.specs.declared.Node.TheVariants.{Val, Throw, Add, Seqn, Catch, Block, Unblock}
use Rattle.table.specs.Acceptance.{Falling}
use Rattle.table.specs.Column.{column, column_sum}
use Rattle.table.proofs.Unfolding.{below_cons, expression_at_unfolds}

-- ---- sums

unfoldable pub sum_below : (ℕ → ℕ) → ℕ → ℕ
sum_below f zero = 0
sum_below f (suc n) = sum_below f n + f n

unfoldable pub sum_over : (ℕ → ℕ) → List ℕ → ℕ
sum_over f [] = 0
sum_over f (k ∷ ks) = f k + sum_over f ks

sum_same : (f g : ℕ → ℕ) (n : ℕ) → ((j : ℕ) → j < n → f j ≡ g j) → sum_below f n ≡ sum_below g n
unfolding sum_below
sum_same f g zero same = refl
sum_same f g (suc n) same = cc (sum_same f g n (λ j h. same j (omega arith)), same n (omega arith))

sum_add : (f g : ℕ → ℕ) (n : ℕ) → sum_below (λ j. f j + g j) n ≡ sum_below f n + sum_below g n
unfolding sum_below
sum_add f g zero = refl
sum_add f g (suc n) = omega (arith, sum_add f g n)

sum_last : (f : ℕ → ℕ) (n : ℕ) → 1 ≤ n → sum_below f n ≡ sum_below f (n - 1) + f (n - 1)
unfolding sum_below
sum_last f zero h = absurd (omega arith)
sum_last f (suc n) h =
    let e : suc n - 1 ≡ n = omega arith in
    rw e

-- ---- a sum over a list, by how often the list has each number

abbrev one_at : ℕ → ℕ → ℕ
one_at j k = cond (eqb k j) 1 0

module _ (w : ℕ → ℕ) where
  -- the numbers below m, each as often as the count says
  abbrev counted : (ℕ → ℕ) → ℕ → ℕ
  counted count m = sum_below (λ k. count k * w k) m

  counted_none : (count : ℕ → ℕ) (m : ℕ) → ((k : ℕ) → k < m → count k ≡ 0) → counted count m ≡ 0
  unfolding sum_below
  counted_none count zero none = refl
  counted_none count (suc m) none = rw (none m (omega arith)) (omega (arith, counted_none count m (λ k h. none k (omega arith))))

  counted_add : (f g : ℕ → ℕ) (m : ℕ) → counted (λ k. f k + g k) m ≡ counted f m + counted g m
  counted_add f g m = simp add-mul (sum_add (λ k. f k * w k) (λ k. g k * w k) m)

  counted_one : (m j : ℕ) → j < m → counted (one_at j) m ≡ w j
  unfolding sum_below
  counted_one zero j h = absurd (omega arith)
  counted_one (suc m) j h = elim (dec_lt j m) [
    | yes l ↦ rw (ne_eqb m j (λ e. omega arith)) (omega (arith, counted_one m j l))
    | no l ↦
        let last : m ≡ j = omega arith in
        rw (eq-eqb m j last) (omega (arith, counted_none (one_at j) m (λ k b. rw (ne_eqb k j (λ e. omega arith))), ap w last))
  ]

  counted_list : (m j : ℕ) → j ≤ m → (ks : List ℕ) → all_below j ks ≡ true → counted (λ k. times k ks) m ≡ sum_over w ks
  unfolding times sum_over
  counted_list m j h [] below = counted_none (λ k. 0) m (λ k b. refl)
  counted_list m j h (k ∷ ks) below =
      let (first, others) = below_cons j k ks below in
      counted_add (one_at k) (λ i. times i ks) m ∙ cc (counted_one m k (omega arith), counted_list m j h ks others)

times_above : (i j : ℕ) → i ≤ j → (ks : List ℕ) → all_below i ks ≡ true → times j ks ≡ 0
unfolding times
times_above i j h [] below = refl
times_above i j h (k ∷ ks) below =
    let (first, others) = below_cons i k ks below in
    rw (ne_eqb j k (λ e. omega arith)) (omega (arith, times_above i j h ks others))

-- ---- what a node adds to its operands

nodes_of_node : (f : ℕ → Expression) (node : Node) → nodes (of_node node f) ≡ 1 + sum_over (λ k. nodes (f k)) (operands_of node)
unfolding nodes of_node sum_over
nodes_of_node f (Val n) = refl
nodes_of_node f Throw = refl
nodes_of_node f (Add left right) = omega arith
nodes_of_node f (Seqn left right) = omega arith
nodes_of_node f (Catch left right) = omega arith
nodes_of_node f (Block left) = omega arith
nodes_of_node f (Unblock left) = omega arith

pub code_length_of_node : (f : ℕ → Expression) (node : Node)
    → code_length (of_node node f) ≡ column node + sum_over (λ k. code_length (f k)) (operands_of node)
unfolding code_length of_node sum_over
code_length_of_node f (Val n) = refl
code_length_of_node f Throw = refl
code_length_of_node f (Add left right) = omega arith
code_length_of_node f (Seqn left right) = omega arith
code_length_of_node f (Catch left right) = omega arith
code_length_of_node f (Block left) = omega arith
code_length_of_node f (Unblock left) = omega arith

sum_ones : (n : ℕ) → sum_below (λ j. 1) n ≡ n
unfolding sum_below
sum_ones zero = refl
sum_ones (suc n) = omega (arith, sum_ones n)

sum_column : (table : List ℕ) (n : ℕ) → sum_below (λ j. column (node_at table j)) n ≡ column_sum table n
unfolding sum_below column_sum
sum_column table zero = refl
sum_column table (suc n) = cc (sum_column table n)

-- ---- the law

module _ (table : List ℕ) (n : ℕ) (falling : Falling table n) where
  uses_counted : (w : ℕ → ℕ) (m : ℕ) → m ≤ n
      → counted w (uses table m) n ≡ sum_below (λ j. sum_over w (operands_of (node_at table j))) m
  unfolding uses sum_below
  uses_counted w zero h = counted_none w (λ k. 0) n (λ k b. refl)
  uses_counted w (suc m) h =
      let operands : List ℕ = operands_of (node_at table m) in
      counted_add w (uses table m) (λ k. times k operands) n
      ∙ cc (uses_counted w m (omega arith), counted_list w n m (omega arith) operands (falling m (omega arith)))

  uses_above : (m j : ℕ) → m ≤ n → m ≤ j + 1 → uses table m j ≡ 0
  unfolding uses
  uses_above zero j h l = refl
  uses_above (suc m) j h l =
      let here : times j (operands_of (node_at table m)) ≡ 0 =
      times_above m j (omega arith) (operands_of (node_at table m)) (falling m (omega arith)) in
      omega (arith, uses_above m j (omega arith) (omega arith))

  module _ (once : (j : ℕ) → j + 1 < n → uses table n j ≡ 1) (nonempty : 1 ≤ n) where
    pub whole_counted : (whole own : ℕ → ℕ) → ((j : ℕ) → j < n → whole j ≡ own j + sum_over whole (operands_of (node_at table j)))
        → whole (n - 1) ≡ sum_below own n
    whole_counted whole own adds =
        let under : ℕ → ℕ = λ j. sum_over whole (operands_of (node_at table j)) in
        let used : ℕ → ℕ = λ k. uses table n k * whole k in
        let by_itself : sum_below whole n ≡ sum_below own n + sum_below under n =
        sum_same whole (λ j. own j + under j) n adds ∙ sum_add own under n in
        let by_uses : sum_below used n ≡ sum_below under n = uses_counted whole n (omega arith) in
        let used_once : sum_below used (n - 1) ≡ sum_below whole (n - 1) =
        sum_same used whole (n - 1) (λ k h. rw (once k (omega arith)) (one-mul (whole k))) in
        let last_unused : used (n - 1) ≡ 0 = rw (uses_above n (n - 1) (omega arith) (omega arith)) (zero-mul (whole (n - 1))) in
        omega (arith, sum_last whole n nonempty, sum_last used n nonempty)

    size_counted : (size : Expression → ℕ) (own : Node → ℕ)
        → ((f : ℕ → Expression) (node : Node) → size (of_node node f) ≡ own node + sum_over (λ k. size (f k)) (operands_of node))
        → size (expression_at table (n - 1)) ≡ sum_below (λ j. own (node_at table j)) n
    size_counted size own adds =
        whole_counted (λ j. size (expression_at table j)) (λ j. own (node_at table j))
        (λ j h. ap size (expression_at_unfolds table n falling j h) ∙ adds (λ k. expression_at table k) (node_at table j))

    pub nodes_counted : nodes (expression_at table (n - 1)) ≡ n
    nodes_counted = size_counted nodes (λ node. 1) nodes_of_node ∙ sum_ones n

    pub code_length_counted : code_length (expression_at table (n - 1)) ≡ column_sum table n
    code_length_counted = size_counted code_length column code_length_of_node ∙ sum_column table n
