-- How often each node is an operand, in a count for each that a table can have (document 01, "every node but the last is an operand
-- exactly once").
--
--   counted      counts, with each of these nodes used once more
--   Room         these nodes can be counted: they have a place, and no count comes to its end
--   CountsUses   the counts are those of the first n nodes
--   count_test   test 5, on counts
--
-- Assumes nothing.
use Rattle.std.specs.Prelude.{ℕ, ◌+◌, ◌^◌, ◌<◌, eqb, length, get_or, set, true, List, [], ◌∷◌, ◌≡◌}
use Rattle.std.proofs.Math.Option.{Option}
use Rattle.rules.specs.Limits.{node_limit}
use Rattle.rules.specs.Refusals.{unless}
use Rattle.rules.specs.Table.{all_below, uses}
use Rattle.rules.specs.declared.Reason.TheVariants.{Uses}
use Rattle.rules.specs.declared.Refusal.{Refusal}

unfoldable pub counted : List ℕ → List ℕ → List ℕ
counted counts [] = counts
counted counts (k ∷ ks) = counted (set counts k (get_or counts k 0 + 1)) ks

pub record Room (counts nodes : List ℕ) : Type 0 where
  pub places : all_below node_limit nodes ≡ true
  pub low : (k : ℕ) → get_or counts k 0 + length nodes < 2 ^ 16

pub record CountsUses (table : List ℕ) (n : ℕ) (counts : List ℕ) : Type 0 where
  pub places : length counts ≡ node_limit
  pub count : (k : ℕ) → k < node_limit → get_or counts k 0 ≡ uses table n k

unfoldable pub count_test : List ℕ → ℕ → Option Refusal
count_test counts k = unless (eqb (get_or counts k 0) 1) Uses k
