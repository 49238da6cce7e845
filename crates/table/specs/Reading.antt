-- What reading a node answers (document 01, "The recipe table" and "Refusal numbers").
--
--   named         the nodes that are named, from how many they are
--   as_operands   and back
--   operands_at   how many nodes a node names, and which
--   reading_at    that, or the refusal of its tests 2, 3 and 4
--   unused_zero   test 3, by the kind
--
-- Assumes nothing.
use Rattle.std.specs.Prelude.{ℕ, Bool, List, [], ◌∷◌, Result, Ok, Err}
use Rattle.rules.specs.Bytes.{all_zero}
use Rattle.rules.specs.Checking.{answer_by, row_passes}
use Rattle.rules.specs.Table.{kinds, node_at, operands_of, node_test}
use Rattle.table.specs.declared.node.Operands.{Operands}
use Rattle.table.specs.declared.node.Operands.TheVariants.{None, One, Two}
use Rattle.rules.specs.declared.Refusal.{Refusal}

abbrev pub named : Operands → List ℕ
named None = []
named (One k) = k ∷ []
named (Two left right) = left ∷ right ∷ []

-- of at most two
abbrev pub as_operands : List ℕ → Operands
as_operands [] = None
as_operands (k ∷ []) = One k
as_operands (left ∷ right ∷ ks) = Two left right

abbrev pub operands_at : List ℕ → ℕ → Operands
operands_at table j = as_operands (operands_of (node_at table j))

abbrev pub reading_at : List ℕ → ℕ → Result Operands Refusal
reading_at table j = answer_by (node_test table j) Err (Ok (operands_at table j))

abbrev pub unused_zero : List ℕ → ℕ → ℕ → Bool
unused_zero table base kind = row_passes kinds (λ row. all_zero table base row.zeros) kind
