-- Recipes as expressions (001, sections 2 and 5; document 01, "The recipe table").
--
--   Expression   what a recipe says
--   nodes        how many nodes an expression has, the n of the demands
--
-- Assumes nothing.
use Rattle.std.specs.Prelude.{ℕ, ◌+◌, ℤ}

pub data Expression : Type 0 where
  Val : ℤ → Expression
  Throw : Expression
  Add Seqn Catch : Expression → Expression → Expression
  Block Unblock : Expression → Expression

unfoldable pub nodes : Expression → ℕ
nodes (Val n) = 1
nodes Throw = 1
nodes (Add x y) = nodes x + nodes y + 1
nodes (Seqn x y) = nodes x + nodes y + 1
nodes (Catch x y) = nodes x + nodes y + 1
nodes (Block x) = nodes x + 1
nodes (Unblock x) = nodes x + 1
