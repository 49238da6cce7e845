-- Compiled code survives being written as bytes: read again it is the code, and the tests 9 to 12 let it pass (document 01, "The
-- code" and "Refusal numbers").
--
--   InRange                 the numbers of an expression are lane counts
--   recipe_in_range         so are those of the expression that a table holds, whatever its bytes
--   instructions_compiled   the bytes of compiled code say the code
--   compiled_passes         no test refuses them
--
-- Assumes nothing.
use Prim.Native.Nat.{ℕ, zero, suc, ◌+◌, ◌-◌, ◌%◌, ◌^◌, ◌≤◌, ◌<◌}
use native.Mathlib.Decide.{dec_lt}
use native.Mathlib.Omega.{arith}
use borrow.Author.Tests.{lt-ltb, le-ltb}
use lib.IntN.{pos, negsuc}
use lib.ListN.{length}
use mathlib.Core.List.{List}
use mathlib.Core.Option.{Option, none, some}
use mathlib.Core.Path.{◌≡◌, refl, ap}
use Rattle.rules.specs.Code.{code_length, compile}
use Rattle.rules.specs.CodeBytes.{bytes_of, instructions, code_tests}
use Rattle.rules.specs.Expression.{Expression, Val, Throw, Add, Seqn, Catch, Block, Unblock}
use Rattle.rules.specs.Limits.{instruction_limit}
use Rattle.rules.specs.Number.{residue, signed}
use Rattle.rules.specs.Recipe.{of_node, expression_within, expression_at, recipe}
use Rattle.rules.specs.Refusals.{first_refusal}
use Rattle.rules.specs.Table.{KindRow, kinds, kind_numbered, kind_at, node_of, node_at}
use Rattle.rules.specs.declared.Instruction.TheVariants.{Mark, Unmark}
use Rattle.rules.specs.declared.Node.{Node}
use Rattle.rules.specs.declared.Status.TheVariants.{Blocked, Unblocked}
use Rattle.rules.proofs.Lists.{done, ◌▸◌, each_append, each_row}
use Rattle.rules.proofs.Theory.Holding.{code_length_pos, length_compile}
use Rattle.rules.proofs.Bytes.WrittenCode.{LaneCount, Writable, push, throw, add, pop, mark, unmark, set, reset}
use Rattle.rules.proofs.Bytes.WrittenCode.{AllWritable, instructions_bytes_of, bytes_of_passes}

-- ---- the numbers of an expression

abbrev pub InRange : Expression → Type 0
InRange (Val n) = LaneCount n
InRange Throw = Unit
InRange (Add x y) = InRange x × InRange y
InRange (Seqn x y) = InRange x × InRange y
InRange (Catch x y) = InRange x × InRange y
InRange (Block x) = InRange x
InRange (Unblock x) = InRange x

-- ---- lane counts

pos_lane_count : (n : ℕ) → n < 2 ^ 31 → LaneCount (pos n)
unfolding residue signed
pos_lane_count n low =
    let same : n % 2 ^ 32 ≡ n = omega arith in
    rw (same, lt-ltb n (2 ^ 31) low)

negsuc_lane_count : (n : ℕ) → n < 2 ^ 31 → LaneCount (negsuc n)
unfolding residue signed
negsuc_lane_count n low =
    let same : n % 2 ^ 32 ≡ n = omega arith in
    rw (same, le-ltb (2 ^ 32 - suc n) (2 ^ 31) (omega arith)) (ap negsuc (omega arith))

-- Even of a word that four bytes cannot say: its difference from 2^32 stops at 0.
signed_lane_count : (word : ℕ) → LaneCount (signed word)
unfolding signed
signed_lane_count word = elim (dec_lt word (2 ^ 31)) [
  | yes low ↦ rw (lt-ltb word (2 ^ 31) low) (pos_lane_count word low)
  | no high ↦ rw (le-ltb word (2 ^ 31) (omega arith)) (negsuc_lane_count (2 ^ 32 - suc word) (omega arith))
]

-- ---- the numbers of a table

abbrev NodeInRange : Node → Type 0
NodeInRange (Node.Val n) = LaneCount n
NodeInRange Node.Throw = Unit
NodeInRange (Node.Add left right) = Unit
NodeInRange (Node.Seqn left right) = Unit
NodeInRange (Node.Catch left right) = Unit
NodeInRange (Node.Block left) = Unit
NodeInRange (Node.Unblock left) = Unit

-- whatever word and operands a record has, the node that its kind makes of them is in range
kind_in_range : (word left right kind : ℕ) {row : KindRow} → kind_numbered kind ≡ some row
    → NodeInRange (row.node (signed word) left right)
unfolding kinds
kind_in_range word left right =
    each_row (λ kind row. NodeInRange (row.node (signed word) left right)) kinds
    (signed_lane_count word ▸ tt ▸ tt ▸ tt ▸ tt ▸ tt ▸ tt ▸ done)

of_node_in_range : (node : Node) (operand : ℕ → Expression) → NodeInRange node → ((k : ℕ) → InRange (operand k))
    → InRange (of_node node operand)
unfolding of_node
of_node_in_range (Node.Val n) operand own below = own
of_node_in_range Node.Throw operand own below = tt
of_node_in_range (Node.Add left right) operand own below = (below left, below right)
of_node_in_range (Node.Seqn left right) operand own below = (below left, below right)
of_node_in_range (Node.Catch left right) operand own below = (below left, below right)
of_node_in_range (Node.Block left) operand own below = below left
of_node_in_range (Node.Unblock left) operand own below = below left

module _ (table : List ℕ) where
  node_in_range : (j : ℕ) (kind : Option KindRow) → kind_at table j ≡ kind → NodeInRange (node_at table j)
  unfolding kind_at node_at node_of
  node_in_range j none e = rw (e, node_at) tt
  node_in_range j (some row) e = rw (e, node_at) (kind_in_range _ _ _ _ e)

  expression_in_range : (levels j : ℕ) → InRange (expression_within levels table j)
  unfolding expression_within
  expression_in_range zero j = tt
  expression_in_range (suc levels) j =
      of_node_in_range (node_at table j) (expression_within levels table) (node_in_range j (kind_at table j) refl)
      (expression_in_range levels)

  pub recipe_in_range : InRange (recipe table)
  unfolding recipe expression_at
  recipe_in_range = expression_in_range _ _

-- ---- compiled code

compile_writable : {n : ℕ} (a : ℕ) (e : Expression) → InRange e → a + code_length e ≤ n → AllWritable n a (compile a e)
unfolding code_length compile
compile_writable a (Val k) r h = push r ▸ done
compile_writable a Throw r h = throw ▸ done
compile_writable a (Add x y) r h =
    each_append refl
    (each_append (length_compile a x) (compile_writable a x r.0 (omega arith))
    (compile_writable (a + code_length x) y r.1 (omega arith)))
    (add ▸ done)
compile_writable a (Seqn x y) r h =
    each_append (length_compile a x) (compile_writable a x r.0 (omega arith))
    (pop ▸ compile_writable (a + code_length x + 1) y r.1 (omega arith))
compile_writable {n} a (Catch x y) r h =
    let unmarking : ℕ = a + 1 + code_length x in
    let handler : ℕ = a + code_length x + 2 in
    let later : ℕ = handler + code_length y in
    let next : unmarking + 1 ≡ handler = omega arith in
    let first : Writable n a (Mark handler) = mark handler (omega arith) (omega arith) in
    let last : Writable n unmarking (Unmark later) = unmark later (omega arith) (omega arith) in
    let handled : AllWritable n (unmarking + 1) (compile handler y) = rw next (compile_writable handler y r.1 (omega arith)) in
    first ▸ each_append (length_compile (a + 1) x) (compile_writable (a + 1) x r.0 (omega arith)) (last ▸ handled)
compile_writable a (Block x) r h = set Blocked ▸ each_append refl (compile_writable (a + 1) x r (omega arith)) (reset ▸ done)
compile_writable a (Unblock x) r h = set Unblocked ▸ each_append refl (compile_writable (a + 1) x r (omega arith)) (reset ▸ done)

module _ (e : Expression) (r : InRange e) (short : code_length e ≤ instruction_limit) where
  compiled_writable : AllWritable (length (compile 0 e)) 0 (compile 0 e)
  compiled_writable = rw (length_compile 0 e) (compile_writable 0 e r (omega arith))

  pub instructions_compiled : instructions (bytes_of (compile 0 e)) ≡ compile 0 e
  instructions_compiled = instructions_bytes_of (compile 0 e) (rw (length_compile 0 e) short) compiled_writable

  pub compiled_passes : first_refusal (code_tests (bytes_of (compile 0 e))) ≡ none
  compiled_passes =
      bytes_of_passes (compile 0 e) (rw (length_compile 0 e) short) compiled_writable (rw (length_compile 0 e) (code_length_pos e))
