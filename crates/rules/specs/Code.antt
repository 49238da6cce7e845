-- Compilation (document 01, "The code"; 001, section 8).
--
--   code_length   document 01's last column, summed over the nodes
--   compile a e   e's instructions when the first of them stands at address a
--   target_of     the target of an instruction, 0 where it has none
--
-- Assumes nothing.
use Rattle.std.specs.Prelude.{ℕ, ◌+◌, List, [], ◌∷◌, ◌++◌}
use Rattle.rules.specs.Expression.{Expression, Val, Throw, Add, Seqn, Catch, Block, Unblock}
use Rattle.rules.specs.declared.Status.TheVariants.{Blocked, Unblocked}
use Rattle.rules.specs.declared.Instruction.{Instruction}
use Rattle.rules.specs.declared.Instruction.TheVariants.{Push, Pop, Mark, Unmark, Set, Reset}

unfoldable pub code_length : Expression → ℕ
code_length (Val n) = 1
code_length Throw = 1
code_length (Add x y) = code_length x + code_length y + 1
code_length (Seqn x y) = code_length x + code_length y + 1
code_length (Catch x y) = code_length x + code_length y + 2
code_length (Block x) = code_length x + 2
code_length (Unblock x) = code_length x + 2

-- In a Catch the handler's first address is past MARK, x and UNMARK, and the address after it is past y too.
unfoldable pub compile : ℕ → Expression → List Instruction
compile a (Val n) = Push n ∷ []
compile a Throw = Instruction.Throw ∷ []
compile a (Add x y) = compile a x ++ compile (a + code_length x) y ++ (Instruction.Add ∷ [])
compile a (Seqn x y) = compile a x ++ Pop ∷ compile (a + code_length x + 1) y
compile a (Catch x y) =
    let handler : ℕ = a + code_length x + 2 in
    Mark handler ∷ compile (a + 1) x ++ Unmark (handler + code_length y) ∷ compile handler y
compile a (Block x) = Set Blocked ∷ compile (a + 1) x ++ (Reset ∷ [])
compile a (Unblock x) = Set Unblocked ∷ compile (a + 1) x ++ (Reset ∷ [])

abbrev pub target_of : Instruction → ℕ
target_of (Push n) = 0
target_of Instruction.Throw = 0
target_of Instruction.Add = 0
target_of Pop = 0
target_of (Mark t) = t
target_of (Unmark t) = t
target_of (Set i) = 0
target_of Reset = 0
