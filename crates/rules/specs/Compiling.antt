-- What compiling answers and what it leaves in the code buffer, for every table and every buffer (document 01, "Refusal
-- numbers").
--
--   code_of          the code of the expression that a table holds
--   compile_tests    the tests 1 to 6 in their order
--   compile_answer   "the code length in instructions, or 0 with the refusal"
--   compile_leaves   "the code fills the front of the buffer and later bytes stay as they were. Refused, it writes nothing."
--
-- Assumes nothing.
use Rattle.std.specs.Prelude.{ℕ, ◌*◌, leb, length, drop, List, [], ◌∷◌, ◌++◌, Result, Ok, Err}
use Rattle.std.proofs.Math.Option.{Option, none, some}
use Rattle.rules.specs.Code.{code_length, compile}
use Rattle.rules.specs.CodeBytes.{bytes_of}
use Rattle.rules.specs.Limits.{record_bytes}
use Rattle.rules.specs.Recipe.{recipe}
use Rattle.rules.specs.Refusals.{unless, first_refusal}
use Rattle.rules.specs.Table.{table_tests}
use Rattle.rules.specs.declared.Instruction.{Instruction}
use Rattle.rules.specs.declared.Reason.TheVariants.{CodeBuffer}
use Rattle.rules.specs.declared.Refusal.{Refusal}

unfoldable pub code_of : List ℕ → List Instruction
code_of table = compile 0 (recipe table)

unfoldable pub compile_tests : List ℕ → List ℕ → List (Option Refusal)
compile_tests table buffer =
    table_tests table ++ (unless (leb (record_bytes * code_length (recipe table)) (length buffer)) CodeBuffer 0 ∷ [])

unfoldable pub compile_answer : List ℕ → List ℕ → Result ℕ Refusal
compile_answer table buffer =
    elim (first_refusal (compile_tests table buffer)) [ none ↦ Ok (code_length (recipe table)) | some r ↦ Err r ]

unfoldable pub compile_leaves : List ℕ → List ℕ → List ℕ
compile_leaves table buffer =
    elim (first_refusal (compile_tests table buffer))
    [ none ↦ bytes_of (code_of table) ++ drop (record_bytes * code_length (recipe table)) buffer | some r ↦ buffer ]
