-- The bytes of a code.
--
--   length_instruction_bytes   an instruction has eight
--   length_bytes_of            a code has eight an instruction
--   length_bytes_of_compile    compiled code has eight times its `code_length`
--   bytes_of_append            one code's bytes after another's
--
-- Assumes nothing.
use Prim.Native.Nat.{ℕ, ◌*◌}
use native.Mathlib.Omega.{arith}
use lib.ListN.{length, length-append}
use mathlib.Core.List.{List, [], ◌∷◌, ◌++◌, append_assoc}
use mathlib.Core.Path.{◌≡◌, refl}
use Rattle.rules.specs.Bytes.{word_bytes}
use Rattle.rules.specs.Code.{code_length, compile}
use Rattle.rules.specs.CodeBytes.{instruction_record, instruction_bytes, bytes_of}
use Rattle.rules.specs.Expression.{Expression}
use Rattle.rules.specs.Limits.{record_bytes}
use Rattle.rules.specs.declared.Instruction.{Instruction}
use Rattle.rules.specs.declared.Instruction.TheVariants.{Push, Throw, Add, Pop, Mark, Unmark, Set, Reset}
use Rattle.rules.proofs.Theory.Holding.{length_compile}

pub length_instruction_bytes : (x : Instruction) → length (instruction_bytes x) ≡ record_bytes
unfolding instruction_bytes instruction_record word_bytes
length_instruction_bytes (Push n) = refl
length_instruction_bytes Throw = refl
length_instruction_bytes Add = refl
length_instruction_bytes Pop = refl
length_instruction_bytes (Mark t) = refl
length_instruction_bytes (Unmark t) = refl
length_instruction_bytes (Set i) = refl
length_instruction_bytes Reset = refl

pub length_bytes_of : (xs : List Instruction) → length (bytes_of xs) ≡ record_bytes * length xs
unfolding bytes_of
length_bytes_of [] = refl
length_bytes_of (x ∷ xs) = simp (length-append, length_instruction_bytes, length_bytes_of xs) (omega arith)

pub length_bytes_of_compile : (a : ℕ) (e : Expression) → length (bytes_of (compile a e)) ≡ record_bytes * code_length e
length_bytes_of_compile a e = simp (length_bytes_of, length_compile)

pub bytes_of_append : (xs ys : List Instruction) → bytes_of (xs ++ ys) ≡ bytes_of xs ++ bytes_of ys
unfolding bytes_of
bytes_of_append [] ys = refl
bytes_of_append (x ∷ xs) ys = rw (append_assoc, bytes_of_append xs ys)
