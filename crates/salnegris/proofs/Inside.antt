-- A lent buffer is as long after a call as before it.
--
--   compile_inside   the code buffer, after compiling
--   run_inside       the stack buffer, after running
--
-- Assumes nothing.
use Prim.Native.Nat.{ℕ, ◌≤◌}
use native.Mathlib.Omega.{arith}
use borrow.Author.Tests.{leb-true}
use lib.ListN.{length, length-append, length-drop}
use mathlib.Core.List.{List, []}
use mathlib.Core.Option.{Option, none, some}
use mathlib.Core.Path.{◌≡◌, refl}
use Rattle.rules.specs.Compiling.{code_of, compile_tests, compile_leaves}
use Rattle.rules.specs.Limits.{stack_bytes}
use Rattle.rules.specs.Recipe.{recipe}
use Rattle.rules.specs.Refusals.{first_refusal}
use Rattle.rules.specs.Running.{run_tests, run_leaves}
use Rattle.rules.specs.declared.Reason.TheVariants.{StackBuffer}
use Rattle.rules.specs.declared.Refusal.{Refusal}
use Rattle.rules.proofs.Bytes.Answered.{compile_passed, compile_refused, run_passed, run_refused}
use Rattle.rules.proofs.Bytes.CodeBytes.{length_bytes_of_compile}
use Rattle.rules.proofs.Refusals.{unless_passed, first_none}
use Rattle.salnegris.proofs.Accepted.{Passes, buffer_room}

module _ (table buffer : List ℕ) where
  compile_inside_by : (first : Option Refusal) → first_refusal (compile_tests table buffer) ≡ first
      → length (compile_leaves table buffer) ≡ length buffer
  unfolding code_of
  compile_inside_by none e =
      let all : Passes table buffer = record { tests = e } in
      rw (compile_passed table buffer e).1
      (simp (length-append, length-drop, length_bytes_of_compile 0 (recipe table)) (omega (arith, buffer_room all)))
  compile_inside_by (some r) e = rw (compile_refused table buffer e).1

  pub compile_inside : length (compile_leaves table buffer) ≡ length buffer
  compile_inside = compile_inside_by (first_refusal (compile_tests table buffer)) refl

module _ (status : ℕ) (code stack : List ℕ) where
  stack_room : first_refusal (run_tests status code stack) ≡ none → stack_bytes ≤ length stack
  unfolding run_tests
  stack_room e = leb-true _ _ (unless_passed _ StackBuffer 0 (first_none _ _ (first_none _ _ e).1).0)

  run_inside_by : (first : Option Refusal) → first_refusal (run_tests status code stack) ≡ first
      → length (run_leaves status code stack) ≡ length stack
  run_inside_by none e = rw (run_passed status code [] stack e).1 (simp length-drop (omega (arith, stack_room e)))
  run_inside_by (some r) e = rw (run_refused status code [] stack e).1

  pub run_inside : length (run_leaves status code stack) ≡ length stack
  run_inside = run_inside_by (first_refusal (run_tests status code stack)) refl
