-- Every answer fits the fields that a C caller sees, whatever the bytes.
--
--   compile_fits   of compiling
--   run_fits       of running
--
-- Assumes nothing.
use Prim.Native.Nat.{ℕ, ◌^◌, ◌<◌}
use native.Mathlib.Omega.{arith}
use mathlib.Core.List.{List}
use mathlib.Core.Option.{Option, none, some}
use mathlib.Core.Path.{◌≡◌, refl}
use Rattle.rules.specs.Answers.{compiled_length}
use Rattle.rules.specs.Compiling.{compile_tests, compile_answer}
use Rattle.rules.specs.Refusals.{first_refusal}
use Rattle.rules.specs.Running.{run_answer}
use Rattle.rules.specs.declared.Refusal.{Refusal}
use Rattle.rules.proofs.Bytes.AnswerBounds.{compile_place, run_small}
use Rattle.rules.proofs.Bytes.Answered.{compile_refused}
use Rattle.salnegris.specs.Fields.{CompiledFits, AnswerFits}
use Rattle.salnegris.proofs.Accepted.{Passes, code_length_lem, short_code}

module _ (table buffer : List ℕ) where
  length_fits_by : (first : Option Refusal) → first_refusal (compile_tests table buffer) ≡ first
      → compiled_length (compile_answer table buffer) < 2 ^ 32
  unfolding compiled_length
  length_fits_by none e =
      let all : Passes table buffer = record { tests = e } in
      omega (arith, code_length_lem all, short_code all)
  length_fits_by (some r) e = rw (compile_refused table buffer e).0 (omega arith)

  pub compile_fits : CompiledFits (compile_answer table buffer)
  compile_fits = record {
    length = length_fits_by (first_refusal (compile_tests table buffer)) refl;
    place = omega (arith, compile_place table buffer);
  }

pub run_fits : (status : ℕ) (code schedule stack : List ℕ) → AnswerFits (run_answer status code schedule stack)
run_fits status code schedule stack =
    let small = run_small status code schedule stack in
    record { place = omega arith; steps = omega arith; reached = omega arith }
