-- What a rehearsal comes to, by what compiling answers of its table.
--
--   compiled            what compiling answers, in the buffer of a rehearsal
--   line_refused        refused, the line is that of the refusal
--   rehearse_accepted   accepted, the rehearsal comes to what the run of the code answers
--   code_fits           and the code lies within the buffer
--
-- Assumes nothing.
use Prim.Native.Nat.{ℕ, ◌*◌, ◌≤◌}
use native.Mathlib.Omega.{arith}
use lib.ListN.{take, replicate, length-replicate}
use mathlib.Core.List.{List}
use mathlib.Core.Path.{◌≡◌, refl}
use Rattle.rules.specs.Answers.{compiled_length, compiled_refusal, compiled_place}
use Rattle.rules.specs.Compiling.{compile_answer, compile_leaves}
use Rattle.rules.specs.Limits.{record_bytes, code_limit, stack_bytes}
use Rattle.rules.specs.Line.{refused_line, outcome_line, answer_line}
use Rattle.rules.specs.Rehearsal.{rehearse}
use Rattle.rules.specs.Running.{run_answer}
use Rattle.rules.proofs.Bytes.Answered.{compile_passed}
use Rattle.std.specs.Prelude.{Result, Ok, Err}
use Rattle.salnegris.proofs.Accepted.{passes, code_length_lem, buffer_room}
use Rattle.rules.specs.declared.Refusal.{Refusal}

abbrev buffer : List ℕ
buffer = replicate code_limit 0

abbrev pub compiled : List ℕ → Result ℕ Refusal
compiled table = compile_answer table buffer

pub code_fits : (table : List ℕ) → compiled_refusal (compiled table) ≡ 0
    → record_bytes * compiled_length (compiled table) ≤ code_limit
code_fits table accepted =
    let all = passes table buffer accepted in
    omega (arith, code_length_lem all, buffer_room all, length-replicate {A = ℕ} code_limit 0)

module _ (status : ℕ) (table schedule : List ℕ) where
  refused_by : (c : Result ℕ Refusal) → compiled table ≡ c → (compiled_refusal c ≡ 0 → ⊥)
      → refused_line (compiled_refusal c) (compiled_place c) ≡ answer_line (rehearse status table schedule)
  unfolding compiled_refusal compiled_place rehearse answer_line outcome_line
  refused_by (Ok n) e refused = absurd (refused refl)
  refused_by (Err r) e refused = rw (e, rehearse)

  pub line_refused : (compiled_refusal (compiled table) ≡ 0 → ⊥)
      → refused_line (compiled_refusal (compiled table)) (compiled_place (compiled table))
      ≡ answer_line (rehearse status table schedule)
  line_refused = refused_by (compiled table) refl

  pub rehearse_accepted : compiled_refusal (compiled table) ≡ 0
      → run_answer status (take (record_bytes * compiled_length (compiled table)) (compile_leaves table buffer)) schedule
      (replicate stack_bytes 0)
      ≡ rehearse status table schedule
  unfolding compiled_length rehearse
  rehearse_accepted accepted = rw ((compile_passed table buffer (passes table buffer accepted).tests).0, rehearse)
