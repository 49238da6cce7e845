-- Runs over bytes that meet the bounds of demand 3, the one at two nodes and the other at one, so that neither can be less by one
-- (`Demands` of `salnegris` says so). By computation; what must come was worked out from document 01 by hand.
--
--   opened_one_accepted, just_nine_accepted   both tables are accepted
--   opened_one_cut    Unblock (Val 1), two nodes, from blocked: a recall at its RESET takes 5 steps, 3n - 1
--   just_nine_cut     Val 9, one node, unblocked: a recall at its one instruction makes it throw
--   just_nine_uncut   and without one there it comes to its number
--
-- Assumes nothing.
use Prim.Native.Nat.{ℕ, ◌*◌}
use native.Mathlib.Omega.{arith}
use borrow.Author.Tests.{ne_eqb}
use lib.Dec.{eqb}
use lib.IntN.{pos}
use lib.ListN.{take, replicate}
use mathlib.Core.List.{List, [], ◌∷◌, ◌++◌}
use mathlib.Core.Option.{none}
use mathlib.Core.Path.{◌≡◌, refl, ◌∙◌, fun_ext}
use Rattle.rules.specs.Answers.{status_number, compiled_length, compiled_refusal}
use Rattle.rules.specs.CodeBytes.{instructions}
use Rattle.rules.specs.Compiling.{compile_answer, compile_leaves}
use Rattle.rules.specs.Demand.{AsksNothingFrom, no_recall}
use Rattle.rules.specs.Limits.{record_bytes, stack_bytes}
use Rattle.rules.specs.Machine.{Placing}
use Rattle.rules.specs.Rehearsed.{eight, just_nine}
use Rattle.rules.specs.Refusals.{first_refusal}
use Rattle.rules.specs.Run.{runs}
use Rattle.rules.specs.Running.{run_tests, run_answer}
use Rattle.rules.specs.Schedule.{asks}
use Rattle.rules.specs.declared.Answer.{Answer}
use Rattle.rules.specs.declared.End.{End}
use Rattle.rules.specs.declared.Status.{Status}
use Rattle.rules.specs.declared.Status.TheVariants.{Blocked, Unblocked}
use Rattle.rules.proofs.Bytes.Answered.{run_passed}
use Rattle.std.specs.Prelude.{Ok}
use Rattle.rules.proofs.Computed.Computing.{computing}

-- enough for the three instructions of Unblock (Val 1)
abbrev pub code_buffer : List ℕ
code_buffer = replicate 24 0

abbrev pub stack_buffer : List ℕ
stack_buffer = replicate stack_bytes 0

-- the run of a table's code, as compiling leaves it
abbrev under : List ℕ → Status → List ℕ → Answer
under table i schedule =
    let length : ℕ = compiled_length (compile_answer table code_buffer) in
    run_answer (status_number i) (take (record_bytes * length) (compile_leaves table code_buffer)) schedule stack_buffer

-- ---- Unblock (Val 1): SET 1, PUSH 1, RESET

abbrev pub opened_one : List ℕ
opened_one = eight 1 0 0 0 1 0 0 0 ++ eight 7 0 0 0 0 0 0 0

pub opened_one_accepted : compiled_refusal (compile_answer opened_one code_buffer) ≡ 0
unfolding computing
opened_one_accepted = refl

abbrev pub recall_at_reset : List ℕ
recall_at_reset = 0b00000100 ∷ []

-- three instructions reached, then the number dropped and the status restored
pub opened_one_cut : under opened_one Blocked recall_at_reset ≡ record { outcome = Ok End.Throw; steps = 5; reached = 3 }
unfolding computing
opened_one_cut = refl

-- ---- Val 9: PUSH 9

pub just_nine_accepted : compiled_refusal (compile_answer just_nine code_buffer) ≡ 0
unfolding computing
just_nine_accepted = refl

-- its one instruction asked for, and no other
abbrev pub at_push : Placing
at_push k = eqb k 0

pub at_push_only : AsksNothingFrom 1 at_push
at_push_only k past = ne_eqb k 0 (omega arith)

abbrev nine : List ℕ
nine = take record_bytes (compile_leaves just_nine code_buffer)

passed : first_refusal (run_tests 1 nine stack_buffer) ≡ none
unfolding computing
passed = refl

-- a run depends on what its schedule asks for alone
module _ (schedule : List ℕ) where
  ran_under : (placing : Placing) → asks schedule ≡ placing → {a : Answer} → runs (instructions nine) placing Unblocked ≡ a
      → under just_nine Unblocked schedule ≡ a
  unfolding computing
  ran_under placing asked e = (run_passed 1 nine schedule stack_buffer passed).0 ∙ rw asked e

  cut_there : runs (instructions nine) at_push Unblocked ≡ record { outcome = Ok End.Throw; steps = 1; reached = 1 }
  unfolding computing
  cut_there = refl

  pub just_nine_cut : asks schedule ≡ at_push
      → under just_nine Unblocked schedule ≡ record { outcome = Ok End.Throw; steps = 1; reached = 1 }
  just_nine_cut asked = ran_under at_push asked cut_there

  uncut : runs (instructions nine) no_recall Unblocked ≡ record { outcome = Ok (End.Number (pos 9)); steps = 1; reached = 1 }
  unfolding computing
  uncut = refl

  pub just_nine_uncut : AsksNothingFrom 0 (asks schedule)
      → under just_nine Unblocked schedule ≡ record { outcome = Ok (End.Number (pos 9)); steps = 1; reached = 1 }
  just_nine_uncut silent = ran_under no_recall (fun_ext λ k. silent k (omega arith)) uncut
