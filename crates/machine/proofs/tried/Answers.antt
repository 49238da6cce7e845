-- `machine::tried` meets its contract: the tests in their order, then the run, then the front of the buffer cleared. Assumes
-- nothing.
use Prim.Native.Nat.{◌≤◌}
use native.Mathlib.Omega.{arith}
use lib.ListN.{length, take, drop}
use mathlib.Core.List.{[]}
use mathlib.Core.Path.{◌≡◌, sym, ◌∙◌}
use Rattle.std.proofs.lemmas.List.{take-append-drop, length-drop, nil_from_length}
use Rattle.std.proofs.lemmas.Option.{MatchOption-at_some, MatchOption-at_none}
use Rattle.std.proofs.lemmas.Result.{err_from_is_err_and}
use Rattle.rules.specs.Limits.{stack_bytes}
use Rattle.rules.specs.Run.{runs}
use Rattle.machine.proofs.Answering.{status_refused, stack_refused, code_refused, ran, runnable}
use Rattle.machine.proofs.tried.Goals as goal
use Rattle.machine.proofs.tried.Goals.{In_ok-front}

pub returns-in_err-status : goal.returns-in_err-status
returns-in_err-status c =
    let p = err_from_is_err_and c.from_residual.result c.from_residual.ensures.1 in
    let (answer, leaves) =
    status_refused c.args.status c.args.code.now c.args.schedule.now c.args.stack.now (sym c.in_err-status.ensures) in
    record { answer = rw (p.1, p.2) answer; leaves = leaves }

pub returns-in_err-front : goal.returns-in_err-front
returns-in_err-front c =
    let p = err_from_is_err_and c.from_residual-in_err-front.result c.from_residual-in_err-front.ensures.1 in
    let none = c.in_err-front.ensures.ok_part in
    let (answer, leaves) =
    stack_refused c.args.status c.args.code.now c.args.schedule.now c.args.stack.now (sym c.in_ok-status.ensures)
    (MatchOption-at_none _ _ none c.first_chunk_mut.ensures.cases) in
    let reason : c.in_err-front.field-0.0 ≡ c.at.result = cc (rw none at c.in_err-front.ensures.value) in
    record { answer = rw (p.1, p.2, reason, c.at.ensures) answer; leaves = leaves }

-- ---- the front of the buffer
-- It is there, and is what the buffer begins with.

module _ (c : In_ok-front) where
  room : stack_bytes ≤ length c.args.stack.now
  room = (MatchOption-at_some _ _ _ c.in_ok-front.ensures.ok_part c.first_chunk_mut.ensures.cases).enough

  same : c.in_ok-front.front.now ≡ take stack_bytes c.args.stack.now
  same = (MatchOption-at_some _ _ _ c.in_ok-front.ensures.ok_part c.first_chunk_mut.ensures.cases).same

pub returns-in_err-check : goal.returns-in_err-check
returns-in_err-check c =
    let p = err_from_is_err_and c.from_residual-in_err-check.result c.from_residual-in_err-check.ensures.1 in
    let front = (goal.at.returns-in_err-check c).In_ok-front in
    let (answer, leaves) =
    code_refused c.args.status c.args.code.now c.args.schedule.now c.args.stack.now (sym c.in_ok-status.ensures) (room front)
    (sym c.in_err-check.ensures) in
    record {
      answer = rw (p.1, p.2) answer;
      leaves = rw (same front) (take-append-drop stack_bytes c.args.stack.now ∙ leaves);
    }

pub repeat-stopped-requires : goal.repeat-stopped-requires
repeat-stopped-requires c =
    let front = (goal.at.repeat-stopped-requires c).In_ok-front in
    runnable c.args.status c.args.code.now c.args.schedule.now c.args.stack.now (sym c.in_ok-status.ensures) (room front)
    (sym c.in_ok-check.ensures)

pub returns : goal.returns
unfolding runs
returns c =
    let front = (goal.at.returns c).In_ok-front in
    let (answer, leaves) =
    ran c.args.status c.args.code.now c.args.schedule.now c.args.stack.now (sym c.in_ok-status.ensures) (room front)
    (sym c.in_ok-check.ensures) in
    let dropped : drop stack_bytes c.repeat-stopped.new.stack ≡ [] =
    nil_from_length _ (length-drop stack_bytes c.repeat-stopped.new.stack ∙ omega (arith, c.repeat-stopped.array_long)) in
    record {
      answer = rw (c.answer.ensures, c.repeat-stopped.ensures.answered) answer;
      leaves = rw (c.clear.ensures, dropped) leaves;
    }
