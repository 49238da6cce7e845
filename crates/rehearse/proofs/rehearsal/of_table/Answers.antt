-- `rehearsal::of_table` meets its contract: refused, the line is the refusal's; accepted, the code lies within its buffer and the
-- line is its run's. Assumes nothing.
use Rattle.std.proofs.Common.{arith, ℕ, List, ◌*◌, ◌≤◌, ◌≡◌, sym, length}
use lib.Seq.{length-take-le}
use Rattle.rules.specs.Answers.{compiled_refusal}
use Rattle.rules.specs.Limits.{record_bytes, code_limit}
use Rattle.salnegris.specs.Fields.{compiled_fields}
use Rattle.salnegris.specs.declared.CompiledFields.{CompiledFields}
use Rattle.rehearse.proofs.Fields.{fields_line_lem}
use Rattle.rehearse.proofs.Tables.{compiled, line_refused, rehearse_accepted, code_fits}
use Rattle.rehearse.proofs.rehearsal.of_table.Goals as goal

-- what compiling answered and left, where it accepted the table
module _ (table : List ℕ) (fields : CompiledFields) (answer : fields ≡ compiled_fields (compiled table))
    (none : fields.refusal ≡ 0) where
  accepted : compiled_refusal (compiled table) ≡ 0
  accepted = rw answer at none

  within : (code : List ℕ) → length code ≡ code_limit → record_bytes * fields.length ≤ length code
  within code long = rw answer (omega (arith, code_fits table accepted, long))

pub returns-then-compiled-ne0 : goal.returns-then-compiled-ne0
returns-then-compiled-ne0 c =
    let answer = c.salnegris_compile-compiled.ensures.answer in
    let line = line_refused c.args.status c.args.table.now c.args.schedule.now (rw answer at c.if-compiled-ne0.true) in
    rw (answer, line) at c.refused.ensures

pub slice_bounds-code-end : goal.slice_bounds-code-end
slice_bounds-code-end c =
    let made = c.salnegris_compile-compiled in
    within c.args.table.now made.result made.ensures.answer c.if-compiled-ne0.false _ made.auto.code

pub slice_bounds-salnegris_run-end : goal.slice_bounds-salnegris_run-end
slice_bounds-salnegris_run-end c =
    let made = c.salnegris_compile-compiled in
    sym (length-take-le _ _ (within c.args.table.now made.result made.ensures.answer c.if-compiled-ne0.false _ made.auto.code))

pub returns : goal.returns
returns c =
    let made = c.salnegris_compile-compiled in
    let accepted = accepted c.args.table.now made.result made.ensures.answer c.if-compiled-ne0.false in
    let rehearsed = rehearse_accepted c.args.status c.args.table.now c.args.schedule.now accepted in
    let fields = rw (made.ensures.answer, made.ensures.leaves, rehearsed) at c.salnegris_run-answer.ensures.answer in
    rw (fields, fields_line_lem) at c.answer.ensures
