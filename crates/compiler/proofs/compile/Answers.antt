-- `compiler::compile` meets its contract: the table checked, its last node measured, then emitted. Assumes nothing.
use Rattle.std.proofs.Common.{arith, sym, ◌∙◌}
use Rattle.std.proofs.lemmas.Result.{err_from_is_err_and}
use Rattle.table.proofs.Acceptance.{last_node}
use Rattle.compiler.proofs.Compiling.{last_measurable, last_short, last_emittable, table_refused, buffer_refused, compiled}
use Rattle.compiler.proofs.compile.Goals as goal

pub returns-in_err-nodes : goal.returns-in_err-nodes
returns-in_err-nodes c =
    let err = err_from_is_err_and c.from_residual.result c.from_residual.ensures.1 in
    rw (err.1, err.2) (table_refused _ c.args.code.now (sym c.check.ensures ∙ c.in_err-nodes.was))

pub overflow_sub-last : goal.overflow_sub-last
overflow_sub-last c = (last_node _ (sym c.check.ensures ∙ c.in_ok-nodes.was)).0

pub measure-length-requires : goal.measure-length-requires
measure-length-requires c = last_measurable _ (sym c.check.ensures ∙ c.in_ok-nodes.was)

pub overflow_mul-length : goal.overflow_mul-length
overflow_mul-length c = omega (arith, last_short _ (sym c.check.ensures ∙ c.in_ok-nodes.was), c.measure-length.ensures)

pub returns-then-code-length : goal.returns-then-code-length
returns-then-code-length c =
    let checked = sym c.check.ensures ∙ c.in_ok-nodes.was in
    rw c.at.ensures (buffer_refused _ checked c.args.code.now c.measure-length.ensures c.if-code-length.true)

pub emit-requires : goal.emit-requires
emit-requires c = last_emittable _ (sym c.check.ensures ∙ c.in_ok-nodes.was) _ c.measure-length.ensures c.if-code-length.false

pub returns : goal.returns
returns c =
    let checked = sym c.check.ensures ∙ c.in_ok-nodes.was in
    compiled _ checked c.args.code.now c.measure-length.ensures c.if-code-length.false c.emit.ensures
