-- `table::check` meets its contract: the size, the nodes upward, then the uses. Assumes nothing.
use Rattle.std.proofs.Common.{sym, ◌∙◌}
use Rattle.std.proofs.lemmas.Result.{err_from_is_err_and}
use Rattle.table.proofs.Checking.{sized, size_refused}
use Rattle.table.proofs.Walk.{nodes_begin, nodes_room, nodes_go_on, nodes_stop, nodes_end}
use Rattle.table.proofs.check.Goals as goal

pub returns-in_err-nodes : goal.returns-in_err-nodes
returns-in_err-nodes c =
    let err = err_from_is_err_and c.from_residual.result c.from_residual.ensures.1 in
    rw (err.1, err.2) (sym (size_refused _ _ (rw c.whole.ensures at (sym c.ok_or.ensures.value ∙ c.in_err-nodes.was)) c.at.ensures))

pub loop-j-init : goal.loop-j-init
loop-j-init c =
    rw c.none-uses.ensures (nodes_begin (sized _ _ (rw c.whole.ensures at (sym c.ok_or.ensures.value ∙ c.in_ok-nodes.was))))

pub returns-in_err-read : goal.returns-in_err-read
returns-in_err-read c =
    let err = err_from_is_err_and c.from_residual-in_err-read.result c.from_residual-in_err-read.ensures.1 in
    rw (err.1, err.2) (sym (nodes_stop c.loop-j.invariant c.loop-j-test.true (sym c.read.ensures ∙ c.in_err-read.was)))

pub count-requires : goal.count-requires
count-requires c = nodes_room c.loop-j.invariant c.loop-j-test.true (sym c.read.ensures ∙ c.in_ok-read.was)

pub loop-j-preserved : goal.loop-j-preserved
loop-j-preserved c =
    rw c.count.ensures (nodes_go_on c.loop-j.invariant c.loop-j-test.true (sym c.read.ensures ∙ c.in_ok-read.was))

pub returns : goal.returns
returns c = c.check.ensures ∙ sym (nodes_end c.loop-j.invariant c.loop-j-test.false)
