-- `table::uses::Uses::check` meets its contract. Assumes nothing.
use Rattle.std.proofs.Common.{◌-◌, ◌<◌, Err, sym, arith, length-take, get_or-take}
use Rattle.rules.proofs.Checking.{answer_passed, answer_refused, walk_begins, walk_goes_on, walk_stops, walk_ends}
use Rattle.table.proofs.Tally.{count_wrong, count_right}
use Rattle.table.proofs.uses.Uses.check.Goals as goal

pub loop-k-init : goal.loop-k-init
loop-k-init c = walk_begins _ _

pub returns-then-count-ne1 : goal.returns-then-count-ne1
returns-then-count-ne1 c =
    let before : c.loop-k.k < c.args.nodes - 1 = omega (arith, simp length-take at c.loop-k-test.true) in
    let wrong = count_wrong c.args.self.now.counts c.loop-k.k (rw get_or-take at c.if-count-ne1.true) in
    rw c.at.ensures (sym (answer_refused Err _ (walk_stops c.loop-k.invariant before wrong)))

pub loop-k-preserved : goal.loop-k-preserved
loop-k-preserved c =
    let before : c.loop-k.k < c.args.nodes - 1 = omega (arith, simp length-take at c.loop-k-test.true) in
    walk_goes_on c.loop-k.invariant before (count_right _ _ (rw get_or-take at c.if-count-ne1.false))

pub returns : goal.returns
returns c = sym (answer_passed Err _ (walk_ends c.loop-k.invariant (omega (arith, simp length-take at c.loop-k-test.false))))
