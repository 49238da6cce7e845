-- `compiler::emit::emit` meets its contract, kind by kind. What each call and each store asks and comes to is said in `Emitting`.
-- Assumes nothing.
use Rattle.std.proofs.Common.{arith, rules, ◌≡◌, to_z, of_z, w32}
use Rattle.rules.specs.Code.{compile}
use Rattle.rules.specs.Recipe.{of_node}
use Rattle.compiler.proofs.Emitting.{reached, val_spot, val_emitted, throw_spot, throw_emitted}
use Rattle.compiler.proofs.Emitting.{add_left, add_right, add_spot, add_emitted}
use Rattle.compiler.proofs.Emitting.{seqn_left, seqn_spot, seqn_right, seqn_emitted}
use Rattle.compiler.proofs.Emitting.{catch_left, catch_right, catch_mark, catch_unmark, catch_emitted}
use Rattle.compiler.proofs.Emitting.{scope_set, scope_left, scope_reset, scope_emitted}
use Rattle.compiler.proofs.emit.+emit.Goals as goal

-- ---- Val, Throw

pub place-requires : goal.place-requires
place-requires t c = val_spot (reached (c.decreases, c.requires) c.at.ensures c.in-Val.is) _

pub place-requires-in-Throw : goal.place-requires-in-Throw
place-requires-in-Throw t c = throw_spot (reached (c.decreases, c.requires) c.at.ensures c.in-Throw.is)

pub returns-in-Val : goal.returns-in-Val
returns-in-Val t c =
    let here = reached (c.decreases, c.requires) c.at.ensures c.in-Val.is in
    let same : to_z w32 (of_z w32 c.in-Val.n) ≡ c.in-Val.n = search rules in
    val_emitted here (rw same at c.place.ensures)

pub returns-in-Throw : goal.returns-in-Throw
returns-in-Throw t c = throw_emitted (reached (c.decreases, c.requires) c.at.ensures c.in-Throw.is) c.place-in-Throw.ensures

-- ---- Add

pub emit-middle-requires : goal.emit-middle-requires
emit-middle-requires t c = add_left (reached (c.decreases, c.requires) c.at.ensures c.in-Add.is)

pub emit-end-requires : goal.emit-end-requires
emit-end-requires t c = add_right (reached (c.decreases, c.requires) c.at.ensures c.in-Add.is) c.emit-middle.ensures

pub place-requires-in-Add : goal.place-requires-in-Add
place-requires-in-Add t c =
    add_spot (reached (c.decreases, c.requires) c.at.ensures c.in-Add.is) c.emit-middle.ensures c.emit-end.ensures

pub returns-in-Add : goal.returns-in-Add
returns-in-Add t c =
    let here = reached (c.decreases, c.requires) c.at.ensures c.in-Add.is in
    add_emitted here c.emit-middle.ensures c.emit-end.ensures c.place-in-Add.ensures

-- ---- Seqn

pub emit-middle-requires-in-Seqn : goal.emit-middle-requires-in-Seqn
emit-middle-requires-in-Seqn t c = seqn_left (reached (c.decreases, c.requires) c.at.ensures c.in-Seqn.is)

pub place-next-requires : goal.place-next-requires
place-next-requires t c = seqn_spot (reached (c.decreases, c.requires) c.at.ensures c.in-Seqn.is) c.emit-middle-in-Seqn.ensures

pub emit-requires : goal.emit-requires
emit-requires t c =
    seqn_right (reached (c.decreases, c.requires) c.at.ensures c.in-Seqn.is) c.emit-middle-in-Seqn.ensures c.place-next.ensures

pub returns-in-Seqn : goal.returns-in-Seqn
returns-in-Seqn t c =
    let here = reached (c.decreases, c.requires) c.at.ensures c.in-Seqn.is in
    seqn_emitted here c.emit-middle-in-Seqn.ensures c.place-next.ensures c.emit.ensures

-- ---- Catch

pub emit-middle-requires-in-Catch : goal.emit-middle-requires-in-Catch
emit-middle-requires-in-Catch t c = catch_left (reached (c.decreases, c.requires) c.at.ensures c.in-Catch.is)

pub overflow_add-handler : goal.overflow_add-handler
overflow_add-handler t c =
    let here = reached (c.decreases, c.requires) c.at.ensures c.in-Catch.is in
    omega arith

pub emit-end-requires-in-Catch : goal.emit-end-requires-in-Catch
emit-end-requires-in-Catch t c =
    catch_right (reached (c.decreases, c.requires) c.at.ensures c.in-Catch.is) c.emit-middle-in-Catch.ensures

pub place-requires-in-Catch : goal.place-requires-in-Catch
place-requires-in-Catch t c =
    let here = reached (c.decreases, c.requires) c.at.ensures c.in-Catch.is in
    let spot = catch_mark here c.emit-middle-in-Catch.ensures c.emit-end-in-Catch.ensures in
    record { room = spot.room; target = omega arith }

pub place-requires-in-Catch-2 : goal.place-requires-in-Catch-2
place-requires-in-Catch-2 t c =
    let here = reached (c.decreases, c.requires) c.at.ensures c.in-Catch.is in
    let spot = catch_unmark here c.emit-middle-in-Catch.ensures c.emit-end-in-Catch.ensures c.place-in-Catch.ensures in
    record { room = spot.room; target = omega arith }

pub returns-in-Catch : goal.returns-in-Catch
returns-in-Catch t c =
    let here = reached (c.decreases, c.requires) c.at.ensures c.in-Catch.is in
    catch_emitted here c.emit-middle-in-Catch.ensures c.emit-end-in-Catch.ensures c.place-in-Catch.ensures
    c.place-in-Catch-2.ensures

-- ---- Block

pub place-inner-requires : goal.place-inner-requires
place-inner-requires t c =
    let here = reached (c.decreases, c.requires) c.at.ensures c.in-Block.is in
    scope_set here here.operands _

pub emit-end-requires-in-Block : goal.emit-end-requires-in-Block
emit-end-requires-in-Block t c =
    let here = reached (c.decreases, c.requires) c.at.ensures c.in-Block.is in
    scope_left here here.operands c.place-inner.ensures

pub place-requires-in-Block : goal.place-requires-in-Block
place-requires-in-Block t c =
    let here = reached (c.decreases, c.requires) c.at.ensures c.in-Block.is in
    scope_reset here here.operands c.place-inner.ensures c.emit-end-in-Block.ensures

pub returns-in-Block : goal.returns-in-Block
unfolding of_node compile
returns-in-Block t c =
    let here = reached (c.decreases, c.requires) c.at.ensures c.in-Block.is in
    scope_emitted here here.operands c.place-inner.ensures c.emit-end-in-Block.ensures (rw here.said.expression)
    c.place-in-Block.ensures

-- ---- Unblock

pub place-inner-requires-in-Unblock : goal.place-inner-requires-in-Unblock
place-inner-requires-in-Unblock t c =
    let here = reached (c.decreases, c.requires) c.at.ensures c.in-Unblock.is in
    scope_set here here.operands _

pub emit-end-requires-in-Unblock : goal.emit-end-requires-in-Unblock
emit-end-requires-in-Unblock t c =
    let here = reached (c.decreases, c.requires) c.at.ensures c.in-Unblock.is in
    scope_left here here.operands c.place-inner-in-Unblock.ensures

pub place-requires-in-Unblock : goal.place-requires-in-Unblock
place-requires-in-Unblock t c =
    let here = reached (c.decreases, c.requires) c.at.ensures c.in-Unblock.is in
    scope_reset here here.operands c.place-inner-in-Unblock.ensures c.emit-end-in-Unblock.ensures

pub returns-in-Unblock : goal.returns-in-Unblock
unfolding of_node compile
returns-in-Unblock t c =
    let here = reached (c.decreases, c.requires) c.at.ensures c.in-Unblock.is in
    scope_emitted here here.operands c.place-inner-in-Unblock.ensures c.emit-end-in-Unblock.ensures (rw here.said.expression)
    c.place-in-Unblock.ensures
