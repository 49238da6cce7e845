-- `machine::state::Machine::step` meets its contract: unwinding, cut, or carried out by its rule. Assumes nothing.
use native.Mathlib.Omega.{arith}
use mathlib.Core.Path.{sym, ◌∙◌}
use mir.Syntax.{w32}
use mir.Val.{SFits}
use mir.Facts.{to_z-of_z}
use Rattle.rules.specs.Machine.{execute}
use Rattle.machine.specs.Items.{handler_of}
use Rattle.machine.proofs.Stepping.{or_else_unwinds, unwound, ready, cut, carried_out, thrown}
use Rattle.machine.proofs.state.Machine.step.Goals as goal

-- ---- unwinding

pub returns-in_default : goal.returns-in_default
returns-in_default c =
    unwound c.requires c.args.schedule.now c.args.stack.now (or_else_unwinds _ c.in_default.not-Running) _ c.unwind.ensures

-- ---- cut

pub returns-then-strikes : goal.returns-then-strikes
returns-then-strikes c =
    rw c.thrown.ensures
    (cut c.requires c.args.schedule.now c.args.stack.now c.in-Running.is (sym c.if-strikes.true ∙ c.strikes.ensures))

-- ---- carried out

pub push-requires : goal.push-requires
unfolding handler_of
push-requires c = (ready c.requires c.in-Running.is, omega arith)

pub push-requires-in-Mark : goal.push-requires-in-Mark
unfolding handler_of
push-requires-in-Mark c = (ready c.requires c.in-Running.is, c.in-Mark.ensures.1)

pub push-requires-in-Set : goal.push-requires-in-Set
unfolding handler_of
push-requires-in-Set c = (ready c.requires c.in-Running.is, omega arith)

pub returns-in-Push : goal.returns-in-Push
unfolding execute
returns-in-Push c =
    let fits : SFits w32 c.in-Push.n = omega arith in
    carried_out c.requires c.args.schedule.now c.args.stack.now c.in-Running.is (sym c.if-strikes.false ∙ c.strikes.ensures)
    c.in-Push.ensures.0 _ _
    (rw (to_z-of_z fits) at c.push.ensures)

pub returns-in-Throw : goal.returns-in-Throw
returns-in-Throw c =
    rw c.thrown-in-Throw.ensures
    (carried_out c.requires c.args.schedule.now c.args.stack.now c.in-Running.is (sym c.if-strikes.false ∙ c.strikes.ensures)
    c.in-Throw.ensures.0 _ _
    (thrown _ c.args.stack.now c.args.self))

pub returns-in-Add : goal.returns-in-Add
returns-in-Add c =
    carried_out c.requires c.args.schedule.now c.args.stack.now c.in-Running.is (sym c.if-strikes.false ∙ c.strikes.ensures)
    c.in-Add.ensures.0 _ _ c.add.ensures

pub returns-in-Pop : goal.returns-in-Pop
returns-in-Pop c =
    carried_out c.requires c.args.schedule.now c.args.stack.now c.in-Running.is (sym c.if-strikes.false ∙ c.strikes.ensures)
    c.in-Pop.ensures.0 _ _ c.pop.ensures

pub returns-in-Mark : goal.returns-in-Mark
unfolding execute
returns-in-Mark c =
    carried_out c.requires c.args.schedule.now c.args.stack.now c.in-Running.is (sym c.if-strikes.false ∙ c.strikes.ensures)
    c.in-Mark.ensures.0 _ _ c.push-in-Mark.ensures

pub returns-in-Unmark : goal.returns-in-Unmark
returns-in-Unmark c =
    carried_out c.requires c.args.schedule.now c.args.stack.now c.in-Running.is (sym c.if-strikes.false ∙ c.strikes.ensures)
    c.in-Unmark.ensures.0 _ _ (c.unmark.ensures _)

pub returns-in-Set : goal.returns-in-Set
unfolding execute
returns-in-Set c =
    carried_out c.requires c.args.schedule.now c.args.stack.now c.in-Running.is (sym c.if-strikes.false ∙ c.strikes.ensures)
    c.in-Set.ensures.0 _ _ c.push-in-Set.ensures

pub returns-in-Reset : goal.returns-in-Reset
returns-in-Reset c =
    carried_out c.requires c.args.schedule.now c.args.stack.now c.in-Running.is (sym c.if-strikes.false ∙ c.strikes.ensures)
    c.in-Reset.ensures.0 _ _ c.reset.ensures
