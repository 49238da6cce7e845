-- `machine::item::at` meets its contract, tag by tag. Assumes nothing.
use native.Mathlib.Omega.{arith}
use mathlib.Core.Path.{sym, ◌∙◌}
use mir.Syntax.{w32}
use mir.Val.{SFits}
use mir.Facts.{to_z-of_z}
use Rattle.machine.specs.Items.{item_tagged}
use Rattle.machine.proofs.Stacked.{item_read, tagged_other}
use Rattle.machine.proofs.item.at.Goals as goal

pub returns-in-0 : goal.returns-in-0
unfolding item_tagged
returns-in-0 c =
    let fits : SFits w32 c.signed.result = record { sfits = c.signed.type_inv } in
    rw (to_z-of_z fits, c.signed.ensures)
    (item_read _ _ (sym c.in-0.is ∙ c.byte.ensures.0) c.word-operand.ensures)

pub returns-in-1 : goal.returns-in-1
unfolding item_tagged
returns-in-1 c = item_read _ _ (sym c.in-1.is ∙ c.byte.ensures.0) c.word-operand.ensures

pub returns-in-2 : goal.returns-in-2
unfolding item_tagged
returns-in-2 c = item_read _ _ (sym c.in-2.is ∙ c.byte.ensures.0) c.word-operand.ensures

pub returns-in_default : goal.returns-in_default
returns-in_default c =
    sym (tagged_other _ c.word-operand.result (λ e. omega (arith, e)) (λ e. omega (arith, e)) (λ e. omega (arith, e)))
    ∙ item_read _ _ c.byte.ensures.0 c.word-operand.ensures
