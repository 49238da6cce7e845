-- `machine::item::put` meets its contract, item by item. Assumes nothing.
use native.Mathlib.Omega.{arith}
use mathlib.Core.Path.{◌≡◌, sym, ap, ◌∙◌}
use mir.Syntax.{w32}
use mir.Val.{SFits}
use mir.Facts.{to_z-of_z}
use Rattle.rules.specs.declared.Item.TheVariants.{Number, Saved}
use Rattle.machine.specs.Items.{item_tagged, handler_of}
use Rattle.machine.proofs.Stores.{tagged_number, stored}
use Rattle.machine.proofs.item.put.Goals as goal

pub overflow_cast-target : goal.overflow_cast-target
unfolding handler_of
overflow_cast-target c = omega (arith, rw c.in-Handler.is at c.requires.operand)

pub returns-in-Number : goal.returns-in-Number
returns-in-Number c =
    let fits : SFits w32 c.in-Number.n = omega arith in
    let number : item_tagged 0 c.residue.result ≡ Number c.in-Number.n =
    rw (c.residue.ensures, to_z-of_z fits) (tagged_number fits) in
    stored _ _ _ _ 0 c.residue.result c.told-stack c.requires.place c.residue.type_inv (number ∙ sym c.in-Number.is) c.put.ensures

pub returns-in-Handler : goal.returns-in-Handler
unfolding item_tagged handler_of
returns-in-Handler c =
    stored _ _ _ _ 1 c.in-Handler.target c.told-stack c.requires.place (rw c.in-Handler.is at c.requires.operand)
    (sym c.in-Handler.is)
    c.put-in-Handler.ensures

pub returns-in-Blocked : goal.returns-in-Blocked
unfolding item_tagged
returns-in-Blocked c =
    let saved = c.in-Saved.is ∙ ap Saved c.in-Blocked.is in
    stored _ _ _ _ 2 0 c.told-stack c.requires.place (omega arith) (sym saved) c.put-in-Blocked.ensures

pub returns-in-Unblocked : goal.returns-in-Unblocked
unfolding item_tagged
returns-in-Unblocked c =
    let saved = c.in-Saved.is ∙ ap Saved c.in-Unblocked.is in
    stored _ _ _ _ 3 0 c.told-stack c.requires.place (omega arith) (sym saved) c.put-in-Unblocked.ensures
