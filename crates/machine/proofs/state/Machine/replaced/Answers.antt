-- `machine::state::Machine::replaced` meets its contract: the number is put in the place of the two top items. Assumes nothing.
use native.Mathlib.Omega.{arith}
use mathlib.Core.Path.{◌≡◌}
use Prim.Native.Nat.{◌+◌, ◌-◌}
use mir.Syntax.{w32}
use mir.Val.{SFits}
use mir.Facts.{to_z-of_z}
use borrow.Author.Rules.{rules}
use Rattle.machine.specs.Items.{handler_of}
use Rattle.machine.proofs.state.Machine.replaced.Goals as goal

pub put-requires : goal.put-requires
unfolding handler_of
put-requires c = record { place = omega (arith, c.requires.within.height); operand = search rules }

pub returns : goal.returns
returns c =
    let fits : SFits w32 c.args.n = omega arith in
    let up : c.args.self.height - 2 + 1 ≡ c.args.self.height - 1 = omega (arith, c.requires.two) in
    record { machine = rw c.onward.ensures; items = rw (to_z-of_z fits, up) at c.put.ensures }
