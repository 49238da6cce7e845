-- A status byte above 1 is refused by 7. Assumes nothing.
use Rattle.std.proofs.Common.{arith, ◌≡◌, ◌≤◌, false, ltb, le-ltb, refl}
use Rattle.rules.specs.Checking.{answer_by}
use Rattle.rules.specs.Refusals.{unless}
use Rattle.rules.proofs.status_byte.StatusTryFromU8.try_from.Goals as goal

pub returns-in_default : goal.returns-in_default
unfolding answer_by unless
returns-in_default c =
    let above : 2 ≤ c.args.byte = omega arith in
    let wrong : ltb c.args.byte 2 ≡ false = le-ltb c.args.byte 2 above in
    rw (c.at.ensures, wrong) refl
