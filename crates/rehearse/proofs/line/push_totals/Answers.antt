-- `line::push_totals` meets its contract: what is pushed one after the other, each number in its digits. Assumes nothing.
use Rattle.std.proofs.Common.{append_assoc, refl}
use Rattle.rehearse.proofs.Decimal.{decimal_text}
use Rattle.rehearse.proofs.line.push_totals.Goals as goal

pub returns : goal.returns
returns c =
    let steps = decimal_text _ c.ranges.steps.fits in
    let reached = decimal_text _ c.ranges.reached.fits in
    rw (c.push_str-3.ensures.bytes, c.push-2.ensures.bytes, c.push_str-2.ensures.bytes)
    (rw (c.push.ensures.bytes, c.push_str.ensures.bytes, steps, reached) (simp append_assoc refl))
