-- `line::refused` meets its contract: what is pushed one after the other, each number in its digits. Assumes nothing.
use Rattle.std.proofs.Common.{append_assoc}
use Rattle.rehearse.proofs.Decimal.{decimal_text}
use Rattle.rehearse.proofs.line.refused.Goals as goal

pub returns : goal.returns
returns c =
    let refusal = decimal_text _ c.ranges.refusal.fits in
    let place = decimal_text _ c.ranges.place.fits in
    rw (c.push_str-3.ensures.bytes, c.push-2.ensures.bytes, c.push_str-2.ensures.bytes)
    (rw (c.push.ensures.bytes, c.push_str.ensures.bytes, c.new-line.ensures, refusal, place, append_assoc))
