-- `numbers::lanes::residue` meets its contract: std takes the bits that the definition takes. Assumes nothing.
use Rattle.std.proofs.Common.{to_z-of_z}
use Rattle.numbers.proofs.Signed.{residue_of_z}
use Rattle.numbers.proofs.lanes.residue.Goals as goal

pub returns : goal.returns
returns c = rw (c.cast_unsigned.ensures, to_z-of_z c.ranges.n) (residue_of_z c.ranges.n)
