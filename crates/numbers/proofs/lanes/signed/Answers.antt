-- `numbers::lanes::signed` meets its contract: std reads a signed number as the definition does. Assumes nothing.
use Rattle.std.proofs.Common.{to_z-of_z, w32}
use Rattle.numbers.proofs.Signed.{signed_to_z}
use Rattle.numbers.proofs.lanes.signed.Goals as goal

pub returns : goal.returns
returns c = rw (to_z-of_z {w = w32} (record { sfits = c.cast_signed.type_inv }), c.cast_signed.ensures) (signed_to_z c.args.word)
