-- `numbers::lanes::sum` meets its contract: the wrapped sum of two residues is the residue of the sum. Assumes nothing.
use Rattle.std.proofs.Common.{◌≡◌, ◌+◌, ◌%◌, ◌^◌, ◌+ℤ◌, ◌∙◌, ap, sym, w32, of_z}
use Rattle.rules.specs.Number.{residue, signed, sum}
use Rattle.numbers.proofs.Signed.{signed_to_z, residue_of_z, residue_sum}
use Rattle.numbers.proofs.lanes.sum.Goals as goal

pub returns : goal.returns
unfolding sum
returns c =
    let bits : (of_z w32 c.args.n + of_z w32 c.args.m) % 2 ^ 32 ≡ residue (c.args.n +ℤ c.args.m) =
    rw (residue_of_z c.ranges.n, residue_of_z c.ranges.m) (sym (residue_sum c.args.n c.args.m)) in
    signed_to_z _ ∙ ap signed bits
