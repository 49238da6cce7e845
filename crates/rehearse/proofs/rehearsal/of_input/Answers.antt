-- `rehearsal::of_input` meets its contract, by the length of the input. Assumes nothing.
use Rattle.std.proofs.Common.{arith, ◌≡◌, ◌∙◌}
use Rattle.rules.specs.Bytes.{half_at}
use Rattle.rules.specs.Rehearsal.{table_length}
use Rattle.rehearse.proofs.Inputs.{line_under_three, line_too_short, line_of_parts}
use Rattle.rehearse.proofs.rehearsal.of_input.Goals as goal

pub returns-in_default : goal.returns-in_default
returns-in_default c = c.refused.ensures ∙ line_under_three _ c.in_default.len_below

pub returns-in_default-split_at_checked : goal.returns-in_default-split_at_checked
unfolding half_at
returns-in_default-split_at_checked c =
    let announced : c.from_le_bytes-length.result ≡ table_length c.args.input.now = omega (arith, c.from_le_bytes-length.ensures) in
    c.refused-in_default-split_at_checked.ensures
    ∙ line_too_short _ _ announced c.in-len3-up.len_at_least c.in_default-split_at_checked.ensures.cases

pub returns : goal.returns
unfolding half_at
returns c =
    let announced : c.from_le_bytes-length.result ≡ table_length c.args.input.now = omega (arith, c.from_le_bytes-length.ensures) in
    let parts = c.in-Some in
    rw c.of_table.ensures
    (line_of_parts _ _ parts.table.now parts.schedule.now announced c.in-len3-up.len_at_least parts.ensures.cases)
