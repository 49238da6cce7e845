-- `reading::standard_input` meets its contract: what a call gave stands behind what was read before. Assumes nothing.
use Rattle.std.proofs.Common.{rules, ◌∙◌, sym, ap, Ok}
use Rattle.rehearse.proofs.Turns.{more_consumed}
use Rattle.rehearse.proofs.reading.standard_input.Goals as goal

pub loop-done-preserved : goal.loop-done-preserved
loop-done-preserved g c =
    let before = c.loop-done.invariant in
    let read = c.read-got.ensures in
    let came = sym c.came_to.ensures ∙ c.in_ok-more.was ∙ ap Ok c.in-Some.is in (
      search rules,
      search rules,
      more_consumed _ _ _ _ _ _ _ _ _ _ before.0 (search rules) read.bound read.bytes came before.2,
    )
