-- `code::check` meets its contract: the size, then the walk over the instructions. Assumes nothing.
use Rattle.std.proofs.Common.{◌≡◌, ◌<◌, true, sym, ◌∙◌, Err}
use Rattle.std.proofs.lemmas.Result.{err_from_is_err_and}
use Rattle.rules.specs.Bytes.{records, whole_records}
use Rattle.rules.specs.Limits.{code_limit}
use Rattle.rules.proofs.Checking.{answer_passed, answer_refused, size_told, size_missing}
use Rattle.rules.proofs.Checking.{walk_begins, walk_goes_on, walk_stops, walk_ends}
use Rattle.code.proofs.Checking.{size_refused, size_passed}
use Rattle.code.proofs.Reading.{told}
use Rattle.code.proofs.check.Goals as goal
use Rattle.code.proofs.check.Goals.{In_ok-length}

pub returns-in_err-length : goal.returns-in_err-length
returns-in_err-length c =
    let tested = rw (c.whole.ensures, c.at.ensures) at c.ok_or.ensures.value in
    let size = size_missing _ _ _ (sym tested ∙ c.in_err-length.was) in
    let p = err_from_is_err_and c.from_residual.result c.from_residual.ensures.1 in
    rw (p.1, p.2, size.1) (sym (size_refused _ size.0))

-- the size has passed
size : (c : In_ok-length) → (whole_records code_limit c.args.code.now ≡ true) × (c.in_ok-length.length ≡ records c.args.code.now)
size c =
    let tested = rw (c.whole.ensures, c.at.ensures) at c.ok_or.ensures.value in
    size_told _ _ _ (sym tested ∙ c.in_ok-length.was)

pub loop-a-init : goal.loop-a-init
loop-a-init c = walk_begins _ _

pub returns-in_err-read : goal.returns-in_err-read
returns-in_err-read c =
    let whole = size (goal.at.returns-in_err-read c).In_ok-length in
    let here : c.loop-a.a < records c.args.code.now = rw whole.1 at c.loop-a-test.true in
    let refused = walk_stops c.loop-a.invariant here (told _ _ (sym c.read.ensures ∙ c.in_err-read.was)) in
    let p = err_from_is_err_and c.from_residual-in_err-read.result c.from_residual-in_err-read.ensures.1 in
    rw (p.1, p.2) (sym (size_passed _ whole.0 ∙ answer_refused Err _ refused))

pub loop-a-preserved : goal.loop-a-preserved
loop-a-preserved c =
    let whole = size (goal.at.loop-a-preserved c).In_ok-length in
    let here : c.loop-a.a < records c.args.code.now = rw whole.1 at c.loop-a-test.true in
    walk_goes_on c.loop-a.invariant here (told _ _ (sym c.read.ensures ∙ c.in_ok-read.was))

pub returns : goal.returns
returns c =
    let whole = size (goal.at.returns c).In_ok-length in
    let passes = walk_ends c.loop-a.invariant (rw whole.1 at c.loop-a-test.false) in
    rw whole.1 (sym (size_passed _ whole.0 ∙ answer_passed Err _ passes))
