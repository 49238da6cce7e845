-- `code::instruction::read` meets its contract: what is answered is by the first test that refuses. Assumes nothing.
use Rattle.std.proofs.Common.{◌≡◌, ◌*◌, ◌∷◌, [], true, false, ◌&&◌, sym, ◌∙◌, Err, le-leb}
use Rattle.std.proofs.lemmas.Bool.{lt-leb}
use mathlib.Core.Bool.{and-false}
use Rattle.rules.specs.Bytes.{all_zero}
use Rattle.rules.specs.Limits.{record_bytes}
use Rattle.rules.proofs.Checking.{first_refuses, second_refuses, both_pass}
use Rattle.code.specs.Opcodes.{opcode_number}
use Rattle.code.specs.Reading.{operand_fits_at}
use Rattle.code.proofs.Reading.{clean, padded, reads_unknown, tests}
use Rattle.code.proofs.instruction.read.Goals as goal
use Rattle.code.proofs.instruction.read.Goals.{Else-greatest-operand}
use Rattle.code.proofs.instruction.read.Goals.{then-padding-ne0-via-then-padding-ne0}
use Rattle.code.proofs.instruction.read.Goals.{then-padding-ne0-via-else-padding-ne0+then-greatest-operand}

pub returns-in_default : goal.returns-in_default
returns-in_default c = rw c.at.ensures (sym (reads_unknown _ _ c.in_default.ensures))

-- ---- the tests 11 and 12, of a known opcode

pub returns-then-padding-ne0 : goal.returns-then-padding-ne0
returns-then-padding-ne0 c =
    let wrong : all_zero c.args.code.now (record_bytes * c.args.a) (1 ∷ 2 ∷ 3 ∷ [])
    && operand_fits_at (opcode_number c.in-Ok.opcode) c.word-operand.result ≡ false =
    elim c.then-padding-ne0.branch [
      | then-padding-ne0-via-then-padding-ne0 w ↦ rw (padded _ _ c.byte.ensures.0 c.half.ensures.0 w.if-padding-ne0.true)
      | then-padding-ne0-via-else-padding-ne0+then-greatest-operand w ↦
          rw (sym (w.greatest.ensures _ c.word-operand.type_inv) ∙ lt-leb _ _ w.if-greatest-operand.true, and-false)
    ] in
    rw c.at-then-padding-ne0.ensures
    (sym (first_refuses Err _ (tests _ _ _ c.in-Ok.ensures c.word-operand.ensures c.requires.1) wrong))

-- both parts of test 11 have passed
right : (c : Else-greatest-operand)
    → all_zero c.args.code.now (record_bytes * c.args.a) (1 ∷ 2 ∷ 3 ∷ [])
    && operand_fits_at (opcode_number c.in-Ok.opcode) c.word-operand.result
    ≡ true
right c =
    rw (
      clean _ _ c.byte.ensures.0 c.half.ensures.0 c.if-padding-ne0.false,
      sym (c.greatest.ensures _ c.word-operand.type_inv) ∙ le-leb _ _ c.if-greatest-operand.false,
    )

pub returns-then-not-target_fits : goal.returns-then-not-target_fits
returns-then-not-target_fits c =
    rw c.at-then-not-target_fits.ensures
    (sym (second_refuses Err _ (tests _ _ _ c.in-Ok.ensures c.word-operand.ensures c.requires.1)
    (right (goal.at.returns-then-not-target_fits c).Else-greatest-operand) (sym c.target_fits.ensures ∙ c.if-not-target_fits.true)))

pub returns : goal.returns
returns c =
    rw c.at-2.ensures.0
    (sym (both_pass Err _ (tests _ _ _ c.in-Ok.ensures c.word-operand.ensures c.requires.1)
    (right (goal.at.returns c).Else-greatest-operand) (sym c.target_fits.ensures ∙ c.if-not-target_fits.false)))
