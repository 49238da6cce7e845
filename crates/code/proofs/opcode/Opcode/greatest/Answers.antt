-- `code::opcode::Opcode::greatest` meets its contract, by the law of the greatest operands. Assumes nothing.
use Rattle.code.proofs.Opcodes.{opcode_known, operand_fits_lem}
use Rattle.code.proofs.opcode.Opcode.greatest.Goals as goal

pub returns : goal.returns
returns c = λ word small. rw c.number.ensures (operand_fits_lem word small (opcode_known c.args.self))
