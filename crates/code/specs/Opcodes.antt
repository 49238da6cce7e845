-- The opcodes as the source names them, by the numbers of document 01's list of opcodes (`CodeBytes.opcodes`).
--
--   opcode_number   1 to 8
--   Decodes         a byte is decoded to the opcode of its number, or it has no row in the list
--
-- Assumes nothing.
use Rattle.std.specs.Prelude.{ℕ, Result, MatchResult, ◌≡◌}
use Rattle.std.proofs.Math.Option.{none}
use Rattle.rules.specs.Bytes.{row_numbered}
use Rattle.rules.specs.CodeBytes.{opcodes}
use Rattle.code.specs.declared.opcode.Opcode.{Opcode}
use Rattle.code.specs.declared.opcode.Opcode.TheVariants.{Push, Throw, Add, Pop, Mark, Unmark, Set, Reset}
use Rattle.code.specs.declared.opcode.UnknownOpcode.{UnknownOpcode}

abbrev pub opcode_number : Opcode → ℕ
opcode_number Push = 1
opcode_number Throw = 2
opcode_number Add = 3
opcode_number Pop = 4
opcode_number Mark = 5
opcode_number Unmark = 6
opcode_number Set = 7
opcode_number Reset = 8

abbrev pub Decodes : ℕ → Result Opcode UnknownOpcode → Type 0
Decodes byte answer = MatchResult answer (λ opcode. opcode_number opcode ≡ byte) (λ unknown. row_numbered opcodes byte ≡ none)
