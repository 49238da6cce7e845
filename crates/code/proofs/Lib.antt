-- What the proofs of the checker of code rest on.
--
--   Checking   what checking answers, by its tests
--   Opcodes    the row of an opcode, and test 11 by it
--   Reading    what reading an instruction answers, by its tests
pub mod Checking
pub mod Opcodes
pub mod Reading
