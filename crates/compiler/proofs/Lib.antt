-- What the proofs of the compiler rest on.
--
--   Measuring   the pass along an accepted table adds up the code length
--   Operands    the operands of a node of an accepted table, and what it adds to their code
--   Writing     the stores that are made for a node are one store of its code
--   Emitting    what each call and each store of `emit` asks and comes to
--   Compiling   what compiling answers and leaves
pub mod Compiling
pub mod Emitting
pub mod Measuring
pub mod Operands
pub mod Writing
