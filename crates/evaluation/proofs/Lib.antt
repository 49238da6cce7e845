-- What the proofs of the evaluation rest on.
--
--   Evaluating   what evaluating a node asks of its operands, and the answer for a table
pub mod Evaluating
