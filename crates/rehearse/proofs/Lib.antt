-- What the proofs of the rehearsal's line, and of reading, rest on.
--
--   Decimal   the digits of a number
--   Fields    the line of an answer, by its fields
--   Tables    what a rehearsal comes to, by what compiling answers
--   Inputs    the line of an input, by its length
--   Turns     what a call of `read` leaves
pub mod Decimal
pub mod Fields
pub mod Inputs
pub mod Tables
pub mod Turns
