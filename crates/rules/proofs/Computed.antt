-- What is only computed, by opening the definitions.
--
--   Computing     the definitions to open
--   Rehearsed     R1 to R12
--   Tried         small tables and codes: the refusals 1 to 12, the order of tests, the buffers
--   Foreign       document 01's foreign codes
--   Witnesses     the mistakes that are easy to make, and the bounds of demand 3, each met by a run
--   ExactBounds   the same bounds over bytes: a smaller one is false
--   Lines         lines of the rehearsal program
pub mod Computing
pub mod ExactBounds
pub mod Foreign
pub mod Lines
pub mod Rehearsed
pub mod Tried
pub mod Witnesses
